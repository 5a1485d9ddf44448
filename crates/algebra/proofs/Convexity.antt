-- Half-spaces along a delay: one that a vector satisfies now and after δ holds at each time between.
use mathlib.Core.Path.{◌≡◌, sym, ◌∙◌, ap}
use Prim.Native.Nat.{ℕ, suc, ◌≤◌, ◌<◌}
use native.Mathlib.Omega.{arith}
use lib.IntN.{pos}
use Rattle.numbers.specs.Numbers.{Num, IsFin, ◌≼◌, ◌▷◌, ◌⊗◌}
use Rattle.numbers.specs.Places.{Vec, side_of}
use Rattle.numbers.proofs.NumberLaws.{≼_trans, ≼_of_eq, dec_fin, not_fin, fin_up}
use Rattle.numbers.proofs.NumberLaws.{▷_fin, ▷_fin', ▷_mono, ▷_cancel, ▷_⊗, ▷_le, ▷_up}
use Rattle.algebra.proofs.Entries.{places}
use Rattle.algebra.proofs.HalfSpace.{Sat, side_le, side_at_lem, side_mono, side_sup}
use Rattle.algebra.proofs.Delay.{later, later_last, later_clock}

-- a half-space that holds at X and after δ holds after every t up to δ
pub convex : (n : ℕ) (a b X : Vec) (t δ : ℕ) → t ≤ δ → Sat (suc n) a b X → Sat (suc n) a b (later n (pos δ) X)
    → Sat (suc n) a b (later n (pos t) X)
convex n a b X t δ h s0 s1 = side_sup (suc n) a (at t) b_z (places n (λ j. a j ⊗ at t j ≼ b_z) at_last at_clock)
  where
    at : ℕ → Vec
    at τ = later n (pos τ) X

    b_z : Num
    b_z = side_of (suc n) b (at t)

    up : (k : ℕ) → k < suc n → X k ≼ at t k
    up = places n (λ k. X k ≼ at t k) (≼_of_eq (sym (later_last n (pos t) X)))
        (λ k l. rw (later_clock n (pos t) X k l) (▷_up {c = pos t} (omega arith) (X k)))

    at_last : a n ⊗ at t n ≼ b_z
    at_last = rw (later_last n (pos t) X)
        (≼_trans (side_le (suc n) a X n (omega arith)) (≼_trans s0 (side_mono (suc n) b X (at t) up)))

    -- a term at a clock is shifted
    term : (τ : ℕ) (c : Vec) (k : ℕ) → k < n → pos τ ▷ (c k ⊗ X k) ≡ c k ⊗ at τ k
    term τ c k l = ▷_⊗ (pos τ) (c k) (X k) ∙ ap (λ x. c k ⊗ x) (sym (later_clock n (pos τ) X k l))

    end : b n ⊗ at δ n ≡ b n ⊗ at t n
    end = ap (λ x. b n ⊗ x) (later_last n (pos δ) X ∙ sym (later_last n (pos t) X))

    -- the place k that decides the side b after δ: the last one, or a clock
    there : (j k : ℕ) → k < suc n → pos δ ▷ (a j ⊗ X j) ≼ b k ⊗ at δ k → pos t ▷ (a j ⊗ X j) ≼ b_z
    there j = places n (λ k. pos δ ▷ T ≼ b k ⊗ at δ k → pos t ▷ T ≼ b_z) by_last by_clock
      where
        T : Num
        T = a j ⊗ X j

        by_last : pos δ ▷ T ≼ b n ⊗ at δ n → pos t ▷ T ≼ b_z
        by_last q = ≼_trans (▷_le {c = pos t} {e = pos δ} (omega arith) T)
            (≼_trans q (≼_trans (≼_of_eq end) (side_le (suc n) b (at t) n (omega arith))))

        by_clock : (k : ℕ) → k < n → pos δ ▷ T ≼ b k ⊗ at δ k → pos t ▷ T ≼ b_z
        by_clock k m q = ≼_trans (▷_mono (pos t) now)
            (≼_trans (≼_of_eq (term t b k m)) (side_le (suc n) b (at t) k (omega arith)))
          where
            now : T ≼ b k ⊗ X k
            now = ▷_cancel (pos δ) T (b k ⊗ X k) (≼_trans q (≼_of_eq (sym (term δ b k m))))

    at_clock : (j : ℕ) → j < n → a j ⊗ at t j ≼ b_z
    at_clock j l = ≼_trans (≼_of_eq (sym (term t a j l))) (go (dec_fin (a j ⊗ X j)))
      where
        low : pos δ ▷ (a j ⊗ X j) ≼ side_of (suc n) b (at δ)
        low = ≼_trans (≼_of_eq (term δ a j l)) (≼_trans (side_le (suc n) a (at δ) j (omega arith)) s1)

        go : Dec (IsFin (a j ⊗ X j)) → pos t ▷ (a j ⊗ X j) ≼ b_z
        go (no f) = not_fin (pos t ▷ (a j ⊗ X j)) (λ q. f (▷_fin (pos t) (a j ⊗ X j) q))
        go (yes f) =
            let (k, m, e) = side_at_lem (suc n) b (at δ) (fin_up (▷_fin' (pos δ) (a j ⊗ X j) f) low) in
            there j k m (≼_trans low (≼_of_eq e))
