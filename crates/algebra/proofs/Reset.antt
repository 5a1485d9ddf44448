-- Reset of clock i to c: entry i becomes c at a point and −∞ at a ray, which is c ⊗ the last entry.
use mathlib.Core.Path.{◌≡◌, refl, sym, ◌∙◌, ap}
use mathlib.Core.Logic.{◌↔◌}
use Prim.Native.Nat.{ℕ, suc, ◌<◌}
use native.Mathlib.Omega.{arith}
use native.Mathlib.Decide.{ℕ_discrete}
use Rattle.numbers.specs.Numbers.{Num, ◌⊗◌, ⨁, nought}
use Rattle.numbers.specs.Places.{Vec}
use Rattle.numbers.proofs.NumberLaws.{⨁_ext, ⨁_⊗, ⊗_left_comm}
use Rattle.algebra.proofs.Entries.{Same, replace, replace_same, replace_other}
use Rattle.algebra.proofs.Residuation.{Gen, rows, gen_iff_span}
use Rattle.algebra.proofs.Rays.{Member}

-- X after the reset
abbrev pub reset : ℕ → ℕ → Num → Vec → Vec
reset n i c X = replace X i (c ⊗ X n)

-- a combination, after the reset, is the combination of the vectors after the reset
combined : (n m : ℕ) (G : ℕ → Vec) (i : ℕ) (c : Num) (a : ℕ → Num) (X : Vec)
    → Same (suc n) X (λ j. ⨁ m (λ r. a r ⊗ G r j))
    → Same (suc n) (reset n i c X) (λ j. ⨁ m (λ r. a r ⊗ reset n i c (G r) j))
combined n m G i c a X e j l = go (ℕ_discrete j i)
  where
    there : reset n i c X i ≡ ⨁ m (λ r. a r ⊗ reset n i c (G r) i)
    there = replace_same X i (c ⊗ X n) ∙ ap (λ x. c ⊗ x) (e n (omega arith)) ∙ ⨁_⊗ c m (λ r. a r ⊗ G r n)
        ∙ ⨁_ext m (λ r. c ⊗ a r ⊗ G r n) (λ r. a r ⊗ reset n i c (G r) i) one
      where
        one : (r : ℕ) → r < m → c ⊗ a r ⊗ G r n ≡ a r ⊗ reset n i c (G r) i
        one r h = ⊗_left_comm c (a r) (G r n) ∙ ap (λ x. a r ⊗ x) (sym (replace_same (G r) i (c ⊗ G r n)))

    go : Dec (j ≡ i) → reset n i c X j ≡ ⨁ m (λ r. a r ⊗ reset n i c (G r) j)
    go (yes q) = rw q there
    go (no q) = replace_other X i (c ⊗ X n) j q ∙ e j l
        ∙ ⨁_ext m (λ r. a r ⊗ G r j) (λ r. a r ⊗ reset n i c (G r) j)
        (λ r h. ap (λ x. a r ⊗ x) (sym (replace_other (G r) i (c ⊗ G r n) j q)))

-- the vectors after the reset have exactly the members of the set, each after the reset
pub reset_set : (n m : ℕ) (G : ℕ → Vec) (i : ℕ) (c : Num) → i < n → (Y : Vec)
    → Member n (rows m (λ r. reset n i c (G r))) Y
    ↔ ((X : Vec) × Member n (rows m G) X × Same (suc n) Y (reset n i c X))
unfolding Gen
reset_set n m G i c il Y = (to, from)
  where
    RG : ℕ → Vec
    RG = λ r. reset n i c (G r)

    last : (X : Vec) → reset n i c X n ≡ X n
    last X = replace_other X i (c ⊗ X n) n (omega arith)

    to : Member n (rows m RG) Y → (X : Vec) × Member n (rows m G) X × Same (suc n) Y (reset n i c X)
    to (y0, s) = let (a, e) = (gen_iff_span (suc n) m RG Y).1 s in made a e
      where
        made : (a : ℕ → Num) → Same (suc n) Y (λ j. ⨁ m (λ r. a r ⊗ RG r j))
            → (X : Vec) × Member n (rows m G) X × Same (suc n) Y (reset n i c X)
        made a e = (X, (x0, (gen_iff_span (suc n) m G X).0 (a, λ j l. refl)), q)
          where
            X : Vec
            X = λ j. ⨁ m (λ r. a r ⊗ G r j)

            q : Same (suc n) Y (reset n i c X)
            q j l = e j l ∙ sym (combined n m G i c a X (λ k h. refl) j l)

            x0 : X n ≡ nought
            x0 = sym (last X) ∙ (sym (q n (omega arith)) ∙ y0)

    from : (X : Vec) × Member n (rows m G) X × Same (suc n) Y (reset n i c X) → Member n (rows m RG) Y
    from (X, (x0, s), q) =
        let (a, e) = (gen_iff_span (suc n) m G X).1 s in
        let y0 = q n (omega arith) ∙ (last X ∙ x0) in
        (y0, (gen_iff_span (suc n) m RG Y).0 (a, λ j l. q j l ∙ combined n m G i c a X e j l))
