-- A half-space holds of clock values exactly if their numbers satisfy it.
use mathlib.Core.Bool.{Bool, true, false}
use mathlib.Core.List.{[], ◌∷◌}
use mathlib.Core.Logic.Iff
use mathlib.Core.Logic.{◌↔◌}
use mathlib.Core.Path.{◌≡◌, refl, sym, ap, ◌∙◌, subst, subst₂}
use Prim.Native.Nat.{ℕ, zero, suc, ◌≤◌, ◌<◌}
use native.Mathlib.Decide.{dec_lt}
use native.Mathlib.Omega.{arith}
use lib.Dec.{T}
use lib.IntN.{ℤ, pos}
use lib.ListN.{length}
use lib.Signed.{◌≤ℤ◌, le_z}
use Rattle.numbers.specs.Numbers.{Num, −∞, fin, ◌≼◌, ◌⊗◌, nought}
use Rattle.numbers.specs.Places.{Vec, side_of}
use Rattle.numbers.proofs.Tells.{passes}
use Rattle.numbers.proofs.NumberLaws.{tells_at_most, low_≼, ≼_trans, fin_up, fin_low}
use Rattle.algebra.specs.Vectors.{Vector, entry}
use Rattle.algebra.specs.Wanted.{Satisfies}
use Rattle.algebra.proofs.HalfSpace.{Sat, side_le, side_sup, side_at_lem}
use Rattle.algebra.proofs.Lists.{spot, spot_last, spot_clock}
use Rattle.algebra.proofs.Made.{satisfies_iff}
use Rattle.runs.specs.Models.{half_space}
use Rattle.runs.specs.Runs.{Values, clock, term, Covers, Holds}
use Rattle.runs.specs.Closure.{numbers}

-- ---- integers and values as numbers
T_true : (b : Bool) → T b → b ≡ true
T_true true t = refl
T_true false t = absurd t

-- the integers' order is the numbers'
pub order : (a b : ℤ) → (a ≤ℤ b) ↔ (fin a ≼ fin b)
order a b = (
  λ h. (tells_at_most (fin a) (fin b)).yes (T_true (le_z a b) h.le),
  λ h. record { le = subst T (sym (passes (tells_at_most (fin a) (fin b)) h)) tt },
)

-- the entry of a clock
pub value : (v : Values) (x : ℕ) → x < length v → entry (numbers v) x ≡ fin (pos (clock v x))
value [] x l = absurd (omega arith)
value (k ∷ v) zero l = refl
value (k ∷ v) (suc x) l = value v x (omega arith)

-- behind the last clock a value is 0
past : (v : Values) (x : ℕ) → length v ≤ x → clock v x ≡ 0
past [] x l = refl
past (k ∷ v) zero l = absurd (omega arith)
past (k ∷ v) (suc x) l = past v x (omega arith)

-- an entry that is not −∞ stands in its vector
stands_in : (ab : Vector) (i : ℕ) {a : ℤ} → entry ab i ≡ fin a → i < length ab
stands_in [] i e = absurd (fin_low (sym e))
stands_in (x ∷ ab) zero e = omega arith
stands_in (x ∷ ab) (suc i) e = let l = stands_in ab i e in omega arith

-- the values, and 0 behind them
abbrev pub spots : ℕ → Values → Vec
spots n v = spot n nought (numbers v)

-- ---- a half-space
module _ (n : ℕ) (v : Values) (e : length v ≡ n) where
  -- what stands at a place
  pub value_at : (x : ℕ) → x < suc n → spots n v x ≡ fin (pos (clock v x))
  value_at x l = by (dec_lt x n)
    where
      by : Dec (x < n) → spots n v x ≡ fin (pos (clock v x))
      by (yes m) = spot_clock n nought (numbers v) x m ∙ value v x (omega (arith, e))
      by (no m) =
          let q : x ≡ n = omega (arith, m) in
          ap (spots n v) q ∙ (spot_last n nought (numbers v) ∙ ap (λ k. fin (pos k)) (sym (past v x (omega (arith, e, m)))))

  module _ (ab cd : Vector) (left : length ab ≡ suc n) (right : length cd ≡ suc n) where
    -- an entry that is not −∞ has its term
    term_is : (side : Vector) (i : ℕ) (a : ℤ) → i < suc n → entry side i ≡ fin a
        → entry side i ⊗ spots n v i ≡ fin (term v i a)
    term_is side i a l q = ap (λ x. x ⊗ spots n v i) q ∙ ap (λ x. fin a ⊗ x) (value_at i l)

    -- each term on the left is at most one on the right, exactly if the left side is at most the right one
    pub half_space_means : Holds (half_space ab cd) v ↔ Satisfies n ab cd (numbers v)
    half_space_means = Iff.trans (to, from) (Iff.symm (satisfies_iff n ab cd (numbers v)))
      where
        to : Holds (half_space ab cd) v → Sat (suc n) (entry ab) (entry cd) (spots n v)
        to h = side_sup (suc n) (entry ab) (spots n v) _ (λ i l. by i l (entry ab i) refl)
          where
            by : (i : ℕ) → i < suc n → (x : Num) → entry ab i ≡ x
                → entry ab i ⊗ spots n v i ≼ side_of (suc n) (entry cd) (spots n v)
            by i l −∞ q = rw q low_≼
            by i l (fin a) q =
                let c = h i a q in
                let m : c.place < suc n = omega (arith, stands_in cd c.place c.stands) in
                ≼_trans (subst₂ (λ x y. x ≼ y) (sym (term_is ab i a l q)) (sym (term_is cd c.place c.number m c.stands))
                ((order _ _).0 c.above)) (side_le (suc n) (entry cd) (spots n v) c.place m)

        from : Sat (suc n) (entry ab) (entry cd) (spots n v) → Holds (half_space ab cd) v
        from h i a q = by (entry cd k) refl
          where
            l : i < suc n
            l = omega (arith, stands_in ab i q)

            under : fin (term v i a) ≼ side_of (suc n) (entry cd) (spots n v)
            under = subst (λ x. x ≼ side_of (suc n) (entry cd) (spots n v)) (term_is ab i a l q)
                (≼_trans (side_le (suc n) (entry ab) (spots n v) i l) h)

            top : (k : ℕ) × (k < suc n) × (side_of (suc n) (entry cd) (spots n v) ≡ entry cd k ⊗ spots n v k)
            top = side_at_lem (suc n) (entry cd) (spots n v) (fin_up tt under)

            k : ℕ
            k = top.0

            by : (x : Num) → entry cd k ≡ x → Covers cd v (term v i a)
            by −∞ r = absurd (rw (top.2, r) at under).le
            by (fin c) r = record {
              place = k;
              number = c;
              stands = r;
              above = (order _ _).1 (subst (λ x. fin (term v i a) ≼ x) (top.2 ∙ term_is cd k c top.1 r) under);
            }
