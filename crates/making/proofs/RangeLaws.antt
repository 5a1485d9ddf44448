-- The limits of a result as the code tests them.
use mathlib.Core.Bool.{Bool, true, false, not, cond}
use mathlib.Core.List.{List}
use mathlib.Core.Logic.{◌⊎◌, inl, inr}
use mathlib.Core.Path.{◌≡◌, refl, ◌∙◌, ap}
use Prim.Native.Nat.{ℕ, zero, suc, ◌+◌, ◌*◌, ◌≤◌, ◌<◌}
use native.Mathlib.Numerals.{add-one}
use native.Mathlib.Omega.{arith}
use borrow.Author.Tests.{eqb-false}
use lib.Dec.{eqb, eqb→eq}
use lib.IntN.{ℤ, pos, negsuc}
use lib.ListN.{length, take}
use lib.Seq.{get_or-take, length-take-le}
use lib.Signed.{le_z, mag}
use mir.Syntax.{w32}
use mir.Val.{SFits, of_z, to_z}
use Rattle.numbers.specs.Numbers.{at_most, million}
use Rattle.numbers.specs.Words.{number}
use Rattle.numbers.specs.Places.{Vec, entries}
use Rattle.numbers.specs.Tests.{every}
use Rattle.numbers.proofs.WordLaws.{Marked, Finite, seen, is_mark_lem, not_mark, back}
use Rattle.algebra.specs.Working.{is_point}
use Rattle.sets.specs.Rules.{flat}
use Rattle.sets.specs.Tests.{part}
use Rattle.sets.proofs.RowLaws.{row_ends}
use Rattle.sets.proofs.FlatLaws.{part_flat}
use Rattle.making.specs.Rules.{entry_ok}
use Rattle.making.proofs.Rows.{every_ext}
use Rattle.making.specs.Finish.{row_ok}

-- an entry of a point: the mark is within the limits
pub point_fits : {x : ℤ} → SFits w32 x → le_z x (pos 1000000) ≡ entry_ok true (number x)
point_fits {x} f = go (seen f)
  where
    go : Marked x ⊎ Finite x → le_z x (pos 1000000) ≡ at_most (number x) million
    go (inl m) = rw (m.is, m.mark) refl
    go (inr p) = rw p.is

-- an entry of a ray
pub ray_marked : {x : ℤ} → Marked x → true ≡ entry_ok false (number x)
ray_marked m = rw m.is

-- one that is not the mark is looked at
pub ray_finite : {x : ℤ} → Finite x → le_z (negsuc 999999) x ≡ entry_ok false (number x)
ray_finite p = rw p.is

-- whether an entry is one of a point: the test `last != MARK` on the bits of the vector's last word
pub point_last : {x : ℤ} → SFits w32 x → not (eqb (of_z w32 x) 2147483648) ≡ is_point (number x)
point_last {x} f = go (eqb (of_z w32 x) 2147483648) refl
  where
    go : (b : Bool) → eqb (of_z w32 x) 2147483648 ≡ b → not b ≡ is_point (number x)
    go true e = rw (is_mark_lem f (eqb→eq (of_z w32 x) 2147483648 (rw e tt))).is
    go false e = rw (not_mark f (eqb-false (of_z w32 x) 2147483648 e)).is

-- the test of an entry, on the bits of the entry and of the last word
pub entry_test : (last x : ℤ) → mag last < 2147483648 → mag x < 2147483648
    → entry_ok (not (eqb (of_z w32 last) 2147483648)) (number (to_z w32 (of_z w32 x)))
    ≡ entry_ok (is_point (number last)) (number x)
entry_test last x f g = rw (back g, point_last {x = last} (record { sfits = f }))

-- vectors with the same entries
pub row_ext : (n : ℕ) (X Y : Vec) → ((j : ℕ) → j < n + 1 → X j ≡ Y j) → row_ok n X ≡ row_ok n Y
unfolding row_ok
row_ext n X Y e = go n (omega arith)
  where
    go : (k : ℕ) → k ≤ n
        → every k (λ j. entry_ok (is_point (X n)) (X j)) ≡ every k (λ j. entry_ok (is_point (Y n)) (Y j))
    go zero h = refl
    go (suc k) h = rw (go k (omega arith), e n (omega arith), e k (omega arith))

-- vector i of m ends within the words
pub row_room : (n i m k : ℕ) → i < m → m * suc n ≤ k → i * (n + 1) + (n + 1) ≤ k
row_room n i m k l h = row_ends i m (n + 1) k l (rw (add-one n) h)

-- the test of vector i
pub row_test : (n : ℕ) (work v : List ℤ) (i : ℕ) → v ≡ part work (i * (n + 1)) (n + 1)
    → row_ok n (entries v) ≡ row_ok n (flat (n + 1) work i)
row_test n work v i e = ap (λ (v : List ℤ). row_ok n (entries v)) e
    ∙ row_ext n _ _ (λ j b. part_flat (n + 1) work i j b)

-- a vector is within the limits if its flag is off, or if it passes
module _ (b r : Bool) where
  -- off: it is not looked at
  pub off_passes : b ≡ false → cond b r true ≡ true
  off_passes e = rw e

  -- on: its test decides
  pub on_is : b ≡ true → cond b r true ≡ r
  on_is e = rw e

-- the test of the words before the last
pub row_front : (n : ℕ) (v : List ℤ) → n ≤ length v
    → every (length (take n v)) (λ j. entry_ok (is_point (entries v n)) (entries (take n v) j)) ≡ row_ok n (entries v)
unfolding row_ok
row_front n v h = rw (length-take-le n v h)
    (every_ext n (λ j l. ap (λ x. entry_ok (is_point (entries v n)) (number x)) (get_or-take n v j (pos 0) l)))
