-- The round trip of an entry of a half-space.
use mathlib.Core.Bool.{Bool, true, false, cond}
use mathlib.Core.List.{List, ◌++◌}
use mathlib.Core.Path.{◌≡◌, refl, sym, ap, ◌∙◌, subst}
use Prim.Native.Nat.{ℕ, zero, suc, ◌+◌, ◌-◌, ◌%◌, ◌≤◌, ◌<◌}
use native.Mathlib.Decide.{ℕ_discrete}
use native.Mathlib.Omega.{arith}
use borrow.Author.Tests.{eq-eqb, ne_eqb, eqb-true}
use lib.Dec.{eqb}
use lib.IntN.{ℤ, pos, negsuc, nat_abs}
use Rattle.numbers.specs.Numbers.{−∞, fin, Within}
use Rattle.numbers.specs.Words.{number}
use Rattle.numbers.proofs.WordLaws.{number_mark}
use Rattle.codec.specs.Number.{got, bytes_of, folded, unfolded}
use Rattle.codec.specs.Form.{read_in}
use Rattle.codec.specs.Arrays.{AreBytes}
use Rattle.codec.proofs.FoldLaws.{fold_unfold, unfold_fold}
use Rattle.codec.proofs.FormLaws.{Finds, finished}
use Rattle.codec.proofs.FormTrip.{Codes, same_got, numbered, ask_there}
use Rattle.bounds.specs.Bounds.{entry_of, entry_form}
use Rattle.bounds.specs.Limits.{EntryLimits}
use Rattle.bounds.specs.Written.{entry_number, entry_bytes}
use Rattle.bounds.proofs.LimitLaws.{entry_small}

-- a number in limits is no mark
pub number_small : (z : ℤ) → nat_abs z ≤ 1000000 → number z ≡ fin z
unfolding number
number_small (pos n) h = refl
number_small (negsuc n) h = rw (ne_eqb n 2147483647 (λ e. omega arith)) refl

-- what is unfolded is at most 1,000,000 in size
pub unfold_small : (v : ℕ) → v ≤ 2000000 → nat_abs (unfolded v) ≤ 1000000
unfold_small v h = by_half (ℕ_discrete (v % 2) 0)
  where
    by_half : Dec (v % 2 ≡ 0) → nat_abs (unfolded v) ≤ 1000000
    by_half (yes e) = rw (eq-eqb (v % 2) 0 e) (omega arith)
    by_half (no n) = rw (ne_eqb (v % 2) 0 n) (omega arith)

-- such an integer is a number within 1,000,000
pub small_near : (z : ℤ) → nat_abs z ≤ 1000000 → Within 1000000 (fin z)
small_near (pos n) h = record { near = (h, omega arith) }
small_near (negsuc n) h = record { near = (omega arith, h) }

-- a number that is not 0 is read one lower
entry_fin : (z : ℤ) → entry_of (folded z + 1) ≡ z
entry_fin z =
    let less : folded z + 1 - 1 ≡ folded z = omega arith in
    rw (ne_eqb (folded z + 1) 0 (λ e. omega arith), less) (fold_unfold z)

-- what an entry is written as is read as the entry
pub entry_read : (z : ℤ) → entry_of (entry_number (number z)) ≡ z
unfolding number
entry_read (pos n) = entry_fin (pos n)
entry_read (negsuc n) = by_test (eqb n 2147483647) refl
  where
    by_test : (b : Bool) → eqb n 2147483647 ≡ b → entry_of (entry_number (cond b −∞ (fin (negsuc n)))) ≡ negsuc n
    by_test true e = ap negsuc (sym (eqb-true n 2147483647 e))
    by_test false e = entry_fin (negsuc n)

entry_suc : (v : ℕ) → entry_of (suc v) ≡ unfolded v
entry_suc v = let less : suc v - 1 ≡ v = omega arith in rw (ne_eqb (suc v) 0 (λ e. omega arith)) (ap unfolded less)

-- what a number is read as is an entry in limits that is written as the number
pub entry_wrote : (v : ℕ) → v < 2000002 → EntryLimits (entry_of v) × (entry_number (number (entry_of v)) ≡ v)
entry_wrote zero h = rw number_mark (record { near = tt }, refl)
entry_wrote (suc v) h =
    let small = unfold_small v (omega arith) in
    subst (λ (z : ℤ). EntryLimits z × (entry_number (number z) ≡ suc v)) (sym (entry_suc v))
    (rw (number_small (unfolded v) small) (small_near (unfolded v) small, rw (unfold_fold v) (omega arith)))

-- an entry's bytes are read as it, and only they
pub codes_entry : Codes entry_form EntryLimits entry_bytes
unfolding entry_form entry_bytes read_in
codes_entry = record { there = to; back = from }
  where
    to : (z : ℤ) (t : List ℕ) → EntryLimits z → Finds entry_form (entry_bytes z ++ t) (got z t)
    to z t h =
        let v = entry_number (number z) in
        let small : v < 2000002 = entry_small (number z) h in
        subst (λ (y : ℤ). Finds entry_form (bytes_of v ++ t) (got y t)) (entry_read z)
        (ask_there v small (omega arith) finished)

    from : (z : ℤ) (s t : List ℕ) → AreBytes s → Finds entry_form s (got z t) → EntryLimits z × (s ≡ entry_bytes z ++ t)
    from z s t hs f =
        let w = numbered hs f in
        let same = same_got w.then.is in
        let back = entry_wrote w.number w.limit in
        let bytes : s ≡ bytes_of (entry_number (number (entry_of w.number))) ++ t =
        w.stood.whole ∙ ap (◌++◌ (bytes_of w.number)) same.1
        ∙ ap (λ (v : ℕ). bytes_of v ++ t) (sym back.1) in
        subst (λ (y : ℤ). EntryLimits y × (s ≡ entry_bytes y ++ t)) same.0 (back.0, bytes)
