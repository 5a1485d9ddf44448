-- Where the vectors of a list of words stand.
use mathlib.Core.Path.{◌≡◌}
use mathlib.Core.List.{List}
use Prim.Native.Nat.{ℕ, ◌+◌, ◌-◌, ◌*◌, ◌/◌, ◌≤◌, ◌<◌}
use native.Mathlib.Nat.{mul-le-mul_right, suc-mul, div-mul-le_self, div-le_self}
use native.Mathlib.Omega.{arith}
use lib.IntN.{ℤ}
use lib.ListN.{length, take, drop, length-drop}
use lib.Seq.{length-take-le}
use Rattle.sets.specs.Tests.{part}

-- row i of m rows of w words ends within them
pub row_ends : (i m w k : ℕ) → i < m → m * w ≤ k → i * w + w ≤ k
row_ends i m w k l h = omega (arith, mul-le-mul_right w l, suc-mul i w)

-- so it does in the whole vectors of k words
pub row_inside : (i w k : ℕ) → i < k / w → i * w + w ≤ k
row_inside i w k l = row_ends i (k / w) w k l (div-mul-le_self k w)

-- there are at most as many rows as words
pub row_few : (i w k : ℕ) → i < k / w → i < k
row_few i w k l = omega (arith, div-le_self k w)

-- the words that `&l[a..a + w]` lends
pub part_is : (l : List ℤ) (a w : ℕ) → take (a + w - a) (drop a l) ≡ part l a w
unfolding part
part_is l a w = let e : a + w - a ≡ w = omega arith in rw e

-- how many they are
pub part_long : (l : List ℤ) (a w : ℕ) → a + w ≤ length l → length (part l a w) ≡ w
unfolding part
part_long l a w h = length-take-le w (drop a l) (simp length-drop (omega arith))
