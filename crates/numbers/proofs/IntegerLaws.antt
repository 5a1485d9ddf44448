-- Integers for `omega`: `omega zarith` reads and proves _≡_, lt_z, le_z and ⊑ of integers.
-- Each sum, difference or negation in sight wants its law in the list: `sum a b`, `diff a b`, `neg a`.
use mathlib.Core.Path.{◌≡◌, refl, sym, ap, subst}
use mathlib.Core.Bool.{Bool, true, false, cond}
use Prim.Native.Nat.{ℕ, zero, suc, ◌+◌, ◌-◌, ◌≤◌, ◌<◌}
use native.Mathlib.Omega.{arith}
use lib.Dec.{T, ltb, ltb→lt, nltb→le, leb→le, nleb→lt}
use lib.IntN.{ℤ, pos, negsuc, sub_ℕ, ◌+ℤ◌, ◌-ℤ◌, neg_ℤ}
use lib.Signed.{lt_z, le_z}
use Rattle.numbers.specs.Integers.{hi, lo}

-- integers with equal differences are equal
pub same : (a b : ℤ) → hi a + lo b ≡ hi b + lo a → a ≡ b
same (pos a) (pos b) e = ap pos (omega arith)
same (pos a) (negsuc b) e = absurd (omega arith)
same (negsuc a) (pos b) e = absurd (omega arith)
same (negsuc a) (negsuc b) e = ap negsuc (omega arith)

-- equal integers have equal differences
pub same_of : (a b : ℤ) → a ≡ b → hi a + lo b ≡ hi b + lo a
same_of a b e = rw e

sub_by : (t : Bool) (a b : ℕ) → ltb a b ≡ t
    → hi (cond t (negsuc (b - suc a)) (pos (a - b))) + b ≡ a + lo (cond t (negsuc (b - suc a)) (pos (a - b)))
sub_by true a b e = let h : a < b = ltb→lt a b (rw e tt) in omega arith
sub_by false a b e = let h : b ≤ a = nltb→le a b (rw e tt) in omega arith

sub_is : (a b : ℕ) → hi (sub_ℕ a b) + b ≡ a + lo (sub_ℕ a b)
sub_is a b = sub_by (ltb a b) a b refl

-- the parts of a sum
pub sum : (a b : ℤ) → hi (a +ℤ b) + (lo a + lo b) ≡ (hi a + hi b) + lo (a +ℤ b)
sum (pos a) (pos b) = omega arith
sum (pos a) (negsuc b) = omega (arith, sub_is a (suc b))
sum (negsuc a) (pos b) = omega (arith, sub_is b (suc a))
sum (negsuc a) (negsuc b) = omega arith

-- a negation exchanges the parts
pub neg : (a : ℤ) → (hi (neg_ℤ a) ≡ lo a) × (lo (neg_ℤ a) ≡ hi a)
neg (pos zero) = (refl, refl)
neg (pos (suc n)) = (refl, refl)
neg (negsuc n) = (refl, refl)

-- the parts of a difference
pub diff : (a b : ℤ) → hi (a -ℤ b) + (lo a + hi b) ≡ (hi a + lo b) + lo (a -ℤ b)
diff a b = omega (arith, sum a (neg_ℤ b), neg b)

-- one of the two parts is 0, so a bound on their difference bounds the first
pub hi_le : (a : ℤ) (n : ℕ) → hi a ≤ lo a + n → hi a ≤ n
hi_le (pos a) n h = omega arith
hi_le (negsuc a) n h = omega arith

-- and it bounds the second
pub lo_le : (a : ℤ) (n : ℕ) → lo a ≤ hi a + n → lo a ≤ n
lo_le (pos a) n h = omega arith
lo_le (negsuc a) n h = omega arith

-- the test `a < b` passed
pub lt_z_true : (a b : ℤ) → lt_z a b ≡ true → hi a + lo b < hi b + lo a
lt_z_true (pos a) (pos b) e = omega (arith, ltb→lt a b (rw e tt))
lt_z_true (pos a) (negsuc b) e = absurd (subst T (sym e) tt)
lt_z_true (negsuc a) (pos b) e = omega arith
lt_z_true (negsuc a) (negsuc b) e = omega (arith, ltb→lt b a (rw e tt))

-- the test `a < b` failed
pub lt_z_false : (a b : ℤ) → lt_z a b ≡ false → hi b + lo a ≤ hi a + lo b
lt_z_false (pos a) (pos b) e = omega (arith, nltb→le a b (rw e tt))
lt_z_false (pos a) (negsuc b) e = omega arith
lt_z_false (negsuc a) (pos b) e = absurd (subst T e tt)
lt_z_false (negsuc a) (negsuc b) e = omega (arith, nltb→le b a (rw e tt))

-- the test `a <= b` passed
pub le_z_true : (a b : ℤ) → le_z a b ≡ true → hi a + lo b ≤ hi b + lo a
le_z_true (pos a) (pos b) e = omega (arith, leb→le a b (rw e tt))
le_z_true (pos a) (negsuc b) e = absurd (subst T (sym e) tt)
le_z_true (negsuc a) (pos b) e = omega arith
le_z_true (negsuc a) (negsuc b) e = omega (arith, leb→le b a (rw e tt))

-- the test `a <= b` failed
pub le_z_false : (a b : ℤ) → le_z a b ≡ false → hi b + lo a < hi a + lo b
le_z_false (pos a) (pos b) e = omega (arith, nleb→lt a b (rw e tt))
le_z_false (pos a) (negsuc b) e = omega arith
le_z_false (negsuc a) (pos b) e = absurd (subst T e tt)
le_z_false (negsuc a) (negsuc b) e = omega (arith, nleb→lt b a (rw e tt))

-- what `omega` takes to read and prove facts of integers
pub ruleset zarith = (arith, same, same_of, lt_z_true, lt_z_false, le_z_true, le_z_false)
