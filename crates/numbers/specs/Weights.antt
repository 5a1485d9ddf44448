-- The largest weight at which one vector stays below another.
use Rattle.std.specs.Prelude.{Bool, false, cond, ℕ, zero, suc, eqb, ℤ, pos, negsuc, neg_ℤ, ◌+ℤ◌}
use Rattle.numbers.specs.Numbers.{Num, −∞, fin, at_most}
use Rattle.numbers.specs.Words.{number}
use Rattle.numbers.specs.Places.{Vec}

-- a bound from above on a weight: none, or a number
pub data Cap : Type 0 where
  free : Cap
  cap : Num → Cap

-- the largest c with c ⊗ g ≼ x; x − (−∞) sets no bound
abbrev pub bound : Num → Num → Cap
bound x −∞ = free
bound −∞ (fin b) = cap −∞
bound (fin a) (fin b) = cap (fin (a +ℤ neg_ℤ b))

-- the smaller of two numbers
unfoldable pub lower : Num → Num → Num
lower x y = cond (at_most x y) x y

-- the smaller of two bounds
unfoldable pub meet : Cap → Cap → Cap
meet free q = q
meet (cap x) free = cap x
meet (cap x) (cap y) = cap (lower x y)

-- what the first d places allow
unfoldable pub allowed : ℕ → Vec → Vec → Cap
allowed zero g x = free
allowed (suc d) g x = meet (allowed d g x) (bound (x d) (g d))

-- a vector that nothing bounds has −∞ everywhere; its weight does not matter and is −∞
abbrev pub value : Cap → Num
value free = −∞
value (cap x) = x

-- the largest weight at which g stays below x at the first d places
unfoldable pub weight_of : ℕ → Vec → Vec → Num
weight_of d g x = value (allowed d g x)

-- whether a bound's word stands for none: 2,147,483,647 does
abbrev pub is_free : ℤ → Bool
is_free (pos k) = eqb k 2147483647
is_free (negsuc k) = false

-- the bound that a word stands for
unfoldable pub cap_of : ℤ → Cap
cap_of z = cond (is_free z) free (cap (number z))
