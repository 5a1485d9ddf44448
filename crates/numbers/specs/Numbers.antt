-- Numbers: −∞ or an integer. Their order, the larger of two, the product, the largest of several.
use Rattle.std.specs.Prelude.{Bool, true, false, cond, ℕ, zero, suc, ◌+◌, ◌≤◌, ℤ, pos, negsuc, ◌+ℤ◌}
use Rattle.std.specs.Int.Signed.{le_z}
use Rattle.numbers.specs.Integers.{hi, lo}

-- −∞ or an integer
pub data Num : Type 0 where
  −∞ : Num
  fin : ℤ → Num

-- the order: −∞ is below all; integers by their own order
abbrev pub Le : Num → Num → Type 0
Le −∞ y = Unit {0}
Le (fin a) −∞ = ⊥
Le (fin a) (fin b) = hi a + lo b ≤ hi b + lo a

-- x is at most y
infix 50 ◌≼◌
pub record ◌≼◌ (x y : Num) : Type 0 where
  pub le : Le x y

-- the same order as a test
abbrev pub at_most : Num → Num → Bool
at_most −∞ y = true
at_most (fin a) −∞ = false
at_most (fin a) (fin b) = le_z a b

-- the larger of two: it is above both, it is one of the two, and it is below whatever is above both (NumberLaws)
infixl 60 ◌⊕◌
unfoldable pub ◌⊕◌ : Num → Num → Num
x ⊕ y = cond (at_most x y) y x

-- a number shifted by an integer; −∞ stays
infixr 70 ◌▷◌
abbrev pub ◌▷◌ : ℤ → Num → Num
c ▷ −∞ = −∞
c ▷ fin a = fin (c +ℤ a)

-- the product: integers are added, −∞ absorbs
infixr 70 ◌⊗◌
abbrev pub ◌⊗◌ : Num → Num → Num
−∞ ⊗ y = −∞
fin c ⊗ y = c ▷ y

-- the largest of f 0, .., f (m − 1), and −∞ of none
unfoldable pub ⨁ : ℕ → (ℕ → Num) → Num
⨁ zero f = −∞
⨁ (suc m) f = ⨁ m f ⊕ f m

-- a number that is not −∞
abbrev pub IsFin : Num → Type 0
IsFin −∞ = ⊥
IsFin (fin a) = Unit {0}

-- −∞, or an integer from −k to k
abbrev pub Near : ℕ → Num → Type 0
Near k −∞ = Unit {0}
Near k (fin z) = (hi z ≤ k) × (lo z ≤ k)

-- x is −∞, or an integer from −k to k
pub record Within (k : ℕ) (x : Num) : Type 0 where
  pub near : Near k x

-- 0, the least entry of a point
abbrev pub nought : Num
nought = fin (pos 0)

-- 1,000,000, the largest entry
abbrev pub million : Num
million = fin (pos 1000000)

-- −1,000,000, the least entry of a ray but for −∞
abbrev pub minus_million : Num
minus_million = fin (negsuc 999999)
