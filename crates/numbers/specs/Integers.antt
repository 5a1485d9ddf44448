-- Integers as differences of naturals: z is hi z − lo z, so that an order of integers is one of naturals.
use Rattle.std.specs.Prelude.{ℕ, suc, ◌+◌, ◌≤◌, ℤ, pos, negsuc}

-- how far an integer is above 0
abbrev pub hi : ℤ → ℕ
hi (pos n) = n
hi (negsuc n) = 0

-- how far it is below 0
abbrev pub lo : ℤ → ℕ
lo (pos n) = 0
lo (negsuc n) = suc n

-- a is at most b
infix 4 ◌⊑◌
pub record ◌⊑◌ (a b : ℤ) : Type 0 where
  pub le : hi a + lo b ≤ hi b + lo a
