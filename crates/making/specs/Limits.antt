-- Shape and limits of what the making calls take besides lists, and the limits of a result.
use Rattle.std.specs.Prelude.{List, ◌⊎◌, ◌≡◌, ℕ, suc, ◌*◌, ◌≤◌, ◌<◌, ℤ, length}
use Rattle.numbers.specs.Numbers.{−∞, ◌≼◌, nought, million, minus_million}
use Rattle.numbers.specs.Words.{number}
use Rattle.numbers.specs.Places.{entries}
use Rattle.algebra.specs.Vectors.{Vector, entry, vector, IsPoint, IsRay}
use Rattle.sets.specs.Limits.{Between, Loose}

-- an area for a result has room for 32 vectors
abbrev pub Roomy : ℕ → List ℤ → Type 0
Roomy n area = 32 * suc n ≤ length area

-- the entries of a half-space of 2(n + 1) words; a shorter one is refused before its entries are looked at
abbrev pub HalfLimits : ℕ → List ℤ → Type 0
HalfLimits n h = (j : ℕ) → j < 2 * suc n → Loose (entries h j)

-- clock i may be reset to c
pub record ResetLimits (n i : ℕ) (c : ℤ) : Type 0 where
  pub clock : i < n
  pub value : Between nought million (number c)

-- no point entry is over 1,000,000 and no ray entry below −1,000,000; −∞ is no entry below it.
-- The vectors of a set have entries of 0 and more, and a canonical ray none above 0, so nothing else can be passed
pub record InRange (n : ℕ) (L : List Vector) : Type 0 where
  pub points : (i j : ℕ) → i < length L → j < n → IsPoint n (vector L i) → entry (vector L i) j ≼ million
  pub rays : (i j : ℕ) → i < length L → j < n → IsRay n (vector L i)
      → (entry (vector L i) j ≡ −∞) ⊎ (minus_million ≼ entry (vector L i) j)
