-- When a list of words is well shaped, and when its entries are within their limits.
use Rattle.std.specs.Prelude.{List, ◌⊎◌, ◌≡◌, ℕ, suc, ◌*◌, ◌≤◌, ◌<◌, ℤ, length}
use Rattle.numbers.specs.Numbers.{Num, −∞, ◌≼◌, nought, million, minus_million}
use Rattle.numbers.specs.Places.{entries}
use Rattle.algebra.specs.Vectors.{Vector, entry, vector, vectors, count, IsPoint, IsRay}

-- 1 to 6 clocks
pub record Clocks (n : ℕ) : Type 0 where
  pub some : 1 ≤ n
  pub few : n ≤ 6

-- whole vectors, at most 32
pub record Whole (n : ℕ) (l : List ℤ) : Type 0 where
  pub exact : length l ≡ count n l * suc n
  pub few : count n l ≤ 32

-- from a to b
pub record Between (a b x : Num) : Type 0 where
  pub low : a ≼ x
  pub high : x ≼ b

-- −∞, or from −1,000,000 to 1,000,000
abbrev pub Loose : Num → Type 0
Loose x = (x ≡ −∞) ⊎ Between minus_million million x

-- a point within its limits
pub record PointLimits (n : ℕ) (v : Vector) : Type 0 where
  pub last : IsPoint n v
  pub clocks : (j : ℕ) → j < n → Between nought million (entry v j)

-- a ray within its limits
pub record RayLimits (n : ℕ) (v : Vector) : Type 0 where
  pub last : IsRay n v
  pub clocks : (j : ℕ) → j < n → Loose (entry v j)
  pub some : (j : ℕ) × (j < n) × (entry v j ≡ −∞ → ⊥)

-- every vector of the list is a point or a ray within its limits
abbrev pub ListLimits : ℕ → List ℤ → Type 0
ListLimits n l = (i : ℕ) → i < count n l
    → PointLimits n (vector (vectors n l) i) ⊎ RayLimits n (vector (vectors n l) i)

-- the entries of a tested point
abbrev pub TestedLimits : ℕ → List ℤ → Type 0
TestedLimits n p = (j : ℕ) → j < n → Between nought million (entries p j)
