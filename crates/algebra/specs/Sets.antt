-- The set of a list: every entrywise largest of (α + point) and (β + ray), for scalars of which the largest α is 0.
use Rattle.std.specs.Prelude.{List, ◌≡◌, ℕ, ◌<◌, ℤ, length}
use Rattle.numbers.specs.Numbers.{Num, −∞, fin, ◌⊗◌, ⨁, nought}
use Rattle.algebra.specs.Vectors.{Vector, entry, vector, vectors}

-- a set of vectors of n numbers, without the last entry that a list's vectors have
abbrev pub Set : Type 1
Set = Vector → Type 0

-- a vector's scalar if the vector is a point; a ray's does not count (the first argument is the last entry)
abbrev pub on_point : Num → Num → Num
on_point −∞ scalar = −∞
on_point (fin z) scalar = scalar

-- x is the entrywise largest of scalar + vector over the list, and the largest scalar on a point is `top`:
-- 0 for a member of the set and for a point that the list generates, −∞ for a ray, which only rays generate
pub record Combines (n : ℕ) (L : List Vector) (top : Num) (x : Vector) : Type 0 where
  pub scalar : ℕ → Num
  pub points : ⨁ (length L) (λ i. on_point (entry (vector L i) n) (scalar i)) ≡ top
  pub entries : (j : ℕ) → j < n → entry x j ≡ ⨁ (length L) (λ i. scalar i ⊗ entry (vector L i) j)

-- x is in the set of the list of vectors L
pub record In (n : ℕ) (L : List Vector) (x : Vector) : Type 0 where
  pub long : length x ≡ n
  pub made : Combines n L nought x

-- the set of a list of words
abbrev pub set_of : ℕ → List ℤ → Set
set_of n l = In n (vectors n l)

-- every vector of A is in B; so the empty set is included in every set
abbrev pub Included : Set → Set → Type 0
Included A B = (x : Vector) → A x → B x
