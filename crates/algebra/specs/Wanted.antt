-- What each call is to make, as a property of sets, with no generator in it.
use Rattle.std.specs.Prelude.{List, map, ◌≡◌, ℕ, suc, ℤ, pos, take, drop, set}
use Rattle.numbers.specs.Numbers.{Num, fin, ◌≼◌, ◌⊗◌, ◌⊕◌, ◌▷◌, ⨁}
use Rattle.numbers.specs.Words.{number}
use Rattle.algebra.specs.Vectors.{Vector, entry, PointsAndRays}
use Rattle.algebra.specs.Sets.{Set, In, Included}

-- one side of a half-space at x, the largest of (a + x, b): ab has the n entries of a, then b
abbrev pub side : ℕ → Vector → Vector → Num
side n ab x = ⨁ n (λ j. entry ab j ⊗ entry x j) ⊕ entry ab n

-- x satisfies the half-space: largest of (a + x, b) ≤ largest of (c + x, d)
abbrev pub Satisfies : ℕ → Vector → Vector → Vector → Type 0
Satisfies n ab cd x = side n ab x ≼ side n cd x

-- the two sides of a half-space of 2(n + 1) words: a and b, then c and d
abbrev pub left : ℕ → List ℤ → Vector
left n h = map number (take (suc n) h)

-- the right side: c and d
abbrev pub right : ℕ → List ℤ → Vector
right n h = map number (drop (suc n) h)

-- the vectors of S that satisfy the half-space
pub record Intersected (n : ℕ) (S : Set) (ab cd : Vector) (x : Vector) : Type 0 where
  pub from : S x
  pub satisfies : Satisfies n ab cd x

-- all x + δ, whole δ ≥ 0, for x of S
pub record Delayed (S : Set) (y : Vector) : Type 0 where
  pub x : Vector
  pub δ : ℕ
  pub from : S x
  pub is : y ≡ map (λ z. pos δ ▷ z) x

-- all x of S with entry i replaced by c
pub record Reset (S : Set) (i : ℕ) (c : ℤ) (y : Vector) : Type 0 where
  pub x : Vector
  pub from : S x
  pub is : y ≡ set x i (fin c)

-- the smallest max-plus polyhedron that holds A and B: what lies in every list's set that holds both
abbrev pub Hull : ℕ → Set → Set → Set
Hull n A B x = (L : List Vector) → PointsAndRays n L → Included A (In n L) → Included B (In n L) → In n L x
