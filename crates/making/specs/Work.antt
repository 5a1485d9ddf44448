-- Vectors put one behind the other into working memory, each shifted as a canonical list wants it.
use Rattle.std.specs.Prelude.{cond, List, [], ◌∷◌, ◌++◌, map, ◌≡◌, ℕ, zero, suc, ◌+◌, ◌*◌, ◌≤◌, ◌<◌, ℤ, pos, length, get_or}
use Rattle.numbers.specs.Numbers.{Num, at_most, ⨁, ◌▷◌, ◌⊗◌, ◌⊕◌, Within}
use Rattle.numbers.specs.Words.{number}
use Rattle.numbers.specs.Places.{entries, Each}
use Rattle.algebra.specs.Vectors.{Vector, entry, vector, count, tab}
use Rattle.algebra.specs.Working.{side_at, shift_by, normal}
use Rattle.sorting.specs.Rows.{held}

-- the shift that a vector of n + 1 words wants
abbrev pub shift_of : ℕ → List ℤ → ℤ
shift_of n v = shift_by (entries v n) (⨁ n (entries v))

-- the words of `after` are those of v, shifted by c
pub record Shifted (v : List ℤ) (c : ℤ) (after : List ℤ) : Type 0 where
  pub long : length after ≡ length v
  pub right : (j : ℕ) → j < length v → entries after j ≡ c ▷ entries v j

-- a vector v of n + 1 words can be put behind k vectors
pub record Pushable (n : ℕ) (work : List ℤ) (k : ℕ) (v : List ℤ) : Type 0 where
  pub clocks : n ≤ 6
  pub long : length v ≡ suc n
  pub room : k * suc n + suc n ≤ length work
  pub near : Each 10000000 v

-- `after` is `work` with the shifted v put behind its first k vectors
pub record Pushed (n : ℕ) (work : List ℤ) (k : ℕ) (v after : List ℤ) : Type 0 where
  pub long : length after ≡ length work
  pub rows : held (suc n) (k + 1) after ≡ held (suc n) k work ++ (normal n (map number v) ∷ [])
  pub near : Each 100000000 work → Each 100000000 after

-- `after` holds, behind the first k vectors of `work`, the vectors L, shifted
pub record Added (n : ℕ) (work : List ℤ) (k : ℕ) (L : List Vector) (after : List ℤ) : Type 0 where
  pub long : length after ≡ length work
  pub rows : held (suc n) (k + length L) after ≡ held (suc n) k work ++ map (normal n) L
  pub near : Each 100000000 work → Each 100000000 after

-- and r vectors stand there now
pub record Grown (n : ℕ) (work : List ℤ) (k : ℕ) (L : List Vector) (r : ℕ) (after : List ℤ) : Type 0 where
  pub added : Added n work k L after
  pub count : r ≡ k + length L

-- the words of `sides` are the sides of a half-space at the vectors of a list
pub record Sides (n : ℕ) (ab : Vector) (L : List Vector) (sides : List ℤ) : Type 0 where
  pub long : length sides ≡ 32
  pub right : (i : ℕ) → i < length L → number (get_or sides i (pos 0)) ≡ side_at n ab (vector L i)

-- what the sides are taken of: a list within limits of at most 32 vectors, and one side of a half-space within limits
pub record Sided (n : ℕ) (list ab out : List ℤ) : Type 0 where
  pub clocks : n ≤ 6
  pub few : count n list ≤ 32
  pub of_list : Each 1000000 list
  pub long : length ab ≡ suc n
  pub of_side : Each 1000000 ab
  pub room : length out ≡ 32

-- ---- the vectors that a half-space makes, by the words of its sides
-- f 0, .., f (m − 1), one behind the other
unfoldable pub up_to : ℕ → (ℕ → List Vector) → List Vector
up_to zero f = []
up_to (suc m) f = up_to m f ++ f m

-- the larger, entry by entry, of g weighted by l and h weighted by r
unfoldable pub mixed_of : ℕ → Num → Vector → Num → Vector → Vector
mixed_of n l g r h = tab (suc n) (λ j. (l ⊗ entry g j) ⊕ (r ⊗ entry h j))

-- the side at vector i, of the words of a side
abbrev pub side_word : List ℤ → ℕ → Num
side_word sides i = number (get_or sides i (pos 0))

-- what vector i gives with vector j, if that violates
unfoldable pub cross_at : ℕ → List ℤ → List ℤ → List Vector → ℕ → ℕ → List Vector
cross_at n ls rs L i j =
    cond (at_most (side_word ls j) (side_word rs j)) []
    (mixed_of n (side_word ls j) (vector L i) (side_word rs i) (vector L j) ∷ [])

-- what vector i gives with each vector that violates
abbrev pub crossings_at : ℕ → List ℤ → List ℤ → List Vector → ℕ → List Vector
crossings_at n ls rs L i = up_to (length L) (cross_at n ls rs L i)

-- what vector i gives, if it satisfies
unfoldable pub crosses_at : ℕ → List ℤ → List ℤ → List Vector → ℕ → List Vector
crosses_at n ls rs L i =
    cond (at_most (side_word ls i) (side_word rs i)) (vector L i ∷ crossings_at n ls rs L i) []

-- what all vectors give that satisfy
unfoldable pub crossed_list : ℕ → List ℤ → List ℤ → List Vector → List Vector
crossed_list n ls rs L = up_to (length L) (crosses_at n ls rs L)

-- a list within limits of at most 32 vectors, and the words of both sides at them
pub record Halved (n : ℕ) (list ls rs : List ℤ) : Type 0 where
  pub clocks : n ≤ 6
  pub few : count n list ≤ 32
  pub near : Each 1000000 list
  pub lefts : length ls ≡ 32
  pub rights : length rs ≡ 32
  pub of_left : (i : ℕ) → i < count n list → Within 2000000 (side_word ls i)
  pub of_right : (i : ℕ) → i < count n list → Within 2000000 (side_word rs i)

-- room in `work` for the vectors L behind k others
pub record RoomOf (n : ℕ) (work : List ℤ) (k : ℕ) (L : List Vector) : Type 0 where
  pub room : (k + length L) * suc n ≤ length work

-- two vectors and their weights within limits, and room in `work` for one vector behind k others
pub record Mixable (n : ℕ) (work : List ℤ) (k : ℕ) (g : List ℤ) (l : ℤ) (h : List ℤ) (r : ℤ) : Type 0 where
  pub clocks : n ≤ 6
  pub room : k * suc n + suc n ≤ length work
  pub long_g : length g ≡ suc n
  pub long_h : length h ≡ suc n
  pub near_g : Each 1000000 g
  pub near_h : Each 1000000 h
  pub of_l : Within 2000000 (number l)
  pub of_r : Within 2000000 (number r)
