-- What cleaning says of working memory, and what stands in a result area when a call is finished.
use Rattle.std.specs.Prelude.{Bool, true, false, cond, List, [], ◌≡◌, ℕ, suc, ◌*◌, ◌≤◌, ◌<◌, ℤ, length, get_or, replicate}
use Rattle.numbers.specs.Places.{Vec, Each}
use Rattle.numbers.specs.Tests.{every}
use Rattle.algebra.specs.Vectors.{Vector, vector, count}
use Rattle.algebra.specs.Working.{is_point, some_point}
use Rattle.sorting.specs.Rows.{held}
use Rattle.sorting.specs.Emit.{IsKind}
use Rattle.making.specs.Types.{Made}
use Rattle.making.specs.Clean.{kept, sorted, cleaned}
use Rattle.making.specs.Rules.{entry_ok, written, finished}

-- as many vectors of n + 1 words as there are flags, all on
pub record Cleanable (n : ℕ) (work : List ℤ) (alive : List Bool) : Type 0 where
  pub clocks : n ≤ 6
  pub whole : length alive * suc n ≤ length work
  pub near : Each 100000000 work
  pub on : alive ≡ replicate (length alive) true

-- k vectors of n + 1 words, points and rays, and a result area
pub record Finishable (n : ℕ) (work : List ℤ) (k : ℕ) (area : List ℤ) : Type 0 where
  pub clocks : n ≤ 6
  pub few : k ≤ 272
  pub whole : k * suc n ≤ length work
  pub near : Each 100000000 work
  pub room : 32 * suc n ≤ length area
  pub kinds : (i : ℕ) → i < k → IsKind n (vector (held (suc n) k work) i)

-- the canonical list of shifted vectors H
unfoldable pub canonical_held : ℕ → List Vector → List Vector
canonical_held n H = cond (some_point n H) (sorted n (cleaned n H)) []

-- the answer and the area tell of the canonical list of H
pub record Finishes (n : ℕ) (H : List Vector) (before : List ℤ) (answer : Made) (after : List ℤ) : Type 0 where
  pub made : answer ≡ (finished n (canonical_held n H) before).made
  pub area : after ≡ (finished n (canonical_held n H) before).area

-- ---- the limits of a result, looked at where its vectors stand
-- each clock of a vector is within the limits, as its last entry says: of a point or of a ray
unfoldable pub row_ok : ℕ → Vec → Bool
row_ok n X = every n (λ j. entry_ok (is_point (X n)) (X j))

-- of each vector whose flag is on
unfoldable pub alive_ok : ℕ → List Bool → (ℕ → Vec) → Bool
alive_ok n alive G = every (length alive) (λ i. cond (get_or alive i false) (row_ok n (G i)) true)

-- ---- writing the vectors that are on
-- at most 272 vectors of n + 1 words, each with a flag, points and rays, and a result area
pub record Writable (n : ℕ) (work : List ℤ) (alive : List Bool) (area : List ℤ) : Type 0 where
  pub clocks : n ≤ 6
  pub few : length alive ≤ 272
  pub whole : length alive * suc n ≤ length work
  pub room : 32 * suc n ≤ length area
  pub kinds : (i : ℕ) → i < length alive → IsKind n (vector (held (suc n) (length alive) work) i)

-- the vectors that are on, sorted
abbrev pub sorted_alive : ℕ → List ℤ → List Bool → List Vector
sorted_alive n work alive = sorted n (kept alive (held (suc n) (length alive) work))

-- the answer and the area tell of them
pub record Writes (n : ℕ) (work : List ℤ) (alive : List Bool) (before : List ℤ)
    (answer : Made) (after : List ℤ) : Type 0 where
  pub made : answer ≡ (written (sorted_alive n work alive) before).made
  pub area : after ≡ (written (sorted_alive n work alive) before).area

-- a list within limits of at most 32 vectors, a half-space within limits, and room for 272 vectors
pub record Cuttable (n : ℕ) (list half work : List ℤ) : Type 0 where
  pub clocks : n ≤ 6
  pub few : count n list ≤ 32
  pub of_list : Each 1000000 list
  pub long : length half ≡ 2 * suc n
  pub of_half : Each 1000000 half
  pub room : 272 * suc n ≤ length work
