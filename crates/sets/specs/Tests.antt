-- The shape and the limits as tests that compute: what the code asks. TestLaws shows that each tells its meaning.
use Rattle.std.specs.Prelude.{Bool, true, false, ◌&&◌, List, ℕ, zero, suc, ◌*◌, ◌/◌, eqb, leb, ℤ, pos, negsuc, take, drop}
use Rattle.numbers.specs.Numbers.{Num, −∞, fin, at_most, nought, million, minus_million}
use Rattle.numbers.specs.Places.{entries}
use Rattle.numbers.specs.Tests.{every, some}
use Rattle.algebra.specs.Vectors.{count}

-- 0 to 1,000,000
abbrev pub tight : Num → Bool
tight x = at_most nought x && at_most x million

-- −∞, or −1,000,000 to 1,000,000
abbrev pub loose : Num → Bool
loose −∞ = true
loose (fin z) = at_most minus_million (fin z) && at_most (fin z) million

-- not −∞
abbrev pub finite : Num → Bool
finite −∞ = false
finite (fin z) = true

-- an entry of a ray's clocks, or of a point's
abbrev pub fits : Bool → Num → Bool
fits true x = loose x
fits false x = tight x

-- each of the first n words is within the limits of a ray's clocks, or of a point's
unfoldable pub words_ok : Bool → ℕ → List ℤ → Bool
words_ok ray n v = every n (λ j. fits ray (entries v j))

-- one of the first n words is not −∞
unfoldable pub some_finite : ℕ → List ℤ → Bool
some_finite n v = some n (λ j. finite (entries v j))

-- a vector, by its last entry: a point, a ray, or neither
abbrev pub ok_by : Num → ℕ → List ℤ → Bool
ok_by −∞ n v = words_ok true n v && some_finite n v
ok_by (fin (pos zero)) n v = words_ok false n v
ok_by (fin (pos (suc k))) n v = false
ok_by (fin (negsuc k)) n v = false

-- a vector is a point or a ray within its limits
unfoldable pub vector_ok : ℕ → List ℤ → Bool
vector_ok n v = ok_by (entries v n) n v

-- the w words of l from a
unfoldable pub part : List ℤ → ℕ → ℕ → List ℤ
part l a w = take w (drop a l)

-- ---- the tests of a call
-- 1 to 6 clocks
unfoldable pub clocks_ok : ℕ → Bool
clocks_ok n = leb 1 n && leb n 6

-- whole vectors, at most 32
unfoldable pub whole_ok : ℕ → ℕ → Bool
whole_ok n long = eqb (long / suc n * suc n) long && leb (long / suc n) 32

-- each vector is a point or a ray within its limits
unfoldable pub list_ok : ℕ → List ℤ → Bool
list_ok n l = every (count n l) (λ i. vector_ok n (part l (i * suc n) (suc n)))
