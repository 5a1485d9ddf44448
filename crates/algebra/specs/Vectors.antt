-- Vectors and lists of them. A vector has n + 1 numbers: n clocks, then 0 for a point or −∞ for a ray.
use Rattle.std.specs.Prelude.{List, [], ◌∷◌, ◌++◌, map, ◌⊎◌, ◌≡◌, ℕ, zero, suc, ◌/◌, ◌<◌, ℤ, length, get_or, take, drop}
use Rattle.numbers.specs.Numbers.{Num, −∞, nought}
use Rattle.numbers.specs.Words.{number, word}
use Rattle.numbers.specs.Places.{Vec}

-- a vector is the list of its numbers
abbrev pub Vector : Type 0
Vector = List Num

-- entry j of a vector, counted from 0
abbrev pub entry : Vector → ℕ → Num
entry v j = get_or v j −∞

-- vector i of a list
abbrev pub vector : List Vector → ℕ → Vector
vector L i = get_or L i []

-- the entries of the vectors of a list
abbrev pub family : List Vector → ℕ → Vec
family L i j = entry (vector L i) j

-- the vector of the first n entries of X
unfoldable pub tab : ℕ → Vec → Vector
tab zero X = []
tab (suc n) X = X 0 ∷ tab n (λ j. X (suc j))

-- behind its n clocks, a point has 0 and a ray has −∞
abbrev pub IsPoint : ℕ → Vector → Type 0
IsPoint n v = entry v n ≡ nought

-- a ray has −∞ there
abbrev pub IsRay : ℕ → Vector → Type 0
IsRay n v = entry v n ≡ −∞

-- each vector of a list is a point or a ray
abbrev pub PointsAndRays : ℕ → List Vector → Type 0
PointsAndRays n L = (i : ℕ) → i < length L → IsPoint n (vector L i) ⊎ IsRay n (vector L i)

-- the first k pieces of w entries
unfoldable pub pieces : ℕ → ℕ → Vector → List Vector
pieces zero w v = []
pieces (suc k) w v = take w v ∷ pieces k w (drop w v)

-- how many whole vectors a list of words has
abbrev pub count : ℕ → List ℤ → ℕ
count n l = length l / suc n

-- the vectors of a list of words, n + 1 words to a vector
unfoldable pub vectors : ℕ → List ℤ → List Vector
vectors n l = pieces (count n l) (suc n) (map number l)

-- the words of a list of vectors, one vector behind the other
unfoldable pub words : List Vector → List ℤ
words [] = []
words (v ∷ L) = map word v ++ words L
