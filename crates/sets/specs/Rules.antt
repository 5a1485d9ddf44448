-- The rule by which each asking call finds its answer, as executable definitions over lists of words.
use Rattle.std.specs.Prelude.{Bool, true, false, ◌&&◌, cond, List, [], ◌∷◌, ◌++◌, ℕ, suc, ◌+◌, ◌*◌, eqb, ℤ, pos, length, get_or, Err, Ok}
use Rattle.numbers.specs.Numbers.{at_most}
use Rattle.numbers.specs.Words.{number}
use Rattle.numbers.specs.Places.{Vec, entries}
use Rattle.numbers.specs.Tests.{every, some}
use Rattle.numbers.specs.declared.Refusal.TheVariants.{Shape, Entry}
use Rattle.algebra.specs.Vectors.{count}
use Rattle.algebra.specs.Reach.{reach}
use Rattle.sets.specs.Types.{Told, Checked}
use Rattle.sets.specs.Tests.{clocks_ok, whole_ok, list_ok, words_ok, finite}

-- entry j of vector i of a list of words, w words to a vector
unfoldable pub flat : ℕ → List ℤ → ℕ → Vec
flat w l i j = number (get_or l (i * w + j) (pos 0))

-- X is reached everywhere: it is a combination of the m vectors of G
unfoldable pub attained : ℕ → ℕ → (ℕ → Vec) → Vec → Bool
attained d m G X = every d (λ j. at_most (X j) (reach d m G X j))

-- the vector in the words x is a combination of the first m vectors of a list of words
unfoldable pub generated : List ℤ → ℕ → List ℤ → Bool
generated l m x = attained (length x) m (flat (length x) l) (entries x)

-- the tested point with 0 behind it is a combination of the list's vectors
unfoldable pub inside : ℕ → List ℤ → List ℤ → Bool
inside n l p = attained (suc n) (count n l) (flat (suc n) l) (entries (p ++ (pos 0 ∷ [])))

-- some vector of the list is a point
unfoldable pub has_point : ℕ → List ℤ → Bool
has_point n l = some (count n l) (λ i. finite (flat (suc n) l i n))

-- vector i of the first list is a combination of the vectors of the second
unfoldable pub covers : ℕ → List ℤ → List ℤ → ℕ → Bool
covers n inner outer i = attained (suc n) (count n outer) (flat (suc n) outer) (flat (suc n) inner i)

-- every vector of the first list is
unfoldable pub covered : ℕ → List ℤ → List ℤ → Bool
covered n inner outer = every (count n inner) (covers n inner outer)

-- the first refusal of two tests in order
abbrev pub checked : Bool → Bool → Checked
checked false limits = Err Shape
checked true false = Err Entry
checked true true = Ok tt

-- the answer after the checks
abbrev pub tell_after : Checked → Bool → Told
tell_after (Ok u) answer = Ok answer
tell_after (Err e) answer = Err e

-- ---- contains
-- its checks, in order
unfoldable pub contains_checked : ℕ → List ℤ → List ℤ → Checked
contains_checked n l p =
    checked (clocks_ok n && (whole_ok n (length l) && eqb (length p) n)) (list_ok n l && words_ok false n p)

-- its answer
unfoldable pub contains_of : ℕ → List ℤ → List ℤ → Told
contains_of n l p = tell_after (contains_checked n l p) (inside n l p)

-- ---- included
-- its checks, in order
unfoldable pub included_checked : ℕ → List ℤ → List ℤ → Checked
included_checked n inner outer =
    checked (clocks_ok n && (whole_ok n (length inner) && whole_ok n (length outer))) (list_ok n inner && list_ok n outer)

-- its answer: a set without points is empty, and so in every set
unfoldable pub included_of : ℕ → List ℤ → List ℤ → Told
included_of n inner outer =
    tell_after (included_checked n inner outer) (cond (has_point n inner) (covered n inner outer) true)
