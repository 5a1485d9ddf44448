-- The rule by which each making call finds its answer, as executable definitions over lists of words.
use Rattle.std.specs.Prelude.{Bool, true, false, ◌&&◌, cond, List, ◌++◌, ℕ, suc, ◌*◌, eqb, leb, ltb, ℤ, length, drop, Err, Ok}
use Rattle.numbers.specs.Numbers.{Num, −∞, fin, at_most, million, minus_million}
use Rattle.numbers.specs.Words.{number}
use Rattle.numbers.specs.Tests.{every}
use Rattle.numbers.specs.declared.Refusal.TheVariants.{Arg, Range, Gens}
use Rattle.algebra.specs.Vectors.{Vector, entry, vector, vectors, words}
use Rattle.algebra.specs.Wanted.{left, right}
use Rattle.algebra.specs.Working.{is_point, intersect_list, delay_list, reset_list, hull_list}
use Rattle.sets.specs.Types.{Checked}
use Rattle.sets.specs.Tests.{tight, words_ok, clocks_ok, whole_ok, list_ok}
use Rattle.sets.specs.Rules.{checked}
use Rattle.making.specs.Types.{Made}
use Rattle.making.specs.Clean.{canonical_of}

-- ---- limits of a result
-- an entry of a point, or of a ray
abbrev pub entry_ok : Bool → Num → Bool
entry_ok true x = at_most x million
entry_ok false −∞ = true
entry_ok false (fin z) = at_most minus_million (fin z)

-- each entry of each vector is within the limits of a result
unfoldable pub range_ok : ℕ → List Vector → Bool
range_ok n R = every (length R) (λ i. every n (λ j. entry_ok (is_point (entry (vector R i) n)) (entry (vector R i) j)))

-- ---- the answer and the area
-- what a call answers, and its area afterwards
pub record Result : Type 0 where
  pub made : Made
  pub area : List ℤ

-- the answer with the area as it was
abbrev pub refused_by : Made → List ℤ → Result
refused_by answer area = record { made = answer; area = area }

-- the list R in the area, if it has at most 32 vectors
abbrev pub written : List Vector → List ℤ → Result
written R area =
    cond (leb (length R) 32)
    (record { made = Ok (length R); area = words R ++ drop (length (words R)) area })
    (refused_by (Err Gens) area)

-- the list R in the area, or RANGE, or GENS
unfoldable pub finished : ℕ → List Vector → List ℤ → Result
finished n R area = cond (range_ok n R) (written R area) (refused_by (Err Range) area)

-- after the checks of the input: the canonical list of the vectors L, or the refusal
abbrev pub make_after : Checked → ℕ → List Vector → List ℤ → Result
make_after (Ok u) n L area = finished n (canonical_of n L) area
make_after (Err e) n L area = refused_by (Err e) area

-- the shape of a list and an area
unfoldable pub shape_ok : ℕ → List ℤ → List ℤ → Bool
shape_ok n l area = clocks_ok n && (whole_ok n (length l) && leb (32 * suc n) (length area))

-- ---- intersect
-- its checks, in order
unfoldable pub intersect_checked : ℕ → List ℤ → List ℤ → List ℤ → Checked
intersect_checked n l h area =
    checked (shape_ok n l area && eqb (length h) (2 * suc n)) (list_ok n l && words_ok true (2 * suc n) h)

-- its answer and the area
unfoldable pub intersect_of : ℕ → List ℤ → List ℤ → List ℤ → Result
intersect_of n l h area =
    make_after (intersect_checked n l h area) n (intersect_list n (left n h) (right n h) (vectors n l)) area

-- ---- delay
-- its checks, in order
unfoldable pub delay_checked : ℕ → List ℤ → List ℤ → Checked
delay_checked n l area = checked (shape_ok n l area) (list_ok n l)

-- its answer and the area
unfoldable pub delay_of : ℕ → List ℤ → List ℤ → Result
delay_of n l area = make_after (delay_checked n l area) n (delay_list n (vectors n l)) area

-- ---- reset
-- ARG is asked last
abbrev pub arg_checked : Checked → Bool → Checked
arg_checked (Err e) arg = Err e
arg_checked (Ok u) true = Ok tt
arg_checked (Ok u) false = Err Arg

-- its checks, in order
unfoldable pub reset_checked : ℕ → List ℤ → ℕ → ℤ → List ℤ → Checked
reset_checked n l i c area = arg_checked (delay_checked n l area) (ltb i n && tight (number c))

-- its answer and the area
unfoldable pub reset_of : ℕ → List ℤ → ℕ → ℤ → List ℤ → Result
reset_of n l i c area = make_after (reset_checked n l i c area) n (reset_list n i c (vectors n l)) area

-- ---- hull
-- its checks, in order
unfoldable pub hull_checked : ℕ → List ℤ → List ℤ → List ℤ → Checked
hull_checked n l m area =
    checked (shape_ok n l area && whole_ok n (length m)) (list_ok n l && list_ok n m)

-- its answer and the area
unfoldable pub hull_of : ℕ → List ℤ → List ℤ → List ℤ → Result
hull_of n l m area = make_after (hull_checked n l m area) n (hull_list n (vectors n l) (vectors n m)) area
