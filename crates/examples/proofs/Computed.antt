-- All rows are right: the rule of each call computes the answer and the area expected, and the rule meets the contract.
use mathlib.Core.Bool.{Bool, true, ◌&&◌}
use mathlib.Core.List.{List, [], ◌∷◌}
use mathlib.Core.Path.{◌≡◌, refl, sym, subst}
use Prim.Native.Nat.{ℕ}
use lib.Dec.{ltb}
use lib.IntN.{ℤ}
use borrow.Author.Tests.{ltb-true}
use Rattle.numbers.specs.Numbers.{◌⊕◌, ⨁}
use Rattle.numbers.specs.Words.{number}
use Rattle.numbers.specs.Places.{side_of}
use Rattle.numbers.specs.Weights.{lower, meet, allowed, weight_of}
use Rattle.algebra.specs.Reach.{reach}
use Rattle.algebra.specs.Vectors.{tab, pieces, vectors, words}
use Rattle.algebra.specs.Working.{each, side_at, satisfies, crossing, crossings, intersect_list}
use Rattle.algebra.specs.Working.{some_point, with_point, hull_list, normal}
use Rattle.sets.specs.Falls.{masked}
use Rattle.sets.specs.Tests.{words_ok, some_finite, vector_ok, part, clocks_ok, whole_ok, list_ok}
use Rattle.sets.specs.Rules.{flat, attained, inside, has_point, covers, covered, contains_checked, contains_of}
use Rattle.sets.specs.Rules.{included_checked, included_of}
use Rattle.sets.proofs.Asking.{contains_as, included_as}
use Rattle.making.specs.Types.{Made}
use Rattle.making.specs.Clean.{try_one, clean_from, clean_flags, kept, lower_from, earlier, insert, sorted, cleaned}
use Rattle.making.specs.Clean.{canonical_of}
use Rattle.making.specs.Rules.{Result, range_ok, finished, shape_ok, intersect_checked, intersect_of, delay_checked}
use Rattle.making.specs.Rules.{delay_of, reset_checked, reset_of, hull_checked, hull_of}
use Rattle.making.proofs.Rules.{intersect_meets, delay_meets, reset_meets, hull_meets}
use Rattle.codec.specs.Number.{bytes_of, number_in}
use Rattle.codec.specs.Form.{read_in, ◌>>=◌, many}
use Rattle.codec.specs.Arrays.{AreBytes}
use Rattle.bounds.specs.Bounds.{entry_form, plain_form, differ_form, half_form, bound_form, bounds_form}
use Rattle.model.specs.Models.{head_form, edge_form, goal_form, model_form}
use Rattle.model.specs.Answers.{read_of}
use Rattle.runs.specs.Rule.{fitted, cut, delayed, reset_to0, cut_all, reset_all, entering, following, paths_on, path_of}
use Rattle.runs.specs.Rule.{last_path, in_turn, test, keep, judge, try_edge, expand, layer, layers, walk_to, walk_of, answer_of}
use Rattle.runs.specs.Rule
use Rattle.runs.specs.Verdicts.{answer_by}
use Rattle.area.specs.Area.{record_size, record_of, records_of, holding, room_of, area_after}
use Rattle.runs.proofs.Meaning.{and_true}
use Rattle.walk.specs.Walks.{walked_of}
use Rattle.printing.specs.Text.{digits, decimal, spaced, line_of, text_of}
use Rattle.answer.specs.Printed.{report_of}
use Rattle.walk.proofs.Theorems.{walk_meets}
use Rattle.examples.specs.Rows.{Row, contains, included, intersect, delay, reset, hull, in_bytes, no_number, fold, walk, prints}
use Rattle.examples.specs.Rows.{Right, AllRight, rows}

-- the result of a rule is the answer and the area expected
abbrev Gives : Result → Made → List ℤ → Type 0
Gives result answer after = (answer ≡ result.made) × (after ≡ result.area)

-- every number of a list is a byte
abbrev all_bytes : List ℕ → Bool
all_bytes [] = true
all_bytes (b ∷ s) = ltb b 256 && all_bytes s

are_bytes : (s : List ℕ) → all_bytes s ≡ true → AreBytes s
are_bytes [] e = tt
are_bytes (b ∷ s) e = let (h, t) = and_true (ltb b 256) (all_bytes s) e in (ltb-true b 256 h, are_bytes s t)

-- the rule gives what is expected
abbrev Computes : Row → Type 0
Computes (contains n list point answer) = answer ≡ contains_of n list point
Computes (included n inner outer answer) = answer ≡ included_of n inner outer
Computes (intersect n list half before answer after) = Gives (intersect_of n list half before) answer after
Computes (delay n list before answer after) = Gives (delay_of n list before) answer after
Computes (reset n list clock value before answer after) = Gives (reset_of n list clock value before) answer after
Computes (hull n one other before answer after) = Gives (hull_of n one other before) answer after
Computes (in_bytes v bytes) = Right (in_bytes v bytes)
Computes (no_number bytes refusal) = Right (no_number bytes refusal)
Computes (fold k v) = Right (fold k v)
Computes (prints bytes text) = Right (prints bytes text)
Computes (walk bytes before verdict after) =
    (all_bytes bytes ≡ true) × (record { answer = answer_by verdict; area = after } ≡ walked_of (read_of bytes) before)

-- what holds of a result holds of the answer and the area that it gives
given : (P : Made → List ℤ → Type 0) (result : Result) (answer : Made) (after : List ℤ)
    → Gives result answer after → P result.made result.area → P answer after
given P result answer after e h =
    subst (λ a. P a after) (sym e.0) (subst (P result.made) (sym e.1) h)

-- then the row is right
right : (r : Row) → Computes r → Right r
right (contains n list point answer) e = contains_as n list point e
right (included n inner outer answer) e = included_as n inner outer e
right (intersect n list half before answer after) e =
    given (λ a w. Right (intersect n list half before a w)) (intersect_of n list half before) answer after e
    (intersect_meets n list half before)
right (delay n list before answer after) e =
    given (λ a w. Right (delay n list before a w)) (delay_of n list before) answer after e (delay_meets n list before)
right (reset n list clock value before answer after) e =
    given (λ a w. Right (reset n list clock value before a w)) (reset_of n list clock value before) answer after e
    (reset_meets n list clock value before)
right (hull n one other before answer after) e =
    given (λ a w. Right (hull n one other before a w)) (hull_of n one other before) answer after e
    (hull_meets n one other before)
right (in_bytes v bytes) e = e
right (no_number bytes refusal) e = e
right (fold k v) e = e
right (prints bytes text) e = e
right (walk bytes before verdict after) e = walk_meets bytes (are_bytes bytes e.0) before verdict after e.1

-- of every row of a list
abbrev AllCompute : List Row → Type 0
AllCompute [] = Unit {0}
AllCompute (r ∷ rows) = Computes r × AllCompute rows

-- then all are right
all_right : (l : List Row) → AllCompute l → AllRight l
all_right [] h = tt
all_right (r ∷ l) h = (right r h.0, all_right l h.1)

-- one row and those behind it
infixr 5 ◌▹◌
◌▹◌ : {A B : Type 0} → A → B → A × B
a ▹ b = (a, b)

-- every row is right
pub examples_right : AllRight rows
unfolding rows contains_of contains_checked included_of included_checked inside has_point covers covered attained flat reach
    weight_of allowed meet lower words_ok some_finite vector_ok part clocks_ok whole_ok list_ok number ⨁ ◌⊕◌ intersect_of
    intersect_checked delay_of delay_checked reset_of reset_checked hull_of hull_checked shape_ok finished range_ok canonical_of
    cleaned sorted insert earlier lower_from kept clean_flags clean_from try_one masked normal hull_list with_point some_point
    intersect_list crossings crossing satisfies side_at side_of each vectors pieces words tab
    number_in bytes_of walked_of read_of read_in ◌>>=◌ many head_form edge_form goal_form model_form entry_form plain_form differ_form
    half_form bound_form bounds_form record_size record_of records_of holding room_of area_after
    fitted cut delayed reset_to0 Rule.included cut_all reset_all entering following Rule.covered paths_on path_of last_path in_turn
    test keep judge try_edge expand layer layers walk_to walk_of answer_of
    report_of text_of line_of spaced decimal digits
examples_right = all_right rows (
    (refl, refl) ▹ (refl, refl) ▹ (refl, refl) ▹ refl ▹ refl ▹ (refl, refl) ▹ refl ▹ refl ▹ (refl, refl) ▹ refl
    ▹ (refl, refl) ▹ (refl, refl) ▹ (refl, refl) ▹ (refl, refl) ▹ (refl, refl) ▹ refl ▹ refl ▹ (refl, refl)
    ▹ (refl, refl) ▹ (refl, refl) ▹ (refl, refl) ▹ refl ▹ refl ▹ tt)
