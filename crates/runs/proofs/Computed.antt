-- The rule computed on small models: the worked example of the rules, and rows that guard the definitions.
use mathlib.Core.List.{List, [], ◌∷◌}
use mathlib.Core.Path.{◌≡◌, refl}
use Prim.Native.Nat.{ℕ}
use lib.ListN.{replicate}
use lib.IntN.{pos}
use Rattle.numbers.specs.Numbers.{−∞, fin, nought, ◌⊕◌, ⨁}
use Rattle.numbers.specs.Words.{number}
use Rattle.numbers.specs.Places.{side_of}
use Rattle.numbers.specs.Weights.{lower, meet, allowed, weight_of}
use Rattle.numbers.specs.declared.Refusal.TheVariants.{Gens}
use Rattle.algebra.specs.Reach.{reach}
use Rattle.algebra.specs.Vectors.{Vector, tab, pieces, vectors, words}
use Rattle.algebra.specs.Working.{each, side_at, satisfies, crossing, crossings, intersect_list, some_point, normal}
use Rattle.sets.specs.Tests.{words_ok, some_finite, vector_ok, part, clocks_ok, whole_ok, list_ok}
use Rattle.sets.specs.Rules.{flat, attained, has_point, covers, covered, included_checked, included_of}
use Rattle.sets.specs.Falls.{masked}
use Rattle.making.specs.Clean.{try_one, clean_from, clean_flags, kept, lower_from, earlier, insert, sorted, cleaned}
use Rattle.making.specs.Clean.{canonical_of}
use Rattle.making.specs.Rules.{range_ok}
use Rattle.runs.specs.Models.{Model, Edge, Bound, clock_at_most, clock_at_least, difference_at_most, half_space}
use Rattle.runs.specs.Verdicts.{Answer, reached, never, open_to, refused}
use Rattle.runs.specs.Rule.{fitted, cut, delayed, reset_to0, included, cut_all, reset_all, entering, following}
use Rattle.runs.specs.Rule.{paths_on, path_of, last_path, in_turn, test, keep, judge, try_edge, expand, layer, layers}
use Rattle.runs.specs.Rule.{walk_to, walk_of, answer_of, kept_by, state_at, made, stop}
use Rattle.runs.specs.Rule

-- the worked example: in location 0 clock 0 is at most 4, in location 1 clock 1 is at most 6
abbrev pub example : ℕ → ℕ → Model
example k depth = record {
  system = record {
    clocks = 2;
    initial = 0;
    invariants = (clock_at_most 0 4 ∷ []) ∷ (clock_at_most 1 6 ∷ []) ∷ [];
    edges =
        record { source = 0; destination = 0; guard = clock_at_least 0 2 ∷ []; resets = 0 ∷ 1 ∷ [] }
        ∷ record { source = 0; destination = 1; guard = []; resets = 1 ∷ [] }
        ∷ [];
    target = 1;
    goal = clock_at_least 0 k ∷ [];
  };
  depth = depth;
}

-- a system of some locations without bounds, whose target is a whole location
abbrev plain : ℕ → List (List Bound) → List Edge → ℕ → Model
plain n invariants edges target = record {
  system = record { clocks = n; initial = 0; invariants = invariants; edges = edges; target = target; goal = [] };
  depth = 3;
}

abbrev arrow : ℕ → ℕ → List Bound → List ℕ → Edge
arrow q r guard resets = record { source = q; destination = r; guard = guard; resets = resets }

-- clock 0 is reset to 0 on the way into a location where it is at least 2: no delay before the first invariant
abbrev locked : Model
locked = plain 2 ([] ∷ (clock_at_least 0 2 ∷ []) ∷ []) (arrow 0 1 [] (0 ∷ []) ∷ []) 1

-- the invariant is false at the start
abbrev shut : Model
shut = plain 1 ((clock_at_least 0 2 ∷ []) ∷ []) [] 0

-- the candidate is smaller than the kept state: dropped. The other way round: kept
abbrev smaller : Model
smaller = plain 1 ([] ∷ [] ∷ []) (arrow 0 0 (clock_at_least 0 2 ∷ []) [] ∷ []) 1

abbrev larger : Model
larger = plain 1 ((clock_at_most 0 4 ∷ []) ∷ [] ∷ [] ∷ [])
    (arrow 0 1 (clock_at_least 0 2 ∷ []) [] ∷ arrow 0 1 [] (0 ∷ []) ∷ []) 2

-- the same set in another location is kept; and the target is tested as soon as a state is kept
abbrev elsewhere : Model
elsewhere = plain 1 ([] ∷ [] ∷ [] ∷ []) (arrow 0 1 [] [] ∷ arrow 0 2 [] [] ∷ []) 1

-- two edges one behind the other, with a difference and a half-space: behind the first edge x − y is at least 3, and
-- the second asks x − y ≤ k and max (x, y) ≤ 5
abbrev chained : ℕ → Model
chained k = plain 2 ([] ∷ [] ∷ [] ∷ [])
    (arrow 1 2 (difference_at_most 0 1 (pos k) ∷ half_space both five ∷ []) []
    ∷ arrow 0 1 (clock_at_least 0 3 ∷ []) (1 ∷ []) ∷ []) 2
  where
    both : Vector
    both = nought ∷ nought ∷ −∞ ∷ []

    five : Vector
    five = −∞ ∷ −∞ ∷ fin (pos 5) ∷ []

-- clock 0 is at least 1,000,000 when clock 1 is reset; with clock 1 at least 1 its least value is 1,000,001
abbrev far : Model
far = plain 2 ([] ∷ [] ∷ [] ∷ [])
    (arrow 0 1 (clock_at_least 0 1000000 ∷ []) (1 ∷ []) ∷ arrow 1 2 (clock_at_least 1 1 ∷ []) [] ∷ []) 2

-- one line: a model, a room, what the walk answers, and the path to the state kept last
record Line : Type 0 where
  model : Model
  room : ℕ
  answer : Answer
  path : List ℕ

abbrev line : Model → ℕ → Answer → List ℕ → Line
line model room answer path = record { model = model; room = room; answer = answer; path = path }

abbrev table : List Line
table =
    line (example 10 8) 64 (reached 1 2 2) (1 ∷ [])
    ∷ line (example 11 8) 64 (never 2 2) (1 ∷ [])
    ∷ line (example 11 1) 64 (open_to 1 2 2) (1 ∷ [])
    ∷ line (example 11 0) 64 (open_to 0 1 0) []
    ∷ line (example 10 8) 2 (reached 1 2 2) (1 ∷ [])
    ∷ line (example 10 8) 1 (refused 6) []
    ∷ line locked 64 (never 1 1) []
    ∷ line shut 64 (never 0 0) []
    ∷ line smaller 64 (never 1 1) []
    ∷ line larger 64 (never 3 2) (1 ∷ [])
    ∷ line elsewhere 64 (reached 1 2 1) (0 ∷ [])
    ∷ line (chained 3) 64 (reached 2 3 2) (1 ∷ 0 ∷ [])
    ∷ line (chained 2) 64 (never 2 2) (1 ∷ [])
    ∷ line far 64 (refused 4) []
    ∷ []

-- the walk of the line's model with its room gives the line's answer and path
abbrev Computes : List Line → Type 0
Computes [] = Unit {0}
Computes (l ∷ ls) = (answer_of l.model.depth (walk_of l.model l.room) ≡ l.answer)
    × (last_path (kept_by (walk_of l.model l.room)) ≡ l.path) × Computes ls

-- the rule computes each line
pub computed : Computes table
unfolding fitted cut delayed reset_to0 included cut_all reset_all entering following Rule.covered
    paths_on path_of last_path in_turn test keep judge try_edge expand layer layers walk_to walk_of answer_of
    range_ok try_one clean_from clean_flags kept lower_from earlier insert sorted cleaned canonical_of
    masked flat attained has_point covers covered included_checked included_of
    words_ok some_finite vector_ok part clocks_ok whole_ok list_ok
    each side_at satisfies crossing crossings intersect_list some_point normal
    tab pieces vectors words reach
    lower meet allowed weight_of side_of number ◌⊕◌ ⨁
computed = (
  refl,
  refl,
  (
    refl,
    refl,
    (
      refl,
      refl,
      (
        refl,
        refl,
        (
          refl,
          refl,
          (
            refl,
            refl,
            (
              refl,
              refl,
              (
                refl,
                refl,
                (refl, refl, (refl, refl, (refl, refl, (refl, refl, (refl, refl, (refl, refl, tt)))))),
              ),
            ),
          ),
        ),
      ),
    ),
  ),
)

-- state 1 of the worked example is points (0,0), (6,6), (10,6), from state 0 over edge 1
pub second_state : state_at (kept_by (walk_of (example 10 8) 64)) 1 ≡ record {
  location = 1;
  parent = pos 0;
  edge = pos 1;
  list = pos 0 ∷ pos 0 ∷ pos 0 ∷ pos 6 ∷ pos 6 ∷ pos 0 ∷ pos 10 ∷ pos 6 ∷ pos 0 ∷ [];
}
unfolding fitted cut delayed reset_to0 included cut_all reset_all entering following Rule.covered
    paths_on path_of last_path in_turn test keep judge try_edge expand layer layers walk_to walk_of answer_of
    range_ok try_one clean_from clean_flags kept lower_from earlier insert sorted cleaned canonical_of
    masked flat attained has_point covers covered included_checked included_of
    words_ok some_finite vector_ok part clocks_ok whole_ok list_ok
    each side_at satisfies crossing crossings intersect_list some_point normal
    tab pieces vectors words reach
    lower meet allowed weight_of side_of number ◌⊕◌ ⨁
second_state = refl

-- 32 vectors fit, 33 do not
pub few_fit : fitted 1 (replicate 32 (nought ∷ nought ∷ [])) ≡ made (replicate 64 (pos 0))
unfolding fitted range_ok words
few_fit = refl

pub many_do_not : fitted 1 (replicate 33 (nought ∷ nought ∷ [])) ≡ stop Gens
unfolding fitted range_ok words
many_do_not = refl
