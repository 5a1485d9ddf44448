-- The walk as code carries it: a tally by value beside the state area.
use Rattle.std.specs.Prelude.{cond, List, [], ◌≡◌, ℕ, ◌*◌, ◌≤◌, eqb, ℤ, pos, length, drop, Result, Ok, Err, true, false}
use Rattle.numbers.specs.declared.Refusal.{Refusal}
use Rattle.sets.specs.Limits.{Clocks}
use Rattle.sets.specs.Types.{Told}
use Rattle.runs.specs.Models.{System}
use Rattle.runs.specs.Rule.{Step, made, stop, State, Walk, Outcome, going, met, stopped, cut_all, judge}
use Rattle.runs.specs.Rule.{Ending, ends_reached, ends_never, ends_open, ends_refused, answer_of}
use Rattle.runs.specs.Verdicts.{answer_by}
use Rattle.runs.specs.Verdicts.{Judged}
use Rattle.runs.specs.declared.Verdict.{Verdict}
use Rattle.runs.specs.declared.Verdict.TheVariants.{Reached, Never}
use Rattle.model.specs.Plain.{bounds_of}
use Rattle.steps.specs.Steps.{meets_by}
use Rattle.area.specs.Area.{record_size, holding}
use Rattle.area.specs.Records.{Recorded, states_in, state}
use Rattle.walk.specs.declared.Tally.{Tally}
use Rattle.walk.specs.declared.Goal.{Goal}
use Rattle.walk.specs.declared.Moved.{Moved}
use Rattle.walk.specs.declared.Moved.TheVariants.{Going, Met}

-- what a part of the walk answers: where it has come to, or the refusal that stops it
abbrev pub Answered : Type 0
Answered = Result Moved Refusal

-- a tally by its numbers
abbrev pub tally : ℕ → ℕ → Tally
tally kept tried = record { kept = kept; tried = tried }

-- ---- what a tally, an answer and the area stand for
abbrev pub walk_in : ℕ → Tally → List ℤ → Walk
walk_in n y area = record { kept = states_in n y.kept area; tried = y.tried }

-- the outcome that an answer stands for
abbrev pub outcome_in : ℕ → Answered → List ℤ → Outcome
outcome_in n (Ok (Going y)) area = going (walk_in n y area)
outcome_in n (Ok (Met y)) area = met (walk_in n y area)
outcome_in n (Err e) area = stopped e

-- ---- what a part of the walk is given, and what it does
-- room for the states, and the records of those that are kept
pub record Ready (n room : ℕ) (y : Tally) (area : List ℤ) : Type 0 where
  pub clocks : Clocks n
  pub cap : room ≤ 64
  pub fits : room * record_size n ≤ length area
  pub within : y.kept ≤ room
  pub recorded : Recorded n y.kept area

-- from k records on: none fewer, at most t candidates formed, and what is behind the records is as it was
pub record Grows (n room k t : ℕ) (before : List ℤ) (y : Tally) (after : List ℤ) : Type 0 where
  pub more : k ≤ y.kept
  pub few : y.tried ≤ t
  pub within : y.kept ≤ room
  pub recorded : Recorded n y.kept after
  pub behind : drop (y.kept * record_size n) after ≡ drop (y.kept * record_size n) before

-- the same of an answer
abbrev pub GrowsBy : ℕ → ℕ → ℕ → ℕ → List ℤ → Answered → List ℤ → Type 0
GrowsBy n room k t before (Ok (Going y)) after = Grows n room k t before y after
GrowsBy n room k t before (Ok (Met y)) after = Grows n room k t before y after
GrowsBy n room k t before (Err e) after = Unit {0}

-- the answer and the area afterwards are the outcome of the rule
pub record Does (n room k t : ℕ) (outcome : Outcome) (before : List ℤ) (answer : Answered) (after : List ℤ) : Type 0 where
  pub is : outcome_in n answer after ≡ outcome
  pub grows : GrowsBy n room k t before answer after

-- ---- pieces of the rule
-- a system of which only the clocks and the target are known: all that the rule's judging looks at
abbrev pub aimed : ℕ → Goal → System
aimed n goal =
    record {
      clocks = n;
      initial = 0;
      invariants = [];
      edges = [];
      target = goal.location;
      goal = bounds_of n goal.list;
    }

-- where the target test leaves the walk
abbrev pub met_by : Told → Tally → Answered
met_by (Ok true) y = Ok (Met y)
met_by (Ok false) y = Ok (Going y)
met_by (Err e) y = Err e

-- the target test of a state in location q
unfoldable pub tested_by : ℕ → Goal → ℕ → List ℤ → Tally → Answered
tested_by n goal q l y =
    cond (eqb q goal.location) (met_by (meets_by (cut_all n (bounds_of n goal.list) l)) y) (Ok (Going y))

-- the candidate to location q, from state i over edge e
abbrev pub formed_to : System → ℕ → ℕ → ℕ → ℕ → Walk → Step → Outcome
formed_to S room q i e w (made l) = judge S room (state q (pos i) (pos e) l) w
formed_to S room q i e w (stop f) = stopped f

-- ---- the end of the walk
-- the verdict of a part of the walk that ends it, over so many edges
abbrev pub ended_by : Moved → ℕ → Verdict
ended_by (Going y) edges = Never y.kept y.tried
ended_by (Met y) edges = Reached edges y.kept y.tried

-- at least k states are kept, and the area holds their records
pub record Left (n k : ℕ) (kept : List State) (before after : List ℤ) : Type 0 where
  pub more : k ≤ length kept
  pub is : after ≡ holding n kept before

-- the same of an ending
abbrev pub LeftBy : ℕ → ℕ → Ending → List ℤ → List ℤ → Type 0
LeftBy n k (ends_reached w) before after = Left n k w.kept before after
LeftBy n k (ends_never w) before after = Left n k w.kept before after
LeftBy n k (ends_open w) before after = Left n k w.kept before after
LeftBy n k (ends_refused e) before after = Unit {0}

-- the verdict is that of the ending, and the area too, but for what a refusal leaves in it
pub record Finds (n k depth : ℕ) (ending : Ending) (before : List ℤ) (v : Judged) (after : List ℤ) : Type 0 where
  pub is : answer_by v ≡ answer_of depth ending
  pub left : LeftBy n k ending before after
