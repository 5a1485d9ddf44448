-- The walk over bytes: its verdict, every word of the state area, and what the verdict says of runs.
use Rattle.std.specs.Prelude.{cond, List, [], ◌++◌, ◌≡◌, ℕ, zero, suc, ◌+◌, ◌-◌, ◌*◌, ltb, ℤ, pos, negsuc, length, get_or}
use Rattle.numbers.specs.Refusals.{refusal_number}
use Rattle.numbers.specs.declared.Refusal.TheVariants.{Shape}
use Rattle.runs.specs.Rule.{Ending, walk_of, answer_of, edge_of}
use Rattle.runs.specs.Verdicts.{Answer, reached, never, open_to, refused, answer_by, Means}
use Rattle.runs.specs.Verdicts.{Judged}
use Rattle.model.specs.Answers.{Said, value, refusal, read_of}
use Rattle.model.specs.Plain.{plain}
use Rattle.model.specs.declared.Model.{Model}
use Rattle.area.specs.Area.{record_size, room_of, area_after}

-- ---- by the rule
-- an answer, and the state area afterwards
pub record Walked : Type 0 where
  pub answer : Answer
  pub area : List ℤ

-- how the walk of a model ends in an area
abbrev pub ending_of : Model → List ℤ → Ending
ending_of m area = walk_of (plain m) (room_of m.clocks area)

-- a refusal of the bytes comes first, then SHAPE for an area under one record; both leave the area as it was
unfoldable pub walked_of : Said Model → List ℤ → Walked
walked_of (refusal e) area = record { answer = refused e; area = area }
walked_of (value m) area =
    let walked : Walked
    = record {
      answer = answer_of m.depth (ending_of m area);
      area = area_after m.clocks (ending_of m area) area;
    } in
    cond (ltb (length area) (record_size m.clocks))
    (record { answer = refused (refusal_number Shape); area = area }) walked

-- the model with another depth
abbrev pub with_depth : Model → ℕ → Model
with_depth m depth =
    record {
      clocks = m.clocks;
      locations = m.locations;
      edges = m.edges;
      initial = m.initial;
      invariants = m.invariants;
      steps = m.steps;
      target = m.target;
      list = m.list;
      depth = depth;
    }

-- ---- the path that a caller reads off the area
-- word j of record i
abbrev pub word_at : ℕ → List ℤ → ℕ → ℕ → ℤ
word_at n area i j = get_or area (i * record_size n + j) (pos 0)

-- go on at the parent; state 0 has none
abbrev pub climb : ℤ → (ℕ → List ℕ) → List ℕ → List ℕ
climb (pos parent) up done = up parent
climb (negsuc k) up done = done

-- the edges to state i, by parents, in front of those that follow; at most so many
unfoldable pub trail : ℕ → List ℤ → ℕ → ℕ → List ℕ → List ℕ
trail n area zero i follow = follow
trail n area (suc most) i follow =
    climb (word_at n area i 1) (λ parent. trail n area most parent (edge_of (word_at n area i 2) ++ follow)) follow

-- how many states an answer says were kept
abbrev pub kept_said : Answer → ℕ
kept_said (reached edges kept tried) = kept
kept_said (never kept tried) = kept
kept_said (open_to depth kept tried) = kept
kept_said (refused number) = 0

-- the edges to the state kept last
unfoldable pub path_in : ℕ → List ℤ → ℕ → List ℕ
path_in n area kept = trail n area kept (kept - 1) []

-- ---- the contracts
-- of a model: the answer and every word of the area are the rule's, and the answer means what it says of runs, with the
-- path that the area shows
pub record WalksModel (m : Model) (before : List ℤ) (v : Judged) (after : List ℤ) : Type 0 where
  pub rule : record { answer = answer_by v; area = after } ≡ walked_of (value m) before
  pub means : Means (plain m).system (path_in m.clocks after (kept_said (answer_by v))) (answer_by v)

-- of bytes: the same of the model that they stand for, or the refusal of their first fault
pub record Walks (bytes : List ℕ) (before : List ℤ) (v : Judged) (after : List ℤ) : Type 0 where
  pub rule : record { answer = answer_by v; area = after } ≡ walked_of (read_of bytes) before
  pub means : (m : Model) → read_of bytes ≡ value m
      → Means (plain m).system (path_in m.clocks after (kept_said (answer_by v))) (answer_by v)
