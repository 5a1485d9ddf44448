-- The text of the walk over bytes, what is left in both areas, and the text for an input with room for 64 states.
use Rattle.std.specs.Prelude.{List, [], ◌++◌, map, ◌≡◌, ℕ, ℤ, length, drop}
use Rattle.runs.specs.Models.{System, edge}
use Rattle.runs.specs.Rule.{walk_of, answer_of, kept_by, last_path}
use Rattle.runs.specs.Verdicts.{refused}
use Rattle.model.specs.Answers.{Said, value, refusal, read_of}
use Rattle.model.specs.Plain.{plain}
use Rattle.model.specs.declared.Model.{Model}
use Rattle.walk.specs.Walks.{Walked, walked_of, kept_said, path_in}
use Rattle.printing.specs.Text.{Stop, text_of}
use Rattle.answer.specs.Says.{Says}

-- an edge, and the location that it enters
abbrev pub stop_at : System → ℕ → Stop
stop_at S e = record { edge = e; location = (edge S e).destination }

-- the stops of a path
abbrev pub stops_of : System → List ℕ → List Stop
stops_of S path = map (stop_at S) path

-- the text of the walk of what was read: the answer with the path that the area shows, or the refusal
abbrev pub text_for : Said Model → Walked → List ℕ
text_for (value m) w =
    text_of (stops_of (plain m).system (path_in m.clocks w.area (kept_said w.answer))) w.answer
text_for (refusal e) w = text_of [] (refused e)

-- the text of the walk over bytes
unfoldable pub text_over : List ℕ → List ℤ → List ℕ
text_over bytes area = text_for (read_of bytes) (walked_of (read_of bytes) area)

-- ---- with room for 64 states
-- the text of what was read: the answer of the rule in that room, with its path
abbrev pub report_for : Said Model → List ℕ
report_for (value m) =
    let ending = walk_of (plain m) 64 in
    text_of (stops_of (plain m).system (last_path (kept_by ending))) (answer_of m.depth ending)
report_for (refusal e) = text_of [] (refused e)

-- the text for an input
unfoldable pub report_of : List ℕ → List ℕ
report_of bytes = report_for (read_of bytes)

-- ---- the contract of `answer`
-- how long the text is, and both areas afterwards
pub record Answered : Type 0 where
  pub length : ℕ
  pub area : List ℤ
  pub text : List ℕ

-- the text's length, the state area as the walk leaves it, and the text with what was behind it
unfoldable pub printed_of : List ℕ → List ℤ → List ℕ → Answered
printed_of bytes area text =
    let answer = text_over bytes area in
    record {
      length = length answer;
      area = (walked_of (read_of bytes) area).area;
      text = answer ++ drop (length answer) text;
    }

-- the contract: both areas, and the text means what it says
pub record Prints (bytes : List ℕ) (area : List ℤ) (text : List ℕ) (r : ℕ) (area' : List ℤ) (text' : List ℕ) : Type 0
  where
    pub is : record { length = r; area = area'; text = text' } ≡ printed_of bytes area text
    pub means : Says bytes (text_over bytes area)
