-- The three demands: each promise a type over contracts and runs, and one record that has all of them.
use Rattle.std.specs.Prelude.{List, [], ◌++◌, map, ◌↔◌, ◌≡◌, ℕ, suc, ◌*◌, ◌≤◌, ◌<◌, ℤ, pos, length, take, replicate, Err, Ok}
use Rattle.algebra.specs.Vectors.{Vector}
use Rattle.algebra.specs.Sets.{Set}
use Rattle.sets.specs.Calls.{Contains, IsIncluded}
use Rattle.sets.specs.Demands.{Input}
use Rattle.making.specs.Answers.{Makes}
use Rattle.codec.specs.Arrays.{AreBytes, All}
use Rattle.runs.specs.Models.{System, edge}
use Rattle.runs.specs.Runs.{Reaches}
use Rattle.runs.specs.Closure.{Closed}
use Rattle.runs.specs.Verdicts.{reached, open_to, answer_by}
use Rattle.runs.specs.Verdicts.{Judged}
use Rattle.runs.specs.declared.Verdict.TheVariants.{Reached, Never, Open}
use Rattle.model.specs.declared.Model.{Model}
use Rattle.model.specs.Answers.{value, read_of, ReadsModel, WritesModel, written_said}
use Rattle.model.specs.Limits.{ModelLimits}
use Rattle.model.specs.Plain.{plain}
use Rattle.model.specs.Written.{model_bytes}
use Rattle.area.specs.Area.{room_of}
use Rattle.area.specs.Records.{state_in}
use Rattle.walk.specs.Walks.{path_in, kept_said, with_depth, Walks}
use Rattle.printing.specs.Text.{Stop, never_word, text_of}
use Rattle.answer.specs.Says.{OfModel}
use Rattle.answer.specs.Printed.{Prints}
use Rattle.console.specs.Reports.{Begins, Reports}

-- ---- 1. what a contract allows is one answer, with one content of the lent memory
-- an answer
abbrev pub Settles : {A : Type 0} → (A → Type 0) → Type 0
Settles {A} call = (a b : A) → call a → call b → a ≡ b

-- an answer and what it leaves
abbrev pub SettlesBoth : {A B : Type 0} → (A → B → Type 0) → Type 0
SettlesBoth {A} {B} call = (a b : A) (after last : B) → call a after → call b last → (a ≡ b) × (after ≡ last)

-- every call; `Makes` is the contract of intersect, delay, reset and hull
pub record AnswersSettled : Type 1 where
  pub contains : (n : ℕ) (list point : List ℤ) → Settles (Contains n list point)
  pub included : (n : ℕ) (inner outer : List ℤ) → Settles (IsIncluded n inner outer)
  pub makes : (c : Input) (n : ℕ) (wanted : Set) (before : List ℤ) → SettlesBoth (Makes c n wanted before)
  pub read : (bytes : List ℕ) → Settles (ReadsModel bytes)
  pub write : (m : Model) (before : List ℕ) → SettlesBoth (λ answer after. WritesModel m before after (written_said answer))
  pub walk : (bytes : List ℕ) (before : List ℤ) → SettlesBoth (Walks bytes before)
  pub answer : (bytes : List ℕ) (area : List ℤ) (text : List ℕ) (r q : ℕ) (after last : List ℤ) (text' text'' : List ℕ)
      → Prints bytes area text r after text' → Prints bytes area text q last text''
      → (r ≡ q) × (after ≡ last) × (text' ≡ text'')
  pub report : (buffer : List ℕ) (n : ℕ) (text : List ℕ) → SettlesBoth (Reports buffer n text)

-- ---- 2. sets and bytes
-- two making calls whose wanted sets are equal give equal lists
abbrev pub EqualSets : Type 1
EqualSets = (c d : Input) (n : ℕ) (A B : Set) (before before' : List ℤ) (k k' : ℕ) (after after' : List ℤ)
    → Makes c n A before (Ok k) after → Makes d n B before' (Ok k') after' → ((x : Vector) → A x ↔ B x)
    → (k ≡ k') × (take (k * suc n) after ≡ take (k * suc n) after')

-- bytes that are read and written are the same bytes
abbrev pub ReadWritten : Type 0
ReadWritten = (bytes : List ℕ) (m : Model) → AreBytes bytes → read_of bytes ≡ value m
    → (before after : List ℕ) (k : ℕ) → WritesModel m before after (value k) → take k after ≡ bytes

-- a model that is written and read is the same model
abbrev pub WrittenRead : Type 0
WrittenRead = (m : Model) (before after : List ℕ) (k : ℕ) → WritesModel m before after (value k)
    → read_of (take k after) ≡ value m

-- no model has more than 33,664 bytes
abbrev pub ModelSize : Type 0
ModelSize = (m : Model) → ModelLimits m → length (model_bytes m) ≤ 33664

-- the first 33,665 bytes of an input, or any more, are read, walked and answered as all of it
pub record FirstBytes : Type 0 where
  pub read : (input : List ℕ) (k : ℕ) → 33665 ≤ k → read_of (take k input) ≡ read_of input
  pub walk : (input : List ℕ) (k : ℕ) → 33665 ≤ k → (before : List ℤ) (v : Judged) (after : List ℤ)
      → Walks (take k input) before v after → Walks input before v after
  pub answer : (input : List ℕ) (k : ℕ) → 33665 ≤ k → (area : List ℤ) (text : List ℕ) (r : ℕ) (area' : List ℤ)
      (text' : List ℕ) → Prints (take k input) area text r area' text' → Prints input area text r area' text'

-- ---- 3. what is printed, said of runs
-- NEVER: no run of any length reaches the target
abbrev pub NoRun : System → Type 0
NoRun S = (edges : List ℕ) → ¬ Reaches S edges

-- REACHED d and its lines: d edges, a run along them, none along fewer, and each line's location is its edge's
pub record RunAlong (stops : List Stop) (d : ℕ) (S : System) : Type 0 where
  pub many : length stops ≡ d
  pub runs : Reaches S (map (λ (s : Stop). s.edge) stops)
  pub first : (edges : List ℕ) → length edges < d → ¬ Reaches S edges
  pub entered : All (λ (s : Stop). s.location ≡ (edge S s.edge).destination) stops

-- OPEN: no run with at most so many edges
abbrev pub NoneWithin : ℕ → System → Type 0
NoneWithin depth S = (edges : List ℕ) → length edges ≤ depth → ¬ Reaches S edges

-- a text says this of bytes
pub record TextMeans (bytes text : List ℕ) : Type 0 where
  pub never : (rest : List ℕ) → text ≡ never_word ++ rest → OfModel bytes NoRun
  pub reached : (d kept tried : ℕ) (stops : List Stop) → text ≡ text_of stops (reached d kept tried)
      → OfModel bytes (RunAlong stops d)
  pub opens : (depth kept tried : ℕ) → text ≡ text_of [] (open_to depth kept tried) → OfModel bytes (NoneWithin depth)

-- the text that `answer` writes
abbrev pub AnswerMeans : Type 0
AnswerMeans = (bytes : List ℕ) (area : List ℤ) (text : List ℕ) (r : ℕ) (area' : List ℤ) (text' : List ℕ)
    → Prints bytes area text r area' text' → TextMeans bytes (take r text')

-- the text that the program prints, for every input of which its buffer holds the first bytes
abbrev pub ProgramMeans : Type 0
ProgramMeans = (buffer : List ℕ) (n : ℕ) (text : List ℕ) (r : ℕ) (text' : List ℕ) → Reports buffer n text r text'
    → (input : List ℕ) → Begins buffer n input → TextMeans input (take r text')

-- the program has room for 64 states, whatever the number of clocks
abbrev pub ProgramRoom : Type 0
ProgramRoom = (n : ℕ) → n ≤ 6 → room_of n (replicate 14592 (pos 0)) ≡ 64

-- REACHED or NEVER
abbrev pub Certain : Judged → Type 0
Certain (Ok (Reached d k t)) = Unit {0}
Certain (Ok (Never k t)) = Unit {0}
Certain (Ok (Open d k t)) = ⊥
Certain (Err e) = ⊥

-- a REACHED or NEVER stays, with its counts and its edges, at more depth and more room
abbrev pub Stable : Type 0
Stable = (bytes bytes' : List ℕ) (m : Model) (depth : ℕ) → AreBytes bytes → AreBytes bytes'
    → read_of bytes ≡ value m → read_of bytes' ≡ value (with_depth m depth) → m.depth ≤ depth
    → (before before' : List ℤ) → room_of m.clocks before ≤ room_of m.clocks before'
    → (v v' : Judged) (after after' : List ℤ) → Walks bytes before v after → Walks bytes' before' v' after' → Certain v
    → (v' ≡ v)
    × (path_in m.clocks after' (kept_said (answer_by v')) ≡ path_in m.clocks after (kept_said (answer_by v)))

-- how many candidates a verdict says were formed
abbrev pub tried_of : Judged → ℕ
tried_of (Ok (Reached d k t)) = t
tried_of (Ok (Never k t)) = t
tried_of (Ok (Open d k t)) = t
tried_of (Err e) = 0

-- tried is at most kept times the edges
abbrev pub Counted : Type 0
Counted = (bytes : List ℕ) (m : Model) → AreBytes bytes → read_of bytes ≡ value m
    → (before : List ℤ) (v : Judged) (after : List ℤ) → Walks bytes before v after
    → tried_of v ≤ kept_said (answer_by v) * m.edges

-- the states that a NEVER leaves in the area are closed: the start is in them, no candidate leaves them, none meets the
-- target
abbrev pub NeverClosed : Type 0
NeverClosed = (bytes : List ℕ) (m : Model) → AreBytes bytes → read_of bytes ≡ value m
    → (before : List ℤ) (kept tried : ℕ) (after : List ℤ) → Walks bytes before (Ok (Never kept tried)) after
    → Closed (plain m).system kept (λ i. (state_in m.clocks after i).location) (λ i. (state_in m.clocks after i).list)

-- lists that are closed, whoever made them, show that no run reaches the target
abbrev pub ClosedMeans : Type 0
ClosedMeans = (S : System) (m : ℕ) (location : ℕ → ℕ) (list : ℕ → List ℤ) → Closed S m location list → NoRun S

-- ---- all of them
pub record Promises : Type 1 where
  -- 1. every call answers, and its contract settles the answer and all lent memory
  pub settled : AnswersSettled
  -- 2. equal sets are equal lists; bytes and models survive both round trips
  pub equal_sets : EqualSets
  pub read_written : ReadWritten
  pub written_read : WrittenRead
  pub model_size : ModelSize
  pub first_bytes : FirstBytes
  -- 3. the printed words mean runs; REACHED and NEVER stay; tried is counted; a NEVER can be checked
  pub answer_means : AnswerMeans
  pub program_means : ProgramMeans
  pub program_room : ProgramRoom
  pub stable : Stable
  pub counted : Counted
  pub never_closed : NeverClosed
  pub closed_means : ClosedMeans
