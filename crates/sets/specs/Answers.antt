-- What a call that asks may answer.
use Rattle.std.specs.Prelude.{Bool, true, false, ℕ, Err, Ok}
use Rattle.numbers.specs.Refusals.{refusal_number}
use Rattle.sets.specs.Types.{Told}
use Rattle.sets.specs.Demands.{Input, Good, asking, Refuses}

-- an answer in the rules' words: yes or no, or the number of a refusal
pub data Said : Type 0 where
  answered : Bool → Said
  refused : ℕ → Said

-- what an answer of the code says
abbrev pub said_by : Told → Said
said_by (Ok b) = answered b
said_by (Err e) = refused (refusal_number e)

-- the answer to a question about good input is yes or no; about other input it is the first refusal
abbrev pub Asks : Input → Type 0 → Said → Type 0
Asks c question (answered true) = Good c × question
Asks c question (answered false) = Good c × ¬ question
Asks c question (refused k) = Refuses (asking c) k
