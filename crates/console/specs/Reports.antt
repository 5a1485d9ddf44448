-- The program's text: that of the whole input, of which a buffer holds the first bytes.
use Rattle.std.specs.Prelude.{List, ◌++◌, ◌≡◌, ℕ, ◌≤◌, length, take, drop}
use Rattle.answer.specs.Says.{Says}
use Rattle.answer.specs.Printed.{report_of}

-- the first n bytes of the buffer are all of the input that it has room for
abbrev pub Begins : List ℕ → ℕ → List ℕ → Type 0
Begins buffer n input = take n buffer ≡ take (length buffer) input

-- the text of the input stands at the start of its area, and behind it the area is as it was; the text means what it says
pub record Reported (input text : List ℕ) (r : ℕ) (text' : List ℕ) : Type 0 where
  pub long : r ≡ length (report_of input)
  pub is : text' ≡ report_of input ++ drop r text
  pub means : Says input (report_of input)

-- the contract: so it is for every input that the buffer begins
pub record Reports (buffer : List ℕ) (n : ℕ) (text : List ℕ) (r : ℕ) (text' : List ℕ) : Type 0 where
  pub of : (input : List ℕ) → Begins buffer n input → Reported input text r text'
  pub within : r ≤ length text'
