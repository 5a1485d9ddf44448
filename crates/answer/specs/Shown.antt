-- The stops of a path as the records of the state area show them, by parents.
use Rattle.std.specs.Prelude.{List, [], ◌∷◌, ◌++◌, ◌≡◌, ℕ, ◌+◌, ◌*◌, ◌≤◌, ◌<◌, ℤ, pos, negsuc, length}
use Rattle.codec.specs.Answers.{Writes, Room}
use Rattle.codec.specs.Arrays.{each}
use Rattle.model.specs.Answers.{value}
use Rattle.model.specs.declared.Model.{Model}
use Rattle.model.specs.declared.Outline.{Outline}
use Rattle.model.specs.Outlines.{Outlines}
use Rattle.area.specs.Area.{record_size}
use Rattle.walk.specs.Walks.{walked_of, word_at}
use Rattle.printing.specs.Text.{Stop, line_of, StopLimits}
use Rattle.answer.specs.Printed.{text_for}

-- record i is that of a stop, and its parent p was kept before it
pub record StopIn (n : ℕ) (area : List ℤ) (i p : ℕ) (s : Stop) : Type 0 where
  pub parent : word_at n area i 1 ≡ pos p
  pub earlier : p < i
  pub edge : word_at n area i 2 ≡ pos s.edge
  pub location : word_at n area i 0 ≡ pos s.location
  pub limits : StopLimits s

-- the stops to record i, which lies in the area: none, or those to its parent and its own
pub data Shows (n : ℕ) (area : List ℤ) : ℕ → List Stop → Type 0 where
  root : {i k : ℕ} → i * record_size n + record_size n ≤ length area → word_at n area i 1 ≡ negsuc k → Shows n area i []
  next : {i p : ℕ} {stops : List Stop} {s : Stop} → i * record_size n + record_size n ≤ length area
      → StopIn n area i p s → Shows n area p stops → Shows n area i (stops ++ (s ∷ []))

-- there are stops to record i, and there is room for their lines
pub record Printable (n : ℕ) (area : List ℤ) (i : ℕ) (text : List ℕ) (at : ℕ) : Type 0 where
  pub clocks : n ≤ 6
  pub stops : List Stop
  pub shows : Shows n area i stops
  pub room : Room at (each line_of stops) text

-- the lines of the stops to record i are written
pub record Lines (n : ℕ) (area : List ℤ) (i : ℕ) (text : List ℕ) (at : ℕ) (text' : List ℕ) (end : ℕ) : Type 0 where
  pub wrote : (stops : List Stop) → Shows n area i stops → Writes text at (each line_of stops) text' end

-- ---- a model that is walked by its outline, and printed
pub record Ready (o : Outline) (text : List ℕ) : Type 0 where
  pub outlined : Outlines o
  pub room : 397 ≤ length text

-- the area is as the walk leaves it, and the text is written
pub record PrintsModel (m : Model) (area : List ℤ) (text : List ℕ) (area' : List ℤ) (text' : List ℕ) (end : ℕ) : Type 0
  where
    pub left : area' ≡ (walked_of (value m) area).area
    pub wrote : Writes text 0 (text_for (value m) (walked_of (value m) area)) text' end
