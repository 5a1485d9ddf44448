-- What a printed text says of runs, to whoever reads it. There is no walk, no state and no set in it.
use Rattle.std.specs.Prelude.{List, [], ◌++◌, map, ◌≡◌, ℕ}
use Rattle.codec.specs.Arrays.{All}
use Rattle.runs.specs.Models.{System, Model, edge}
use Rattle.runs.specs.Verdicts.{reached, open_to, SaysReached, SaysNever, SaysOpen}
use Rattle.model.specs.Bytes.{value, plain_of}
use Rattle.printing.specs.Text.{Stop, never_word, text_of}

-- the bytes are those of a model, of whose system P holds
pub record OfModel (bytes : List ℕ) (P : System → Type 0) : Type 0 where
  pub model : Model
  pub read : plain_of bytes ≡ value model
  pub holds : P model.system

-- a run along exactly the edges of these lines reaches the target, none with fewer does, and each line has the location
-- that its edge enters
pub record SaysLines (stops : List Stop) (edges : ℕ) (S : System) : Type 0 where
  pub says : SaysReached S (map (λ (s : Stop). s.edge) stops) edges
  pub entered : All (λ (s : Stop). s.location ≡ (edge S s.edge).destination) stops

-- a text that begins with NEVER, one that is REACHED with its lines, and one that is OPEN. REFUSED says nothing of runs
pub record Says (bytes text : List ℕ) : Type 0 where
  pub never : (rest : List ℕ) → text ≡ never_word ++ rest → OfModel bytes SaysNever
  pub reached : (edges kept tried : ℕ) (stops : List Stop) → text ≡ text_of stops (reached edges kept tried)
      → OfModel bytes (SaysLines stops edges)
  pub opens : (depth kept tried : ℕ) → text ≡ text_of [] (open_to depth kept tried)
      → OfModel bytes (λ S. SaysOpen S depth)
