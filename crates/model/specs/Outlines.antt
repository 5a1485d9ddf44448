-- The outline of a model's bytes, and the model that it stands for: each list and each edge is read where it stands.
use Rattle.std.specs.Prelude.{List, [], map, ◌≡◌, ℕ, ◌<◌, length, get_or, take, Result, Ok, Err, IfOk}
use Rattle.std.specs.Borrow.{Bor}
use Rattle.numbers.specs.Refusals.{refusal_number}
use Rattle.numbers.specs.declared.Refusal.{Refusal}
use Rattle.codec.specs.Number.{Got, got, refused}
use Rattle.codec.specs.Form.{Form, read_in, padded}
use Rattle.bounds.specs.declared.Bounds.{Bounds}
use Rattle.bounds.specs.Bounds.{no_bounds, bounds_form}
use Rattle.model.specs.declared.Edge.{Edge}
use Rattle.model.specs.declared.Model.{Model}
use Rattle.model.specs.declared.Standing.{Standing}
use Rattle.model.specs.declared.Outline.{Outline}
use Rattle.model.specs.Models.{no_edge, past_edge, edge_form}
use Rattle.model.specs.Limits.{ModelLimits}
use Rattle.model.specs.Answers.{Said, value, refusal, read_of}

-- a value that was read, or the blank one
abbrev pub value_or : {A : Type 0} → A → Got A → A
value_or blank (got a t) = a
value_or blank (refused e) = blank

-- what stands at a place by a form: the bytes from there on are s
abbrev pub item_at : {A : Type 0} → Form A → A → List ℕ → A
item_at F blank s = value_or blank (read_in F s)

abbrev pub list_at : ℕ → List ℕ → Bounds
list_at n = item_at (bounds_form n) no_bounds

abbrev pub edge_at : ℕ → ℕ → List ℕ → Edge
edge_at n l = item_at (edge_form n l) no_edge

-- the same at a place of an outline
abbrev pub list_by : ℕ → Bor (List ℕ) → Bounds
list_by n p = list_at n p.now

abbrev pub edge_by : ℕ → ℕ → Standing → Edge
edge_by n l p = edge_at n l p.bytes.now

-- what stands at the first places, in an array of a fixed size
abbrev pub standing : {P A : Type 0} → ℕ → A → (P → A) → ℕ → List P → List A
standing size blank f count places = padded size blank (map f (take count places))

-- the model that an outline stands for
abbrev pub model_by : Outline → Model
model_by o =
    record {
      clocks = o.clocks;
      locations = o.locations;
      edges = o.edges;
      initial = o.initial;
      invariants = standing 32 no_bounds (list_by o.clocks) o.locations o.invariants;
      steps = standing 64 no_edge (edge_by o.clocks o.locations) o.edges o.steps;
      target = o.target;
      list = list_at o.clocks o.list.now;
      depth = o.depth;
    }

-- what stands past the end of an outline's arrays, for the checker: it is never read
abbrev pub past_place : Bor (List ℕ)
past_place = record { ref_ptr = (0, 0); now = [] }

abbrev pub past_standing : Standing
past_standing = record { source = 0; bytes = past_place }

-- it is in limits, the sources are those of its edges, and the arrays have their places
pub record Outlines (o : Outline) : Type 0 where
  pub limits : ModelLimits (model_by o)
  pub sources : (e : ℕ) → e < o.edges
      → (get_or o.steps e past_standing).source ≡ (get_or (model_by o).steps e past_edge).source
  pub lists : length o.invariants ≡ 32
  pub places : length o.steps ≡ 64

-- the answer of `read_outline`
abbrev pub outline_said : Result Outline Refusal → Said Model
outline_said (Ok o) = value (model_by o)
outline_said (Err e) = refusal (refusal_number e)

-- `read_outline`: that of the model that the bytes stand for, or the first fault's refusal
pub record ReadsOutline (s : List ℕ) (r : Result Outline Refusal) : Type 0 where
  pub said : outline_said r ≡ read_of s
  pub holds : IfOk r Outlines
