-- The bytes of a model.
use Rattle.std.specs.Prelude.{List, ◌++◌, ℕ, take}
use Rattle.codec.specs.Number.{bytes_of}
use Rattle.codec.specs.Arrays.{each}
use Rattle.bounds.specs.declared.Bounds.{Bounds}
use Rattle.bounds.specs.Written.{bounds_bytes}
use Rattle.model.specs.declared.Edge.{Edge}
use Rattle.model.specs.declared.Model.{Model}

-- clocks, locations, edges, initial location
abbrev pub head_bytes : ℕ → ℕ → ℕ → ℕ → List ℕ
head_bytes n l e i = bytes_of n ++ (bytes_of l ++ (bytes_of e ++ bytes_of i))

-- an edge
unfoldable pub edge_bytes : ℕ → Edge → List ℕ
edge_bytes n e =
    bytes_of e.source ++ (bytes_of e.destination ++ (bounds_bytes n e.guard ++ bytes_of e.resets))

-- target location and list, depth
abbrev pub goal_bytes : ℕ → ℕ → Bounds → ℕ → List ℕ
goal_bytes n t list d = bytes_of t ++ (bounds_bytes n list ++ bytes_of d)

-- the bytes of a model, in the order of its fields
unfoldable pub model_bytes : Model → List ℕ
model_bytes m =
    head_bytes m.clocks m.locations m.edges m.initial
    ++ (each (bounds_bytes m.clocks) (take m.locations m.invariants)
    ++ (each (edge_bytes m.clocks) (take m.edges m.steps)
    ++ goal_bytes m.clocks m.target m.list m.depth))
