-- Which plain model, of those that runs are defined over, a record stands for.
use Rattle.std.specs.Prelude.{List, map, ℕ, ◌+◌, nat_abs, take, drop}
use Rattle.numbers.specs.Words.{number}
use Rattle.runs.specs.Models.{Bound, clock_at_most, clock_at_least, difference_at_most, difference_at_least, half_space}
use Rattle.runs.specs.Models.{Edge, Model}
use Rattle.bounds.specs.declared.Kind.{Kind}
use Rattle.bounds.specs.declared.Kind.TheVariants.{AtMost, AtLeast, DifferAtMost, DifferAtLeast, HalfSpace}
use Rattle.bounds.specs.declared.Bound.{Bound as Record}
use Rattle.bounds.specs.declared.Bounds.{Bounds}
use Rattle.model.specs.Bytes.{clocks_of}
use Rattle.model.specs.declared.Edge.{Edge as EdgeRecord}
use Rattle.model.specs.declared.Model.{Model as ModelRecord}

-- the bound that a record over n clocks stands for, by its kind
abbrev pub bound_by : ℕ → Record → Kind → Bound
bound_by n b AtMost = clock_at_most b.x (nat_abs b.k)
bound_by n b AtLeast = clock_at_least b.x (nat_abs b.k)
bound_by n b DifferAtMost = difference_at_most b.x b.y b.k
bound_by n b DifferAtLeast = difference_at_least b.x b.y b.k
bound_by n b HalfSpace =
    half_space (map number (take (n + 1) b.half)) (map number (take (n + 1) (drop (n + 1) b.half)))

-- the first bounds of a list
abbrev pub bounds_of : ℕ → Bounds → List Bound
bounds_of n bs = map (λ b. bound_by n b b.kind) (take bs.count bs.items)

-- an edge
abbrev pub edge_of : ℕ → EdgeRecord → Edge
edge_of n e =
    record {
      source = e.source;
      destination = e.destination;
      guard = bounds_of n e.guard;
      resets = clocks_of n 0 e.resets;
    }

-- the plain model that a record stands for
abbrev pub plain : ModelRecord → Model
plain m =
    record {
      system =
          record {
            clocks = m.clocks;
            initial = m.initial;
            invariants = map (bounds_of m.clocks) (take m.locations m.invariants);
            edges = map (edge_of m.clocks) (take m.edges m.steps);
            target = m.target;
            goal = bounds_of m.clocks m.list;
          };
      depth = m.depth;
    }
