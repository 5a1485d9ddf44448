-- A model's form in bytes. Clocks and locations count from 0.
use Rattle.std.specs.Prelude.{cond, List, [], ℕ, ◌^◌, eqb}
use Rattle.codec.specs.Form.{Form, done, ask, fault, ◌>>=◌, array}
use Rattle.bounds.specs.declared.Bounds.{Bounds}
use Rattle.bounds.specs.Bounds.{no_bounds, bounds_form}
use Rattle.model.specs.declared.Edge.{Edge}
use Rattle.model.specs.declared.Model.{Model}
use Rattle.model.specs.declared.reader.Head.{Head}
use Rattle.model.specs.declared.reader.Goal.{Goal}

-- what stands where there is no edge
abbrev pub no_edge : Edge
no_edge = record { source = 0; destination = 0; guard = no_bounds; resets = 0 }

-- a model from its parts
abbrev pub assembled : Head → List Bounds → List Edge → Goal → Model
assembled h is es g =
    record {
      clocks = h.clocks;
      locations = h.locations;
      edges = h.edges;
      initial = h.initial;
      invariants = is;
      steps = es;
      target = g.target;
      list = g.list;
      depth = g.depth;
    }

-- a number that must not be 0
abbrev pub positive : {A : Type 0} → ℕ → Form A → Form A
positive v F = cond (eqb v 0) fault F

-- clocks (1 to 6), locations (1 to 32), edges (0 to 64), initial location
unfoldable pub head_form : Form Head
head_form =
    ask 7 (λ n. positive n
    (ask 33 (λ l. positive l
    (ask 65 (λ e.
    ask l (λ i.
    done (record { clocks = n; locations = l; edges = e; initial = i })))))))

-- an edge: source, destination, guard list, reset set
unfoldable pub edge_form : ℕ → ℕ → Form Edge
edge_form n l =
    ask l (λ s.
    ask l (λ d.
    bounds_form n >>= λ g.
    ask (2 ^ n) (λ r.
    done (record { source = s; destination = d; guard = g; resets = r }))))

-- the invariant lists of the locations
abbrev pub invariants_form : ℕ → ℕ → Form (List Bounds)
invariants_form n count = array 32 no_bounds count (bounds_form n)

-- the edges
abbrev pub edges_form : ℕ → ℕ → ℕ → Form (List Edge)
edges_form n l count = array 64 no_edge count (edge_form n l)

-- target location and list, depth (0 to 200)
unfoldable pub goal_form : ℕ → ℕ → Form Goal
goal_form n l =
    ask l (λ t.
    bounds_form n >>= λ b.
    ask 201 (λ d.
    done (record { target = t; list = b; depth = d })))

-- a model: its head, an invariant list for each location, its edges, its goal
unfoldable pub model_form : Form Model
model_form =
    head_form >>= λ h.
    invariants_form h.clocks h.locations >>= λ is.
    edges_form h.clocks h.locations h.edges >>= λ es.
    goal_form h.clocks h.locations >>= λ g.
    done (assembled h is es g)

-- what stands past an array's end, for the checker: it is never read
abbrev pub past_bounds : Bounds
past_bounds = record { count = 0; items = [] }

abbrev pub past_edge : Edge
past_edge = record { source = 0; destination = 0; guard = past_bounds; resets = 0 }
