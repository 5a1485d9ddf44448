-- "In limits": what a model may be. What its counts leave unused is 0.
use Rattle.std.specs.Prelude.{ℕ, ◌≤◌, ◌<◌, ◌^◌}
use Rattle.codec.specs.Arrays.{Packed}
use Rattle.bounds.specs.Bounds.{no_bounds}
use Rattle.bounds.specs.Limits.{BoundsLimits}
use Rattle.model.specs.declared.Edge.{Edge}
use Rattle.model.specs.declared.Model.{Model}
use Rattle.model.specs.Models.{no_edge}

-- an edge of a model with n clocks and l locations
pub record EdgeLimits (n l : ℕ) (e : Edge) : Type 0 where
  pub source : e.source < l
  pub destination : e.destination < l
  pub guard : BoundsLimits n e.guard
  pub resets : e.resets < 2 ^ n

-- the numbers of a model: n clocks (1 to 6), l locations (1 to 32), e edges (0 to 64), initial location i, target t,
-- depth d (0 to 200)
pub record NumberLimits (n l e i t d : ℕ) : Type 0 where
  pub some_clocks : 1 ≤ n
  pub clocks : n ≤ 6
  pub some_locations : 1 ≤ l
  pub locations : l ≤ 32
  pub edges : e ≤ 64
  pub initial : i < l
  pub target : t < l
  pub depth : d ≤ 200

-- a model in limits
pub record ModelLimits (m : Model) : Type 0 where
  pub numbers : NumberLimits m.clocks m.locations m.edges m.initial m.target m.depth
  pub invariants : Packed (BoundsLimits m.clocks) no_bounds 32 m.locations m.invariants
  pub edges : Packed (EdgeLimits m.clocks m.locations) no_edge 64 m.edges m.steps
  pub list : BoundsLimits m.clocks m.list
