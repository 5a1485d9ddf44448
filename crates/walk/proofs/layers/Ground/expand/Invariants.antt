use mathlib.Core.Path.{◌≡◌}
use Prim.Native.Nat.{◌+◌}
use lib.ListN.{length}
use Rattle.runs.specs.Rule.{try_edge, expand}
use Rattle.walk.specs.Control.{walk_in}
use Rattle.walk.specs.Grounds.{system_of}
use Rattle.walk.proofs.Turns.{Turning}
use Rattle.walk.proofs.layers.Ground.expand.Given as goal

abbrev pub invariant-loop-e : goal.invariant-loop-e
invariant-loop-e l = record {
  long : length l.area ≡ length l.initial.area;
  turning : let S = system_of l.self in
      let n = l.self.outline.now.clocks in
      Turning n l.self.room l.initial.s.kept (l.initial.s.tried + l.e) (try_edge S l.self.room l.i)
      l.self.outline.now.edges l.e (expand S l.self.room l.i (walk_in n l.initial.s l.initial.area)) l.initial.area l.s l.area;
}
