use mathlib.Core.Path.{◌≡◌}
use Prim.Native.Nat.{◌*◌}
use lib.ListN.{length}
use Rattle.runs.specs.Rule.{expand, layer}
use Rattle.walk.specs.Control.{walk_in}
use Rattle.walk.specs.Grounds.{system_of}
use Rattle.walk.proofs.Turns.{Turning}
use Rattle.walk.proofs.layers.Ground.layer.Given as goal

abbrev pub invariant-loop-i : goal.invariant-loop-i
invariant-loop-i l = record {
  long : length l.area ≡ length l.initial.area;
  turning : let S = system_of l.self in
      let n = l.self.outline.now.clocks in
      Turning n l.self.room l.initial.s.kept (l.i * 64) (expand S l.self.room) l.initial.s.kept l.i
      (layer S l.self.room l.b (walk_in n l.initial.s l.initial.area)) l.initial.area l.s l.area;
}
