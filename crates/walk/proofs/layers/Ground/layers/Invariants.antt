use mathlib.Core.Path.{◌≡◌}
use lib.ListN.{length}
use Rattle.runs.specs.Rule.{layers}
use Rattle.walk.specs.Control.{walk_in}
use Rattle.walk.specs.Grounds.{system_of}
use Rattle.walk.proofs.LayerLaws.{Layering}
use Rattle.walk.proofs.layers.Ground.layers.Given as goal

abbrev pub invariant-loop-d : goal.invariant-loop-d
invariant-loop-d l = record {
  long : length l.area ≡ length l.initial.area;
  layering : let S = system_of l.self in
      let n = l.self.outline.now.clocks in
      Layering S n l.self.room l.initial.s.kept l.depth l.d l.b
      (layers S l.self.room l.depth 0 (walk_in n l.initial.s l.initial.area)) l.initial.area l.s l.area;
}
