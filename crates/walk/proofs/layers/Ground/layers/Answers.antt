use native.Mathlib.Omega.{arith}
use mathlib.Core.Path.{ap, ◌∙◌}
use Rattle.std.proofs.Common.{Ok}
use Rattle.walk.proofs.LayerLaws.{finds_same, layering_on, layering_ends, layering_refused, layering_open, still}
use Rattle.walk.proofs.layers.Ground.layers.Goals as goal

pub returns-in_err-moved : goal.returns-in_err-moved
returns-in_err-moved c =
    layering_refused c.loop-d.invariant.layering c.loop-d-test.true c.in_err-moved.ensures c.from_residual.ensures.1

pub returns-in_default : goal.returns-in_default
returns-in_default c = finds_same (ap Ok c.ended.ensures)
    (layering_ends c.loop-d.invariant.layering c.loop-d-test.true c.in_ok-moved.ensures
    (λ z e. absurd (c.in_default.not-Going z e)))

pub returns-then-next-s : goal.returns-then-next-s
returns-then-next-s c = finds_same (ap Ok c.ended-then-next-s.ensures)
    (rw c.in-Going.is at (layering_ends c.loop-d.invariant.layering c.loop-d-test.true c.in_ok-moved.ensures
    (still c.in-Going.is c.if-next-s.true)))

pub loop-d-preserved : goal.loop-d-preserved
loop-d-preserved c = record {
  long = c.layer.auto.area ∙ c.loop-d.invariant.long;
  layering =
      layering_on c.loop-d.invariant.layering c.loop-d-test.true c.in_ok-moved.ensures c.in-Going.is c.if-next-s.false;
}

pub returns : goal.returns
returns c = layering_open c.loop-d.invariant.layering (omega arith)
