use native.Mathlib.Omega.{arith}
use mathlib.Core.Path.{refl, ◌∙◌}
use Rattle.runs.specs.Rule.{layer}
use Rattle.area.proofs.KeepLaws.{states_many}
use Rattle.walk.proofs.KeepingLaws.{stays}
use Rattle.walk.proofs.Turns.{turn_first, turns_on, turns_met, turns_refused, turns_done, does_more}
use Rattle.walk.proofs.layers.Ground.layer.Goals as goal

pub loop-i-init : goal.loop-i-init
loop-i-init c = record {
  long = refl;
  turning = record {
    grows = stays _ _ c.args.y _ _ c.requires.2 c.requires.0.ready;
    left = unfold layer in turn_first _ c.args.y.kept _ c.args.b _
        (omega (arith, states_many c.args.self.now.outline.now.clocks c.args.y.kept c.args.area.now));
  };
}

pub returns-in_err-moved : goal.returns-in_err-moved
returns-in_err-moved c = does_more (omega (arith, c.loop-i-test.true))
    (turns_refused c.loop-i.invariant.turning c.loop-i-test.true c.in_err-moved.ensures c.from_residual.ensures.1)

pub returns-in_default : goal.returns-in_default
returns-in_default c = does_more (omega (arith, c.loop-i-test.true))
    (turns_met c.loop-i.invariant.turning _ c.loop-i-test.true c.in_ok-moved.ensures c.in_default.not-Going)

pub loop-i-preserved : goal.loop-i-preserved
loop-i-preserved c = record {
  long = c.expand.auto.area ∙ c.loop-i.invariant.long;
  turning = turns_on c.loop-i.invariant.turning c.loop-i-test.true c.in_ok-moved.ensures c.in-Going.is;
}

pub returns : goal.returns
returns c = does_more (omega arith) (turns_done c.loop-i.invariant.turning (omega arith))
