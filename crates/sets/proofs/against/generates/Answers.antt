use native.Mathlib.Omega.{arith}
use Rattle.sets.specs.Falls.{all_used}
use Rattle.sets.proofs.FallLaws.{gathered_blank, ends_generated}
use Rattle.sets.proofs.against.generates.Goals as goal

pub gather-requires-clause-testable : goal.gather-requires-clause-testable
unfolding all_used
gather-requires-clause-testable c = c.requires

pub gather-requires-clause-gathered : goal.gather-requires-clause-gathered
gather-requires-clause-gathered c = gathered_blank _ _ _ c.requires.few

pub returns : goal.returns
unfolding all_used
returns c =
    ends_generated _ c.args.m _ _ _ _ (omega (arith, c.requires.flags)) c.gather.ensures c.is_none.ensures
