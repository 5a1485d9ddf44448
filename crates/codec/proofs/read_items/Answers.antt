use mathlib.Core.Path.{◌∙◌}
use native.Mathlib.Omega.{arith}
use lib.ListN.{length-set}
use Rattle.std.proofs.lemmas.Result.{err_from_is_err_and}
use Rattle.codec.specs.Answers.{none}
use Rattle.codec.proofs.EachLaws.{each_step, each_ends, each_done, each_read}
use Rattle.codec.proofs.read_items.Goals as goal

pub loop-item-init : goal.loop-item-init
loop-item-init g c = none

pub returns-in_err-value-clause-each : goal.returns-in_err-value-clause-each
returns-in_err-value-clause-each g c =
    let p = err_from_is_err_and c.from_residual.result c.from_residual.ensures.1 in
    rw (p.1, p.2) (each_ends _ _ c.loop-item.invariant (omega arith) _ c.in_err-value.ensures)

pub returns-in_err-value-clause-read : goal.returns-in_err-value-clause-read
returns-in_err-value-clause-read g c form by =
    let p = err_from_is_err_and c.from_residual.result c.from_residual.ensures.1 in
    rw (p.1, p.2) (each_read form by (each_ends _ _ c.loop-item.invariant (omega arith) c.item-item.result c.in_err-value.ensures)
    (length-set _ _ _ ∙ c.loop-item.auto.items))

pub loop-item-preserved : goal.loop-item-preserved
loop-item-preserved g c = each_step _ _ c.loop-item.invariant (omega arith) c.in_ok-value.ensures

pub returns-clause-each : goal.returns-clause-each
returns-clause-each g c = each_done _ _ c.loop-item.invariant (omega arith)

pub returns-clause-read : goal.returns-clause-read
returns-clause-read g c form by =
    each_read form by (each_done _ _ c.loop-item.invariant (omega arith)) c.loop-item.auto.items
