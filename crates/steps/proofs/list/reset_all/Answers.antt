use mathlib.Core.Path.{sym, ◌∙◌}
use native.Mathlib.Omega.{arith}
use Rattle.steps.specs.Working.{front}
use Rattle.steps.proofs.Going.{going_next, going_refused, going_done, reset_on, reset_off, reset_none}
use Rattle.steps.proofs.list.reset_all.Goals as goal
use Rattle.steps.proofs.list.reset_all.Goals.{then-bits-eq1+in_ok-m, else-bits-eq1}

pub returns-in_err-m : goal.returns-in_err-m
returns-in_err-m c =
    let n = c.args.n in
    let l = c.loop-i in
    going_refused _
    (sym (reset_on n l.i l.bits (front n l.m l.work) c.loop-i-test.true c.if-bits-eq1.true) ∙ l.invariant.same)
    c.in_err-m.ensures c.from_residual.ensures.1

pub loop-i-preserved : goal.loop-i-preserved
loop-i-preserved c =
    let n = c.args.n in
    let l = c.loop-i in
    let t = front n l.m l.work in
    elim c.if-bits-eq1.branch [
      | then-bits-eq1+in_ok-m w ↦ rw (w.m-is, w.work-is)
          (going_next (sym (reset_on n l.i l.bits t c.loop-i-test.true w.if-bits-eq1.true) ∙ l.invariant.same) w.in_ok-m.ensures)
      | else-bits-eq1 w ↦ rw (w.m-is, w.work-is) (record {
        working = l.invariant.working;
        same = sym (reset_off n l.i l.bits t c.loop-i-test.true w.if-bits-eq1.false) ∙ l.invariant.same;
      })
    ]

pub returns : goal.returns
returns c = let l = c.loop-i in
    let n = c.args.n in
    going_done l.invariant (λ t. reset_none n l.i l.bits t (omega arith))
