use Rattle.model.specs.Plain.{bounds_of}
use Rattle.runs.specs.Rule.{delayed, cut_all, entering, ◌then◌}
use Rattle.steps.specs.Working.{front}
use Rattle.steps.proofs.Going.{Going, going_next, going_refused, going_last, entering_as}
use Rattle.steps.proofs.list.entered.Goals as goal
use Rattle.steps.proofs.list.entered.Goals.{In_ok-l}

-- the delay is left, and the invariant again
first : (c : In_ok-l) → let a = c.args in
    let inv = bounds_of a.n a.invariant.now in
    Going a.n c.in_ok-l.l c.cut_all.new.work (λ l. delayed a.n l then cut_all a.n inv)
    (entering a.n inv (front a.n a.k a.work.now))
first c = going_next (entering_as _ _ _) c.in_ok-l.ensures

pub returns-in_err-l : goal.returns-in_err-l
returns-in_err-l c = going_refused _ (entering_as _ _ _) c.in_err-l.ensures c.from_residual.ensures.1

pub returns-in_err-m : goal.returns-in_err-m
returns-in_err-m c =
    let g = first (goal.at.returns-in_err-m c).In_ok-l in
    going_refused _ g.same c.in_err-m.ensures c.from_residual-in_err-m.ensures.1

pub returns : goal.returns
returns c =
    let g = first (goal.at.returns c).In_ok-l in
    let inv = bounds_of c.args.n c.args.invariant.now in
    going_last (going_next {next = cut_all c.args.n inv} g.same c.in_ok-m.ensures).same
    c.cut_all-2.ensures
