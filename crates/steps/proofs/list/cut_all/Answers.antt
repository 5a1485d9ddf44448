use Prim.Native.Nat.{◌+◌}
use mathlib.Core.Path.{◌≡◌, sym, ◌∙◌}
use native.Mathlib.Omega.{arith}
use lib.ListN.{get_or, take, drop}
use Rattle.bounds.specs.Bounds.{past_bound}
use Rattle.model.specs.Plain.{bound_by}
use Rattle.runs.specs.Rule.{cut, ◌then◌}
use Rattle.runs.specs.Table.{half_of}
use Rattle.steps.specs.Working.{front, cut_items}
use Rattle.steps.proofs.Going.{going_next, going_refused, going_done, cut_turn, cut_none}
use Rattle.steps.proofs.list.cut_all.Goals as goal
use Rattle.steps.proofs.list.cut_all.Goals.{In-loop-b}

-- this bound, and those that are left
turn : (c : In-loop-b) → let a = c.args in
    let l = c.loop-b in
    let items = take a.bounds.now.count a.bounds.now.items in
    let b = get_or items l.b-index past_bound in
    cut a.n (half_of a.n (bound_by a.n b b.kind)) (front a.n l.m l.work) then cut_items a.n (drop (l.b-index + 1) items)
    ≡ cut_items a.n items (front a.n a.k a.work.now)
turn c = let a = c.args in
    let l = c.loop-b in
    let items = take a.bounds.now.count a.bounds.now.items in
    sym (cut_turn a.n items l.b-index past_bound (omega arith) (front a.n l.m l.work)) ∙ l.invariant.same

pub returns-in_err-m : goal.returns-in_err-m
returns-in_err-m c =
    going_refused _ (turn (goal.at.returns-in_err-m c).In-loop-b) c.in_err-m.ensures c.from_residual.ensures.1

pub loop-b-preserved : goal.loop-b-preserved
loop-b-preserved c = going_next (turn (goal.at.loop-b-preserved c).In-loop-b) c.in_ok-m.ensures

pub returns : goal.returns
returns c = let a = c.args in
    going_done c.loop-b.invariant
    (cut_none a.n (take a.bounds.now.count a.bounds.now.items) c.loop-b.b-index (omega arith))
