use Prim.Native.Nat.{◌*◌}
use lib.ListN.{length}
use Rattle.sets.proofs.RowLaws.{part_is}
use Rattle.sets.proofs.FallLaws.{gathered_skip, gathered_next, ends_early}
use Rattle.sets.proofs.against.gather.Goals as goal
use Rattle.sets.proofs.against.gather.Goals.{then-used-i+in_ok-from, else-used-i}

pub returns-in_err-from : goal.returns-in_err-from
returns-in_err-from c =
    let l = c.loop-i in
    let w = length c.args.x.now in
    rw c.from_residual.ensures
    (ends_early _ _ _ l.i _ _ _ (part_is c.args.list.now (l.i * w) w) c.if-used-i.true l.invariant _ _
    c.loop-i-test.true c.in_err-from.ensures)

pub loop-i-preserved : goal.loop-i-preserved
loop-i-preserved c =
    let l = c.loop-i in
    let w = length c.args.x.now in
    elim c.if-used-i.branch [
      | then-used-i+in_ok-from h ↦
          rw (h.reached-is, h.from-is)
          (gathered_next _ _ _ l.i _ _ _ (part_is c.args.list.now (l.i * w) w) h.if-used-i.true l.invariant _ _
          h.in_ok-from.ensures)
      | else-used-i h ↦ rw (h.reached-is, h.from-is) (gathered_skip _ _ _ l.i _ _ h.if-used-i.false l.invariant)
    ]
