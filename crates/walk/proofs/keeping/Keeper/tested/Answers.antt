use Rattle.std.proofs.lemmas.Result.{err_from_is_err_and}
use Rattle.walk.proofs.KeepingLaws.{tested_meets, tested_not}
use Rattle.walk.proofs.keeping.Keeper.tested.Goals as goal
use Rattle.walk.proofs.keeping.Keeper.tested.Goals.{else-s-self-via-then-s-self+in_ok-meets+else-branch}
use Rattle.walk.proofs.keeping.Keeper.tested.Goals.{else-s-self-via-else-s-self}

pub returns-in_err-meets : goal.returns-in_err-meets
returns-in_err-meets c =
    let p = err_from_is_err_and c.from_residual.result c.from_residual.ensures.1 in
    rw (p.1, p.2) (tested_meets _ _ _ _ _ c.if-s-self.true c.in_err-meets.ensures)

pub returns-then-branch : goal.returns-then-branch
returns-then-branch c = tested_meets _ _ _ _ _ c.if-s-self.true (rw c.if-branch.true at c.in_ok-meets.ensures)

pub returns-else-s-self : goal.returns-else-s-self
returns-else-s-self c = elim c.else-s-self.branch [
  | else-s-self-via-then-s-self+in_ok-meets+else-branch w ↦
      tested_meets _ _ _ _ _ w.if-s-self.true (rw w.if-branch.false at w.in_ok-meets.ensures)
  | else-s-self-via-else-s-self w ↦ tested_not _ _ _ _ _ w.if-s-self.false
]
