use Rattle.steps.proofs.FrontLaws.{begun}
use Rattle.steps.proofs.list.begin.Goals as goal

pub returns : goal.returns
returns c = let a = c.args in
    rw c.copy_from_slice.ensures.after (begun a.n a.list.now a.work.now c.requires.0 c.requires.1)
