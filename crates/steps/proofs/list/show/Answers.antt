use mathlib.Core.Path.{subst}
use Rattle.making.specs.Types.{Made}
use Rattle.steps.specs.Working.{KeptBy}
use Rattle.steps.proofs.FrontLaws.{show_made}
use Rattle.steps.proofs.list.show.Goals as goal

pub returns : goal.returns
returns c =
    let a = c.args in
    let kept = subst (λ (r : Made). KeptBy a.n r a.work.now) c.in_ok-k.was c.requires.kept in
    rw (c.in_ok-k.was, c.copy_from_slice.ensures.after)
    (show_made a.n c.in_ok-k.k a.work.now a.area.now c.requires.memory kept.few)
