use Rattle.model.specs.Plain.{bounds_of}
use Rattle.runs.specs.Rule.{entering}
use Rattle.steps.proofs.FrontLaws.{shown_begun}
use Rattle.steps.proofs.enter.Goals as goal

pub returns : goal.returns
returns c = let a = c.args in
    shown_begun c.begin-k.ensures (entering a.n (bounds_of a.n a.invariant.now))
    c.entered-answer.ensures a.out.now c.show.ensures
