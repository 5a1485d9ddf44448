use Rattle.model.specs.Plain.{bounds_of, edge_of}
use Rattle.runs.specs.Rule.{following}
use Rattle.steps.proofs.FrontLaws.{shown_begun}
use Rattle.steps.proofs.candidate.Goals as goal

pub returns : goal.returns
returns c = let a = c.args in
    shown_begun c.begin-k.ensures (following a.n (edge_of a.n a.edge.now) (bounds_of a.n a.invariant.now))
    c.followed-answer.ensures a.out.now c.show.ensures
