use mathlib.Core.Path.{◌∙◌}
use Rattle.area.specs.Records.{state_in}
use Rattle.area.proofs.CoverLaws.{covers_asks}
use Rattle.area.proofs.covers.Goals as goal

pub returns-then-state-q : goal.returns-then-state-q
returns-then-state-q c =
    let l = c.locate-state.ensures in
    let s = state_in c.args.n c.args.area.now c.args.i in
    c.unwrap_or.ensures ∙ covers_asks _ _ _ s l.location _ c.if-state-q.true _ l.list
    c.included.result c.included.ensures
