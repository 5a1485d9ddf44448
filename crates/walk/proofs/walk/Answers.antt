use Rattle.std.proofs.Common.{sym}
use Rattle.std.proofs.lemmas.Result.{err_from_is_err_and}
use Rattle.walk.proofs.WalkLaws.{walks_unread, walks_read}
use Rattle.walk.proofs.walk.Goals as goal

pub returns-in_err-outline : goal.returns-in_err-outline
returns-in_err-outline c =
    let p = err_from_is_err_and c.from_residual.result c.from_residual.ensures.1 in
    rw (p.1, p.2) (walks_unread _ _ _ c.in_err-outline.ensures)

pub returns : goal.returns
returns c = walks_read _ _ _ _ _ (sym c.in_ok-outline.ensures.said) c.walk_outline.ensures
