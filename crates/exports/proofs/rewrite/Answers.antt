use Rattle.std.proofs.lemmas.Result.{err_from_is_err_and}
use Rattle.exports.proofs.CallLaws.{rewrites_unread, rewrites_written, rewrites_fit}
use Rattle.exports.proofs.rewrite.Goals as goal

pub returns-in_err-model-clause-exact : goal.returns-in_err-model-clause-exact
returns-in_err-model-clause-exact c =
    let p = err_from_is_err_and c.from_residual.result c.from_residual.ensures.1 in
    rw (p.1, p.2) (rewrites_unread _ _ _ c.in_err-model.ensures)

pub returns-clause-exact : goal.returns-clause-exact
returns-clause-exact c = rewrites_written _ _ _ _ c.write.result c.in_ok-model.ensures c.write.ensures

pub returns-clause-few : goal.returns-clause-few
returns-clause-few c = rewrites_fit _ _ _ c.write.result c.write.ensures
