use Rattle.exports.proofs.NumberLaws.{handed}
use Rattle.exports.proofs.walked.Goals as goal

pub returns-in-Err : goal.returns-in-Err
returns-in-Err c = rw c.in-Err.is (handed c.refused.result _ c.refused.type_inv c.refused.ensures)
