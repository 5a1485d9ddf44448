use Rattle.exports.proofs.NumberLaws.{handed}
use Rattle.exports.proofs.counted.Goals as goal

pub count-requires : goal.count-requires
count-requires c = rw c.in-Ok.is at c.requires

pub returns-in-Ok : goal.returns-in-Ok
returns-in-Ok c = rw c.in-Ok.is (handed c.count.result _ c.count.type_inv c.count.ensures)

pub returns-in-Err : goal.returns-in-Err
returns-in-Err c = rw c.in-Err.is (handed c.refused.result _ c.refused.type_inv c.refused.ensures)
