use Rattle.exports.proofs.NumberLaws.{count_is}
use Rattle.exports.proofs.count.Goals as goal

pub returns : goal.returns
returns c = count_is c.args.k c.requires
