use Rattle.exports.proofs.NumberLaws.{handed}
use Rattle.exports.proofs.scionwheel_rewrite.Goals as goal

pub returns : goal.returns
returns c = rw (handed c.counted.result _ c.counted.type_inv c.counted.ensures) c.rewrite.ensures.exact
