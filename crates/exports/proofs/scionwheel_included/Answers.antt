use Rattle.exports.proofs.NumberLaws.{handed}
use Rattle.exports.proofs.scionwheel_included.Goals as goal

pub returns : goal.returns
returns c =
    record {
      answer = c.included.result;
      gives = c.included.ensures;
      is = handed c.told.result _ c.told.type_inv c.told.ensures;
    }
