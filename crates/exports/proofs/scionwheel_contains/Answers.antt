use Rattle.exports.proofs.NumberLaws.{handed}
use Rattle.exports.proofs.scionwheel_contains.Goals as goal

pub returns : goal.returns
returns c =
    record {
      answer = c.contains.result;
      gives = c.contains.ensures;
      is = handed c.told.result _ c.told.type_inv c.told.ensures;
    }
