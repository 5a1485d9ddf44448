use Rattle.exports.proofs.CallLaws.{made_fits}
use Rattle.exports.proofs.NumberLaws.{handed}
use Rattle.exports.proofs.scionwheel_intersect.Goals as goal

pub counted-requires : goal.counted-requires
counted-requires c = made_fits _ _ _ _ _ _ c.intersect.ensures

pub returns : goal.returns
returns c =
    record {
      answer = c.intersect.result;
      gives = c.intersect.ensures;
      is = handed c.counted.result _ c.counted.type_inv c.counted.ensures;
    }
