use Rattle.exports.proofs.CallLaws.{made_fits}
use Rattle.exports.proofs.NumberLaws.{handed}
use Rattle.exports.proofs.scionwheel_hull.Goals as goal

pub counted-requires : goal.counted-requires
counted-requires c = made_fits _ _ _ _ _ _ c.hull.ensures

pub returns : goal.returns
returns c =
    record {
      answer = c.hull.result;
      gives = c.hull.ensures;
      is = handed c.counted.result _ c.counted.type_inv c.counted.ensures;
    }
