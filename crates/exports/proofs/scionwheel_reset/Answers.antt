use mir.Facts.{to_z-of_z}
use Rattle.exports.proofs.CallLaws.{made_fits, resets_same}
use Rattle.exports.proofs.NumberLaws.{handed}
use Rattle.exports.proofs.scionwheel_reset.Goals as goal

pub counted-requires : goal.counted-requires
counted-requires c = made_fits _ _ _ _ _ _ c.reset.ensures

pub returns : goal.returns
returns c =
    record {
      answer = c.reset.result;
      gives = resets_same _ _ _ _ c.args.value _ _ _ c.reset.ensures (to_z-of_z c.ranges.value);
      is = handed c.counted.result _ c.counted.type_inv c.counted.ensures;
    }
