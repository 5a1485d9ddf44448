use Rattle.exports.proofs.NumberLaws.{handed}
use Rattle.exports.proofs.scionwheel_walk.Goals as goal

pub returns : goal.returns
returns c =
    record {
      verdict = c.walk-answer.result;
      gives = c.walk-answer.ensures;
      is = handed c.walked.result _ c.walked.type_inv c.walked.ensures;
      counted = c.counts_of.ensures;
    }
