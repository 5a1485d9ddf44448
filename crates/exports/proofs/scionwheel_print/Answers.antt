use Prim.Native.Nat.{◌<◌}
use native.Mathlib.Omega.{arith}
use Rattle.codec.proofs.PackedLaws.{all_of}
use Rattle.exports.proofs.CallLaws.{printed_fits}
use Rattle.exports.proofs.NumberLaws.{handed}
use Rattle.exports.proofs.scionwheel_print.Goals as goal

pub count-requires : goal.count-requires
count-requires c =
    printed_fits _ (all_of (λ b. b < 256) 0 c.args.bytes.now (λ i h. omega (arith, c.shared_slice_known-1.given i)))
    _ _ _ _ _ c.answer.ensures

pub returns : goal.returns
returns c =
    record {
      answer = c.answer.result;
      gives = c.answer.ensures;
      is = handed c.count.result _ c.count.type_inv c.count.ensures;
    }
