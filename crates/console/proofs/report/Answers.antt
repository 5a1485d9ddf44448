use Rattle.std.proofs.Common.{◌<◌, sym, ap, ◌∙◌, min, take, arith}
use Rattle.std.proofs.lemmas.List.{take_min}
use Rattle.codec.proofs.PackedLaws.{all_of}
use Rattle.console.proofs.ReportLaws.{reports}
use Rattle.console.proofs.report.Goals as goal

-- what the buffer holds are bytes, and no more of them than it has are taken
pub returns : goal.returns
returns c =
    let count = c.min.ensures ∙ ap (min c.args.n) (sym c.told-buffer) in
    reports _ _ _ _ _ _ _ _ c.told-buffer (all_of (λ b. b < 256) 0 _ (λ i _. c.fits-buffer i))
    (ap (λ k. take k c.args.buffer.now) count ∙ take_min _ _) (omega arith) c.answer.ensures
