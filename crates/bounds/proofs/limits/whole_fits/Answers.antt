use Rattle.std.proofs.Common.{rules, pos, refl}
use Rattle.numbers.proofs.Tells.{Tells, means}
use Rattle.codec.specs.Arrays.{Packed}
use Rattle.codec.proofs.PackedLaws.{packed_tells}
use Rattle.bounds.specs.Bounds.{entry_count}
use Rattle.bounds.specs.Limits.{EntryLimits}
use Rattle.bounds.proofs.limits.whole_fits.Goals as goal

pub returns-then-b-eq0-3 : goal.returns-then-b-eq0-3
returns-then-b-eq0-3 c =
    let told : Tells c.packed.result (Packed EntryLimits (pos 0) 14 (entry_count c.args.n) c.args.b.now.half) =
    packed_tells (search rules) refl c.packed.ensures.yes c.packed.ensures.no (λ z b e. e) in
    means (λ e. record { no_x = search rules; no_y = search rules; no_k = search rules; entries = e })
    (λ w. w.entries) told
