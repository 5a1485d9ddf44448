use Rattle.std.proofs.Common.{rules}
use Rattle.numbers.proofs.Tells.{means}
use Rattle.bounds.proofs.LimitLaws.{tells_none}
use Rattle.bounds.proofs.limits.plain_fits.Goals as goal

pub returns-then-contains : goal.returns-then-contains
returns-then-contains c =
    means
    (λ e.
    record { clock = search rules; least = search rules; most = search rules; no_y = search rules; no_entries = e })
    (λ w. w.no_entries) (tells_none _ c.eq.ensures)
