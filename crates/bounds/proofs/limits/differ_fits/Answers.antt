use Rattle.std.proofs.Common.{rules}
use Rattle.numbers.proofs.Tells.{means}
use Rattle.bounds.proofs.LimitLaws.{tells_none}
use Rattle.bounds.proofs.limits.differ_fits.Goals as goal

pub returns-then-contains : goal.returns-then-contains
returns-then-contains c =
    means
    (λ e.
    record {
      clock = search rules;
      other = search rules;
      differ = search rules;
      least = search rules;
      most = search rules;
      no_entries = e;
    })
    (λ w. w.no_entries) (tells_none _ c.eq.ensures)
