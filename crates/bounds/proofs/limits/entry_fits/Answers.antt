use borrow.Author.Rules.{rules}
use borrow.Author.Tests.{eq-eqb}
use Rattle.numbers.proofs.Tells.{always}
use Rattle.bounds.proofs.LimitLaws.{mark_fits, entry_within}
use Rattle.bounds.proofs.limits.entry_fits.Goals as goal

pub returns-then-z-eq-MARK : goal.returns-then-z-eq-MARK
returns-then-z-eq-MARK c =
    rw (eq-eqb _ _ c.if-z-eq-MARK.true) (always (mark_fits _ (search rules) c.if-z-eq-MARK.true))

pub returns-else-z-eq-MARK : goal.returns-else-z-eq-MARK
returns-else-z-eq-MARK c = entry_within _ (search rules) c.if-z-eq-MARK.false (search rules)
