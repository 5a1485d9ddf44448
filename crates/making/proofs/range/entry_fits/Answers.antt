use mathlib.Core.Path.{◌∙◌}
use borrow.Author.Tests.{eq-eqb}
use mir.Facts.{to_z-of_z}
use Rattle.numbers.proofs.WordLaws.{is_mark_lem, not_mark}
use Rattle.making.proofs.RangeLaws.{point_fits, ray_marked, ray_finite}
use Rattle.making.proofs.range.entry_fits.Goals as goal

pub returns-then-point : goal.returns-then-point
returns-then-point c = rw (c.if-point.true, to_z-of_z c.ranges.x) (point_fits c.ranges.x)

pub returns-then-x-eq-MARK : goal.returns-then-x-eq-MARK
returns-then-x-eq-MARK c =
    let e = c.if-x-eq-MARK.true in
    rw c.if-point.false (eq-eqb _ _ e ∙ ray_marked (is_mark_lem c.ranges.x e))

pub returns-else-x-eq-MARK : goal.returns-else-x-eq-MARK
returns-else-x-eq-MARK c =
    rw (c.if-point.false, to_z-of_z c.ranges.x) (ray_finite (not_mark c.ranges.x c.if-x-eq-MARK.false))
