use mathlib.Core.Path.{sym}
use Rattle.making.proofs.CallLaws.{pointed_none, pointed_all}
use Rattle.making.proofs.build.pointed.Goals as goal

pub returns-then-has_point : goal.returns-then-has_point
returns-then-has_point c = pointed_all _ _ _ _ _ _ (sym c.if-has_point.ensures) c.each.ensures

pub returns-else-has_point : goal.returns-else-has_point
returns-else-has_point c = pointed_none _ _ _ _ (sym c.if-has_point.ensures)
