use native.Mathlib.Omega.{arith}
use Rattle.area.proofs.RecordLaws.{size_is, room_min}
use Rattle.area.proofs.room.Goals as goal

pub nonzero_div-area : goal.nonzero_div-area
nonzero_div-area c = omega (arith, c.size.ensures, size_is c.args.n)

pub returns : goal.returns
returns c = room_min _ _ _ c.size.ensures _ c.min.ensures
