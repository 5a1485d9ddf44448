use Rattle.sets.proofs.RowLaws.{part_is}
use Rattle.making.proofs.half.Halves.vector.Goals as goal

pub returns : goal.returns
returns c = part_is _ _ _
