use Rattle.area.proofs.RecordLaws.{size_plus}
use Rattle.area.proofs.size.Goals as goal

pub returns : goal.returns
returns c = size_plus c.args.n
