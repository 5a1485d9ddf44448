use Rattle.sets.proofs.FallLaws.{gathered_blank}
use Rattle.sets.proofs.against.short.Goals as goal

pub gather-requires-clause-gathered : goal.gather-requires-clause-gathered
gather-requires-clause-gathered c = gathered_blank _ _ _ c.requires.few
