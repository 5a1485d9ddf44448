use Rattle.sets.specs.Falls.{Gathered}
use Rattle.sets.proofs.against.gather.Given as goal

abbrev pub invariant-loop-i : goal.invariant-loop-i
invariant-loop-i l = Gathered l.list l.used l.x l.i l.from l.reached
