use Rattle.making.proofs.WorkLaws.{Shifting}
use Rattle.making.proofs.work.place.Given as goal

abbrev pub invariant-loop-j : goal.invariant-loop-j
invariant-loop-j l = Shifting l.vector l.by l.out l.j
