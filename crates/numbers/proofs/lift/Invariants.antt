use Rattle.numbers.specs.Words.{number}
use Rattle.numbers.proofs.PlaceLaws.{Filling, lifting}
use Rattle.numbers.proofs.lift.Given as goal

abbrev pub invariant-loop-j : goal.invariant-loop-j
invariant-loop-j l = Filling l.from (lifting l.h (number l.t)) l.initial.out l.out l.j
