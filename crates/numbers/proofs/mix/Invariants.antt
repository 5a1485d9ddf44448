use Rattle.numbers.specs.Words.{number}
use Rattle.numbers.proofs.PlaceLaws.{Filling, mixing}
use Rattle.numbers.proofs.mix.Given as goal

abbrev pub invariant-loop-j : goal.invariant-loop-j
invariant-loop-j l = Filling 0 (mixing (number l.s) l.h (number l.t)) l.initial.out l.out l.j
