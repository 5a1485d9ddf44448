use mathlib.Core.List.{map}
use lib.ListN.{length}
use Rattle.numbers.specs.Words.{number}
use Rattle.algebra.specs.Vectors.{vectors}
use Rattle.making.proofs.SideLaws.{Siding}
use Rattle.making.proofs.half.sides.Given as goal

abbrev pub invariant-loop-i : goal.invariant-loop-i
invariant-loop-i l = Siding l.n (map number l.ab) (vectors l.n l.list) l.out (length l.yielded)
