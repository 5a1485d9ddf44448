use mathlib.Core.List.{map}
use lib.ListN.{length, take}
use Rattle.algebra.specs.Vectors.{vectors}
use Rattle.algebra.specs.Working.{reset_vector}
use Rattle.making.specs.Work.{Grown}
use Rattle.making.proofs.build.replace.Given as goal

abbrev pub invariant-loop-vector : goal.invariant-loop-vector
invariant-loop-vector l = Grown l.n l.initial.work.words l.initial.work.count (take (length l.yielded) (map (reset_vector l.n l.clock l.value) (vectors l.n l.list)))
    l.work.count l.work.words
