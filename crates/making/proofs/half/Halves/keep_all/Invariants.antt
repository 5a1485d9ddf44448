use Rattle.algebra.specs.Vectors.{vectors}
use Rattle.making.specs.Work.{Grown, up_to, crosses_at}
use Rattle.making.proofs.half.Halves.keep_all.Given as goal

abbrev pub invariant-loop-i : goal.invariant-loop-i
invariant-loop-i l = Grown l.self.n l.initial.work.words l.initial.work.count
    (up_to l.i (crosses_at l.self.n l.self.ls.now l.self.rs.now (vectors l.self.n l.self.list.now)))
    l.work.count l.work.words
