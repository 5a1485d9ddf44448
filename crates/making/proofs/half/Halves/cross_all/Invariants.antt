use Rattle.algebra.specs.Vectors.{vectors}
use Rattle.making.specs.Work.{Grown, up_to, cross_at}
use Rattle.making.proofs.half.Halves.cross_all.Given as goal

abbrev pub invariant-loop-j : goal.invariant-loop-j
invariant-loop-j l = Grown l.self.n l.initial.work.words l.initial.work.count
    (up_to l.j (cross_at l.self.n l.self.ls.now l.self.rs.now (vectors l.self.n l.self.list.now) l.i))
    l.work.count l.work.words
