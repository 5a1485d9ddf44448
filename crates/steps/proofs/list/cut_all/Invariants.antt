use lib.ListN.{take, drop}
use Rattle.steps.specs.Working.{front, cut_items}
use Rattle.steps.proofs.Going.{Going}
use Rattle.steps.proofs.list.cut_all.Given as goal

abbrev pub invariant-loop-b : goal.invariant-loop-b
invariant-loop-b l =
    let items = take l.bounds.count l.bounds.items in
    Going l.n l.m l.work (cut_items l.n (drop l.b-index items)) (cut_items l.n items (front l.n l.k l.initial.work))
