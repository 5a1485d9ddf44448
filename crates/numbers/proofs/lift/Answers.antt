use native.Mathlib.Omega.{arith}
use Rattle.numbers.specs.Numbers.{Within}
use Rattle.numbers.specs.Places.{entries}
use Rattle.numbers.proofs.IntegerLaws.{zarith}
use Rattle.numbers.proofs.WordLaws.{is_low}
use Rattle.numbers.proofs.PlaceLaws.{filling_same, filling_next, lifting_none}
use borrow.Author.Rules.{rules}
use Rattle.numbers.proofs.lift.Goals as goal
use Rattle.numbers.proofs.lift.Goals.{then-h-j-ge-LEAST, else-h-j-ge-LEAST}

pub loop-j-preserved : goal.loop-j-preserved
loop-j-preserved c =
    let l = c.loop-j in
    let near : Within 1000000000 (entries c.args.h.now l.j) = c.requires.each.0.each l.j (omega arith) in
    elim c.if-h-j-ge-LEAST.branch [
      | then-h-j-ge-LEAST w ↦ rw w.out-is
          (filling_next _ _ _ l.out l.j _ l.invariant (omega arith)
          (search (rules, w.larger.ensures, w.product.ensures)))
      | else-h-j-ge-LEAST w ↦ rw w.out-is
          (filling_same _ _ _ l.out l.j l.invariant (omega arith)
          (lifting_none _ _ (is_low near (omega zarith)).is))
    ]
