use native.Mathlib.Omega.{arith}
use Rattle.numbers.proofs.PlaceLaws.{filling_next}
use borrow.Author.Rules.{rules}
use Rattle.numbers.proofs.mix.Goals as goal

pub loop-j-preserved : goal.loop-j-preserved
loop-j-preserved c =
    let l = c.loop-j in
    filling_next _ _ _ l.out l.j _ l.invariant (omega arith)
    (search (rules, c.larger.ensures, c.product.ensures, c.product-in-loop-j.ensures))
