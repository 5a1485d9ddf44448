use native.Mathlib.Omega.{arith}
use mathlib.Core.Path.{◌≡◌}
use mir.Facts.{to_z-of_z}
use Rattle.numbers.specs.Numbers.{fin, Within}
use Rattle.numbers.specs.Words.{number}
use Rattle.numbers.specs.Places.{entries}
use Rattle.numbers.proofs.WordLaws.{back}
use Rattle.making.proofs.WorkLaws.{near_number, shifting_start, shifting_next, shifting_done}
use borrow.Author.Rules.{rules}
use Rattle.making.proofs.work.place.Goals as goal

pub loop-j-init : goal.loop-j-init
loop-j-init c = shifting_start _ _ _ c.requires.0

pub product-requires : goal.product-requires
product-requires c =
    let j = c.loop-j.j in
    let w : Within 1000000000 (entries c.args.vector.now j) = c.requires.1.each j (omega arith) in
    let b : Within 1000000000 (number c.args.by) = rw (near_number c.args.by c.requires.2) c.requires.2 in
    search rules

pub loop-j-preserved : goal.loop-j-preserved
loop-j-preserved c =
    let l = c.loop-j in
    let e : number c.args.by ≡ fin c.args.by = near_number c.args.by c.requires.2 in
    let h = c.product-arg-1.given in
    rw (to_z-of_z c.ranges.by, back c.product.type_inv)
    (shifting_next _ _ l.out l.j _ (rw (to_z-of_z c.ranges.by) at l.invariant) (omega arith)
    (rw (to_z-of_z c.ranges.by, back h, e) at c.product.ensures))

pub returns : goal.returns
returns c =
    let l = c.loop-j in
    rw (← to_z-of_z c.ranges.by) (shifting_done _ _ l.out l.j l.invariant (omega arith))
