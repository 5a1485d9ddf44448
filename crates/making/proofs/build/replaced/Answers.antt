use mathlib.Core.Path.{ap}
use mathlib.Core.List.{List, ◌++◌}
use Prim.Native.Nat.{◌+◌}
use lib.IntN.{ℤ, pos}
use lib.ListN.{drop, replicate}
use mir.Facts.{to_z-of_z}
use Rattle.numbers.proofs.WordLaws.{back}
use Rattle.making.proofs.ChangeLaws.{changes_replace, value_fits}
use Rattle.making.proofs.build.replaced.Goals as goal

pub returns : goal.returns
returns c =
    let a = c.args in
    let p = c.requires in
    let is = ap (λ (v : List ℤ). v ++ drop (a.n + 1) (replicate 7 (pos 0))) c.copy_from_slice.ensures.after in
    let product = rw (to_z-of_z (value_fits _ p.limits.value), back c.product-arg-1.given) at c.product.ensures in
    rw (back c.product.type_inv) (changes_replace a.n a.clock a.value _ a.vector.now _ p.changeable p.limits is product)
