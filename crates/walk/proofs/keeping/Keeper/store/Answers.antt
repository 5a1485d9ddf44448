use native.Mathlib.Omega.{arith}
use borrow.Author.Rules.{rules}
use mathlib.Core.Path.{◌≡◌}
use mir.Syntax.{w32}
use mir.Val.{to_z, of_z}
use Rattle.walk.proofs.KeepingLaws.{store_does, store_full}
use Rattle.walk.proofs.keeping.Keeper.store.Goals as goal

pub returns-then-y-self : goal.returns-then-y-self
returns-then-y-self c = let a = c.args in
    let s = a.s.now in
    store_full _ _ _ _ a.self.now.goal s.location s.parent s.edge _ c.requires.0 c.requires.1 (omega (arith, c.if-y-self.true))

pub returns : goal.returns
returns c = let a = c.args in
    let s = a.s.now in
    store_does _ _ _ _ a.self.now.goal s.location s.parent s.edge _ c.requires.0 c.requires.1 _ _ c.keep.auto.area
    (omega (arith, c.if-y-self.false, c.requires.0.within))
    (let p : to_z w32 (of_z w32 s.parent) ≡ s.parent = search rules in
    let e : to_z w32 (of_z w32 s.edge) ≡ s.edge = search rules in
    rw (p, e) at c.keep.ensures) c.tested.ensures
