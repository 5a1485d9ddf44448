use mathlib.Core.Path.{sym}
use Prim.Native.Nat.{◌-◌}
use native.Mathlib.Omega.{arith}
use mir.Syntax.{w32}
use mir.Val.{to_z}
use mir.Facts.{sfits_to_z, to_z-of_z}
use Rattle.numbers.specs.Numbers.{Within}
use Rattle.numbers.specs.Places.{entries}
use Rattle.numbers.specs.Weights.{cap_of}
use Rattle.numbers.proofs.IntegerLaws.{zarith}
use Rattle.numbers.proofs.WordLaws.{is_low, not_low, near_fits, back, cap_free, under_free, under_low, weigh_low}
use Rattle.numbers.proofs.WordLaws.{weigh_free, weigh_cap}
use Rattle.numbers.proofs.WeightLaws.{meet_free}
use Rattle.numbers.proofs.PlaceLaws.{weigh_back, weigh_all}
use Rattle.numbers.proofs.weight.Goals as goal

pub loop-j-init : goal.loop-j-init
loop-j-init c = rw cap_free (sym (meet_free _))

pub under-m-requires-clause-fin : goal.under-m-requires-clause-fin
under-m-requires-clause-fin c =
    let j = c.loop-j.j - 1 in
    let g : Within 1000000000 (entries c.args.g.now j) = c.requires.1.each j (omega arith) in
    let x : Within 1000000000 (entries c.args.x.now j) = c.requires.2.each j (omega arith) in
    rw (to_z-of_z (near_fits g), to_z-of_z (near_fits x))
    (rw (not_low x (omega zarith)).is tt, rw (not_low g (omega zarith)).is tt)

pub loop-j-preserved-then-g-j-ge-LEAST : goal.loop-j-preserved-then-g-j-ge-LEAST
loop-j-preserved-then-g-j-ge-LEAST c =
    let l = c.loop-j in
    let g : Within 1000000000 (entries c.args.g.now (l.j - 1)) = c.requires.1.each _ (omega arith) in
    let x : Within 1000000000 (entries c.args.x.now (l.j - 1)) = c.requires.2.each _ (omega arith) in
    let e = rw (to_z-of_z (near_fits g), to_z-of_z (near_fits x)) at c.under-m.ensures in
    rw (back c.under-m.type_inv) (weigh_back l.j (l.j - 1) _ _ _ _ _ (omega arith) l.invariant e)

pub returns-then-x-j-lt-LEAST : goal.returns-then-x-j-lt-LEAST
returns-then-x-j-lt-LEAST c =
    let l = c.loop-j in
    let g : Within 1000000000 (entries c.args.g.now (l.j - 1)) = c.requires.1.each _ (omega arith) in
    let x : Within 1000000000 (entries c.args.x.now (l.j - 1)) = c.requires.2.each _ (omega arith) in
    let y = is_low x (omega zarith) in
    let h = not_low g (omega zarith) in
    let low = under_low (to_z w32 l.m-bits) _ _ (sfits_to_z l.auto.m) y h in
    rw (to_z-of_z (near_fits x))
    (weigh_low _ _ _ _ _ y (weigh_back l.j (l.j - 1) _ _ _ _ _ (omega arith) l.invariant low))

pub loop-j-preserved : goal.loop-j-preserved
loop-j-preserved c =
    let l = c.loop-j in
    let p = cap_of (to_z w32 l.m-bits) in
    let g : Within 1000000000 (entries c.args.g.now (l.j - 1)) = c.requires.1.each _ (omega arith) in
    let h = is_low g (omega zarith) in
    let free = under_free (to_z w32 l.m-bits) _ _ h in
    weigh_back l.j (l.j - 1) _ _ p p _ (omega arith) l.invariant free

pub returns-then-m-eq-FREE : goal.returns-then-m-eq-FREE
returns-then-m-eq-FREE c =
    weigh_free _ _ _ _ (weigh_all c.loop-j.j _ _ _ _ (omega arith) c.loop-j.invariant) c.if-m-eq-FREE.true

pub returns-else-m-eq-FREE : goal.returns-else-m-eq-FREE
returns-else-m-eq-FREE c =
    weigh_cap _ _ _ _ (weigh_all c.loop-j.j _ _ _ _ (omega arith) c.loop-j.invariant) (omega arith) c.if-m-eq-FREE.false
