use mathlib.Core.Path.{refl, sym, ◌∙◌}
use Prim.Native.Nat.{◌<◌}
use native.Mathlib.Omega.{arith}
use lib.ListN.{length}
use Rattle.making.proofs.CleanLaws.{try_long, clean_start, clean_more, clean_done}
use Rattle.making.proofs.clean.clean.Goals as goal

pub loop-i-init : goal.loop-i-init
loop-i-init c = (refl, clean_start _ _ _ _ c.requires.on)

pub loop-i-preserved : goal.loop-i-preserved
loop-i-preserved c =
    let l = c.loop-i in
    let h : l.i < length c.args.alive.now = omega arith in
    let e = c.try_one.ensures in (
      try_long _ _ _ l.alive l.i _ e ∙ l.invariant.0,
      clean_more _ _ _ l.alive l.i _ _ (length l.alive) l.invariant.0 e h l.invariant.1,
    )

pub returns : goal.returns
returns c =
    let l = c.loop-i in
    sym (clean_done _ _ _ l.alive l.i c.loop-i-test.false) ∙ l.invariant.1
