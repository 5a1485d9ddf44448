use Rattle.std.proofs.lemmas.List.{length_push}
use mathlib.Core.Bool.{Bool, true, false, cond}
use mathlib.Core.List.{List}
use mathlib.Core.Path.{◌≡◌, sym, ◌∙◌}
use Prim.Native.Nat.{ℕ, ◌+◌, ◌*◌}
use native.Mathlib.Numerals.{add-one}
use native.Mathlib.Omega.{arith}
use lib.IntN.{ℤ}
use lib.ListN.{length, get_or}
use Rattle.numbers.specs.Places.{entries}
use Rattle.numbers.proofs.Tells.{every_more, every_stop, every_done}
use Rattle.sets.specs.Rules.{flat}
use Rattle.sets.specs.Tests.{part}
use Rattle.making.specs.Finish.{alive_ok, row_ok}
use Rattle.making.proofs.Rows.{next_flagged, last_flagged}
use Rattle.making.proofs.RangeLaws.{row_test, off_passes, on_is}
use Rattle.making.proofs.range.fits.Goals as goal
use Rattle.making.proofs.range.fits.Goals.{else-on-via-then-on+else-not-row_fits, else-on-via-else-on}

-- what the test of vector i says, if it is on
tested : (n : ℕ) (work v : List ℤ) (alive : List Bool) (i : ℕ) {b : Bool} → get_or alive i false ≡ true
    → v ≡ part work (i * (n + 1)) (n + 1) → b ≡ row_ok n (entries v)
    → cond (get_or alive i false) (row_ok n (flat (n + 1) work i)) true ≡ b
tested n work v alive i on q e = on_is _ _ on ∙ sym (row_test n work v i q) ∙ sym e

pub returns-then-not-row_fits : goal.returns-then-not-row_fits
unfolding alive_ok
returns-then-not-row_fits c =
    let a = c.args in
    let l = c.loop-on in
    let r = next_flagged _ a.alive.now (a.n + 1) a.work.now (omega arith) (rw add-one c.requires.1) (cc) (cc) (cc)
    l.yielded _ l.yielded_by _ c.next.new.self _ c.in-Some.is c.next.ensures.steps in
    rw (← add-one a.n) (sym (every_stop _ _ (length l.yielded) r.0
    (tested a.n a.work.now _ a.alive.now _ (sym r.1 ∙ c.if-on.true) r.2 c.if-not-row_fits.ensures)))

-- the way on: vector i is off, or it passes
pub loop-on-preserved : goal.loop-on-preserved
loop-on-preserved c =
    let a = c.args in
    let l = c.loop-on in
    let r = next_flagged _ a.alive.now (a.n + 1) a.work.now (omega arith) (rw add-one c.requires.1) (cc) (cc) (cc)
    l.yielded _ l.yielded_by _ c.next.new.self _ c.in-Some.is c.next.ensures.steps in
    rw length_push (every_more _ (length l.yielded) l.invariant (elim c.else-on.branch [
      | else-on-via-then-on+else-not-row_fits w ↦
          tested a.n a.work.now _ a.alive.now _ (sym r.1 ∙ w.if-on.true) r.2 w.if-not-row_fits.ensures
      | else-on-via-else-on w ↦ off_passes _ _ (sym r.1 ∙ w.if-on.false)
    ]))

pub returns : goal.returns
unfolding alive_ok
returns c =
    let a = c.args in
    let l = c.loop-on in
    let d = last_flagged _ a.alive.now (a.n + 1) a.work.now (omega arith) (rw add-one c.requires.1) (cc) (cc) (cc)
    l.yielded _ l.yielded_by _ c.next.new.self c.in-None.is c.next.ensures.steps in
    rw (← add-one a.n) (every_done _ _ (length l.yielded) d l.invariant)
