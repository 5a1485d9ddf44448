use Rattle.std.proofs.lemmas.Result.{err_from_is_err_and}
use Rattle.std.proofs.Common.{Ok}
use mathlib.Core.Path.{◌≡◌}
use mathlib.Core.List.{List}
use Prim.Native.Nat.{ℕ}
use native.Mathlib.Omega.{arith}
use lib.IntN.{ℤ}
use mir.Syntax.{w32}
use mir.Val.{to_z, of_z, SFits}
use mir.Facts.{to_z-of_z}
use Rattle.algebra.specs.Vectors.{vectors}
use Rattle.sets.specs.Demands.{Good as GoodInput}
use Rattle.sets.specs.Types.{Checked}
use Rattle.sets.proofs.TestLaws.{list_each}
use Rattle.making.specs.Calls.{reset_input}
use Rattle.making.specs.Rules.{reset_checked}
use Rattle.making.proofs.Rules.{reset_found}
use Rattle.making.proofs.WorkingLists.{reset_few}
use Rattle.making.proofs.CallLaws.{none_near, none_long, growable, few_vectors_lem, finishable, passed, reset_ends}
use Rattle.making.proofs.reset.Goals as goal

-- the input, with the value as the code passes it
module _ (n clock : ℕ) (l area : List ℤ) (value : ℤ) (fits : SFits w32 value) where
  -- what the checks find
  found : {k : Checked} → k ≡ reset_checked n l clock (to_z w32 (of_z w32 value)) area
      → k ≡ reset_checked n l clock value area
  found e = rw (to_z-of_z fits) at e

  -- the input is good
  good : Ok tt ≡ reset_checked n l clock (to_z w32 (of_z w32 value)) area
      → GoodInput (reset_input n l clock value area)
  good e = passed (reset_input n l clock value area) n (reset_found n l clock value area) (found e)

pub returns-in_err-reset : goal.returns-in_err-reset
returns-in_err-reset c =
    let s = c.args in
    let p = err_from_is_err_and c.from_residual.result c.from_residual.ensures.1 in
    rw (p.1, p.2) ((reset_ends s.n s.list.now s.clock s.value s.out.now).refused _ (found _ _ _ _ _ c.ranges.value c.in_err-reset.ensures))

pub replace-requires-clause-growable : goal.replace-requires-clause-growable
replace-requires-clause-growable c =
    let g = good _ _ _ _ _ c.ranges.value c.in_ok-reset.ensures in
    let w = c.new-work.ensures in
    growable _ _ _ _ g.0.0.few (list_each _ _ g.0.1 g.1) (none_long w.words) (omega (arith, w.count, g.0.1.few))

pub replace-requires-clause-limits : goal.replace-requires-clause-limits
replace-requires-clause-limits c =
    rw (to_z-of_z c.ranges.value) (good _ _ _ _ _ c.ranges.value c.in_ok-reset.ensures).2

pub finish-requires : goal.finish-requires
finish-requires c =
    let s = c.args in
    let g = good _ _ _ _ _ c.ranges.value c.in_ok-reset.ensures in
    let w = c.new-work.ensures in
    let grown = rw (w.count, to_z-of_z c.ranges.value) at c.replace.ensures in
    let few = reset_few s.n (vectors s.n s.list.now) (few_vectors_lem _ _ g.0.1.few) s.clock s.value in
    finishable _ _ _ _ _ grown _ (none_long w.words) (none_near w.words) g.0.0.few (omega arith) g.0.2

pub returns : goal.returns
returns c =
    let s = c.args in
    let grown = rw (c.new-work.ensures.count, to_z-of_z c.ranges.value) at c.replace.ensures in
    (reset_ends s.n s.list.now s.clock s.value s.out.now).made (found _ _ _ _ _ c.ranges.value c.in_ok-reset.ensures)
    _ _ _ grown _ _ c.finish.ensures
