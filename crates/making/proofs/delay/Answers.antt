use Rattle.std.proofs.lemmas.Result.{err_from_is_err_and}
use Rattle.std.proofs.Common.{Ok}
use mathlib.Core.Path.{◌∙◌, ◌≡◌}
use mathlib.Core.List.{List}
use Prim.Native.Nat.{ℕ}
use native.Mathlib.Omega.{arith}
use lib.IntN.{ℤ}
use Rattle.algebra.specs.Vectors.{vectors}
use Rattle.sets.specs.Demands.{Good as GoodInput}
use Rattle.sets.proofs.TestLaws.{list_each}
use Rattle.making.specs.Calls.{delay_input}
use Rattle.making.specs.Rules.{delay_checked}
use Rattle.making.proofs.Rules.{delay_found}
use Rattle.making.proofs.WorkingLists.{delay_few}
use Rattle.making.proofs.BuildLaws.{grown_append}
use Rattle.making.proofs.CallLaws.{none_near, none_long, growable, few_vectors_lem, finishable, passed, delay_ends}
use Rattle.making.proofs.delay.Goals as goal

-- the input is good
good : (n : ℕ) (l area : List ℤ) → Ok tt ≡ delay_checked n l area → GoodInput (delay_input n l area)
good n l area e = passed (delay_input n l area) n (delay_found n l area) e

pub returns-in_err-delay : goal.returns-in_err-delay
returns-in_err-delay c =
    let s = c.args in
    let p = err_from_is_err_and c.from_residual.result c.from_residual.ensures.1 in
    rw (p.1, p.2) ((delay_ends s.n s.list.now s.out.now).refused _ c.in_err-delay.ensures)

pub each-requires : goal.each-requires
each-requires c =
    let g = good _ _ _ c.in_ok-delay.ensures in
    let w = c.new-work.ensures in
    growable _ _ _ _ g.0.0.few (list_each _ _ g.0.1 g.1) (none_long w.words) (omega (arith, w.count, g.0.1.few))

pub rays-requires : goal.rays-requires
rays-requires c =
    let s = c.args in
    let g = good _ _ _ c.in_ok-delay.ensures in
    let w = c.new-work.ensures in
    let p = c.each.ensures in
    growable _ _ _ _ g.0.0.few (list_each _ _ g.0.1 g.1) (p.added.long ∙ none_long w.words)
    (omega (arith, p.count, w.count, few_vectors_lem s.n s.list.now g.0.1.few, g.0.1.few))

pub finish-requires : goal.finish-requires
finish-requires c =
    let s = c.args in
    let g = good _ _ _ c.in_ok-delay.ensures in
    let w = c.new-work.ensures in
    let grown = grown_append _ _ _ _ _ _ _ _ _ (rw w.count at c.each.ensures) c.rays.ensures in
    finishable _ _ _ _ _ grown _ (none_long w.words) (none_near w.words) g.0.0.few
    (omega (arith, delay_few s.n (vectors s.n s.list.now) (few_vectors_lem _ _ g.0.1.few))) g.0.2

pub returns : goal.returns
returns c =
    let s = c.args in
    let grown = grown_append _ _ _ _ _ _ _ _ _ (rw c.new-work.ensures.count at c.each.ensures) c.rays.ensures in
    (delay_ends s.n s.list.now s.out.now).made c.in_ok-delay.ensures _ _ _ grown _ _ c.finish.ensures
