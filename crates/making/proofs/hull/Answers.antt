use Rattle.std.proofs.lemmas.Result.{err_from_is_err_and}
use Rattle.std.proofs.Common.{Ok}
use mathlib.Core.Path.{◌∙◌, ◌≡◌}
use mathlib.Core.List.{List}
use Prim.Native.Nat.{ℕ}
use native.Mathlib.Omega.{arith}
use lib.IntN.{ℤ}
use Rattle.algebra.specs.Vectors.{vectors}
use Rattle.sets.specs.Demands.{Good as GoodInput}
use Rattle.sets.proofs.TestLaws.{list_each}
use Rattle.making.specs.Calls.{hull_input}
use Rattle.making.specs.Rules.{hull_checked}
use Rattle.making.proofs.Rules.{hull_found}
use Rattle.making.proofs.WorkingLists.{with_few, hull_few}
use Rattle.making.proofs.CallLaws.{none_near, none_long, growable, few_vectors_lem, hull_grown, finishable, passed, hull_ends}
use Rattle.making.proofs.hull.Goals as goal

-- the input is good
good : (n : ℕ) (l m area : List ℤ) → Ok tt ≡ hull_checked n l m area → GoodInput (hull_input n l m area)
good n l m area e = passed (hull_input n l m area) n (hull_found n l m area) e

pub returns-in_err-hull : goal.returns-in_err-hull
returns-in_err-hull c =
    let s = c.args in
    let p = err_from_is_err_and c.from_residual.result c.from_residual.ensures.1 in
    rw (p.1, p.2) ((hull_ends s.n s.first.now s.second.now s.out.now).refused _ c.in_err-hull.ensures)

pub pointed-requires : goal.pointed-requires
pointed-requires c =
    let g = good _ _ _ _ c.in_ok-hull.ensures in
    let w = c.new-work.ensures in
    growable _ _ _ _ g.0.0.few (list_each _ _ g.0.1 g.1.0) (none_long w.words) (omega (arith, w.count, g.0.1.few))

pub pointed-requires-2 : goal.pointed-requires-2
pointed-requires-2 c =
    let s = c.args in
    let g = good _ _ _ _ c.in_ok-hull.ensures in
    let w = c.new-work.ensures in
    let p = c.pointed.ensures in
    growable s.n s.second.now _ _ g.0.0.few (list_each _ _ g.0.2 g.1.1) (p.added.long ∙ none_long w.words)
    (omega (
      arith,
      p.count,
      w.count,
      with_few s.n (vectors s.n s.first.now) (few_vectors_lem _ _ g.0.1.few),
      g.0.2.few,
    ))

pub finish-requires : goal.finish-requires
finish-requires c =
    let s = c.args in
    let g = good _ _ _ _ c.in_ok-hull.ensures in
    let w = c.new-work.ensures in
    let grown = hull_grown _ _ _ _ _ _ _ _ (rw w.count at c.pointed.ensures) c.pointed-2.ensures in
    finishable _ _ _ _ _ grown _ (none_long w.words) (none_near w.words) g.0.0.few
    (omega (
      arith,
      hull_few s.n (vectors s.n s.first.now) (vectors s.n s.second.now)
          (few_vectors_lem _ _ g.0.1.few) (few_vectors_lem _ _ g.0.2.few),
    )) g.0.3

pub returns : goal.returns
returns c =
    let s = c.args in
    let grown = hull_grown _ _ _ _ _ _ _ _ (rw c.new-work.ensures.count at c.pointed.ensures) c.pointed-2.ensures in
    (hull_ends s.n s.first.now s.second.now s.out.now).made c.in_ok-hull.ensures _ _ _ grown _ _ c.finish.ensures
