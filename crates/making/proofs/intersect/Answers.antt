use Rattle.std.proofs.lemmas.Result.{err_from_is_err_and}
use Rattle.std.proofs.Common.{Ok}
use mathlib.Core.List.{List}
use mathlib.Core.Path.{◌≡◌}
use Prim.Native.Nat.{ℕ}
use native.Mathlib.Omega.{arith}
use lib.IntN.{ℤ}
use Rattle.algebra.specs.Vectors.{vectors}
use Rattle.algebra.specs.Wanted.{left, right}
use Rattle.sets.specs.Demands.{Good as GoodInput}
use Rattle.sets.proofs.TestLaws.{list_each}
use Rattle.making.specs.Calls.{intersect_input}
use Rattle.making.specs.Rules.{intersect_checked}
use Rattle.making.proofs.Rules.{intersect_found}
use Rattle.making.proofs.WorkingLists.{intersect_few}
use Rattle.making.proofs.CallLaws.{none_near, none_long, few_vectors_lem, half_each, finishable, passed, intersect_ends}
use Rattle.making.proofs.intersect.Goals as goal

-- the input is good
good : (n : ℕ) (l h area : List ℤ) → Ok tt ≡ intersect_checked n l h area
    → GoodInput (intersect_input n l h area)
good n l h area e = passed (intersect_input n l h area) n (intersect_found n l h area) e

pub returns-in_err-intersect : goal.returns-in_err-intersect
returns-in_err-intersect c =
    let s = c.args in
    let p = err_from_is_err_and c.from_residual.result c.from_residual.ensures.1 in
    rw (p.1, p.2) ((intersect_ends s.n s.list.now s.half.now s.out.now).refused _ c.in_err-intersect.ensures)

pub cut-requires-clause-cuttable : goal.cut-requires-clause-cuttable
cut-requires-clause-cuttable c =
    let g = good _ _ _ _ c.in_ok-intersect.ensures in
    record {
      clocks = g.0.0.few;
      few = g.0.1.few;
      of_list = list_each _ _ g.0.1 g.1.0;
      long = g.0.2;
      of_half = half_each _ _ g.0.2 g.1.1;
      room = omega (arith, none_long c.new-work.ensures.words, g.0.0.few);
    }

pub finish-requires : goal.finish-requires
finish-requires c =
    let s = c.args in
    let g = good _ _ _ _ c.in_ok-intersect.ensures in
    let w = c.new-work.ensures in
    finishable _ _ _ _ _ c.cut.ensures _ (none_long w.words) (none_near w.words) g.0.0.few
    (intersect_few s.n (vectors s.n s.list.now) (few_vectors_lem _ _ g.0.1.few)
    (left s.n s.half.now) (right s.n s.half.now)) g.0.3

pub returns : goal.returns
returns c =
    let s = c.args in
    (intersect_ends s.n s.list.now s.half.now s.out.now).made c.in_ok-intersect.ensures _ _ _ c.cut.ensures
    _ _ c.finish.ensures
