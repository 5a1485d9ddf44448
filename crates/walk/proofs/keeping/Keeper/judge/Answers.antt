use native.Mathlib.Omega.{arith}
use mathlib.Core.Path.{sym}
use Rattle.std.proofs.lemmas.Bool.{eqb-true, eqb-false}
use Rattle.walk.proofs.KeepingLaws.{goes_on, judge_empty, judge_covered, judge_kept, does_as}
use Rattle.walk.proofs.keeping.Keeper.judge.Goals as goal
use Rattle.walk.proofs.keeping.Keeper.judge.Goals.{then-is_empty-via-then-is_empty}
use Rattle.walk.proofs.keeping.Keeper.judge.Goals.{then-is_empty-via-else-is_empty+then-covered}

pub returns-then-is_empty : goal.returns-then-is_empty
returns-then-is_empty c = let a = c.args in
    let s = a.s.now in
    goes_on (omega arith) c.requires.0 (elim c.then-is_empty.branch [
      | then-is_empty-via-then-is_empty w ↦
          judge_empty _ _ _ _ a.self.now.goal s.location s.parent s.edge _ c.requires.0 c.requires.1 (eqb-true _ _ (sym w.if-is_empty.ensures))
      | then-is_empty-via-else-is_empty+then-covered w ↦
          judge_covered _ _ _ _ a.self.now.goal s.location s.parent s.edge _ c.requires.0 c.requires.1 _ w.covered.ensures
          w.if-covered.true
    ])

pub returns : goal.returns
returns c = let a = c.args in
    let s = a.s.now in
    does_as (judge_kept _ _ _ _ a.self.now.goal s.location s.parent s.edge _ c.requires.0 c.requires.1 _
    (eqb-false _ _ (sym c.if-is_empty.ensures)) c.covered.ensures c.if-covered.false)
    c.store.ensures
