use Rattle.std.proofs.lemmas.List.{length_push}
use mathlib.Core.Path.{sym, ◌∙◌}
use mathlib.Core.List.{map}
use Prim.Native.Nat.{◌+◌}
use native.Mathlib.Omega.{arith}
use Rattle.algebra.specs.Vectors.{vectors}
use Rattle.algebra.specs.Working.{reset_vector}
use Rattle.making.proofs.Rows.{next_row, last_row}
use Rattle.making.proofs.BuildLaws.{adding_next, adding_done, row_changeable, row_room}
use Rattle.making.proofs.BuildLaws.{changed_pushable, changed_grown, step_vector, steps_count}
use mir.Facts.{to_z-of_z}
use mir.Syntax.{w32}
use mir.Val.{to_z, of_z}
use Rattle.making.proofs.build.replace.Goals as goal

pub replaced-made-requires-clause-changeable : goal.replaced-made-requires-clause-changeable
replaced-made-requires-clause-changeable c =
    let a = c.args in
    let l = c.loop-vector in
    let r = next_row _ (a.n + 1) a.list.now (omega arith) (cc) (cc) l.yielded _ l.yielded_by _ c.next.new.self _
    c.in-Some.is c.next.ensures.steps in
    row_changeable _ _ _ _ c.requires.growable c.in-Some.vector.now _ r.0 r.1

pub push-requires : goal.push-requires
push-requires c =
    let a = c.args in
    let l = c.loop-vector in
    let r = next_row _ (a.n + 1) a.list.now (omega arith) (cc) (cc) l.yielded _ l.yielded_by _ c.next.new.self _
    c.in-Some.is c.next.ensures.steps in
    changed_pushable _ _ c.replaced-made.result.words _ _ c.requires.growable.clocks
    (c.replaced-made.ensures)
    (row_room _ _ _ _ c.requires.growable c.in-Some.vector.now _ r.0 r.1 _ _ _ (steps_count _ a.n a.list.now) l.invariant)

pub loop-vector-preserved : goal.loop-vector-preserved
loop-vector-preserved c =
    let a = c.args in
    let l = c.loop-vector in
    let f = reset_vector a.n a.clock (to_z w32 (of_z w32 a.value)) in
    let r = next_row _ (a.n + 1) a.list.now (omega arith) (cc) (cc) l.yielded _ l.yielded_by _ c.next.new.self _
    c.in-Some.is c.next.ensures.steps in
    rw length_push (adding_next _ _ _ (map f (vectors a.n a.list.now)) _ _ _ _ _ _ (rw steps_count r.0)
    (step_vector f a.n a.list.now _ _ r.0 r.1) l.invariant
    (changed_grown a.n _ c.replaced-made.result.words _ _ _ _
    (c.replaced-made.ensures)
    c.push.ensures.pushed c.push.ensures.count))

pub returns : goal.returns
returns c =
    let a = c.args in
    let l = c.loop-vector in
    let d = last_row _ (a.n + 1) a.list.now (omega arith) (cc) (cc) l.yielded _ l.yielded_by _ c.next.new.self
    c.in-None.is c.next.ensures.steps in
    rw (to_z-of_z c.ranges.value) at (adding_done _ _ _ _ _ _ _ (d ∙ sym (steps_count _ a.n a.list.now)) l.invariant)
