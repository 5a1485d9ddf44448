use Rattle.std.proofs.lemmas.List.{length_push}
use mathlib.Core.Path.{sym, ◌∙◌, ap}
use mathlib.Core.List.{map}
use Prim.Native.Nat.{◌+◌}
use native.Mathlib.Omega.{arith}
use Rattle.numbers.specs.Words.{number}
use Rattle.algebra.specs.Vectors.{vectors}
use Rattle.making.proofs.Rows.{next_row, last_row}
use Rattle.making.proofs.BuildLaws.{adding_next, adding_done, grown_one, row_pushable, row_vector, rows_count}
use Rattle.making.proofs.build.each.Goals as goal

pub push-requires : goal.push-requires
push-requires c =
    let a = c.args in
    let l = c.loop-vector in
    let r = next_row _ (a.n + 1) a.list.now (omega arith) (cc) (cc) l.yielded _ l.yielded_by _ c.next.new.self _
    c.in-Some.is c.next.ensures.steps in
    row_pushable _ _ _ _ c.requires c.in-Some.vector.now _ r.0 r.1 _ _ _ (rows_count a.n a.list.now) l.invariant

pub loop-vector-preserved : goal.loop-vector-preserved
loop-vector-preserved c =
    let a = c.args in
    let l = c.loop-vector in
    let r = next_row _ (a.n + 1) a.list.now (omega arith) (cc) (cc) l.yielded _ l.yielded_by _ c.next.new.self _
    c.in-Some.is c.next.ensures.steps in
    rw length_push (adding_next _ _ _ (vectors a.n a.list.now) _ _ _ _ _ _ (rw rows_count r.0)
    (ap (map number) r.1 ∙ row_vector a.n a.list.now _ r.0) l.invariant
    (grown_one _ _ _ _ _ _ c.push.ensures.pushed c.push.ensures.count))

pub returns : goal.returns
returns c =
    let a = c.args in
    let l = c.loop-vector in
    let d = last_row _ (a.n + 1) a.list.now (omega arith) (cc) (cc) l.yielded _ l.yielded_by _ c.next.new.self
    c.in-None.is c.next.ensures.steps in
    adding_done _ _ _ _ _ _ _ (d ∙ sym (rows_count _ _)) l.invariant
