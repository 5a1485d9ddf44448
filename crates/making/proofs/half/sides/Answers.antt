use Rattle.std.proofs.lemmas.List.{length_push}
use mathlib.Core.Path.{sym, ◌∙◌}
use Prim.Native.Nat.{◌+◌, ◌<◌}
use native.Mathlib.Omega.{arith}
use lib.ListN.{length}
use Rattle.numbers.proofs.WordLaws.{back}
use Rattle.sets.proofs.FallLaws.{each_wider}
use Rattle.making.proofs.Rows.{next_counted, last_counted}
use Rattle.making.proofs.BuildLaws.{rows_count}
use Rattle.making.proofs.SideLaws.{side_row, siding_next, siding_done}
use Rattle.making.proofs.HalfLaws.{uncounted, row_long, row_near}
use Rattle.making.proofs.half.sides.Goals as goal

pub side-requires : goal.side-requires
side-requires c =
    let a = c.args in
    let l = c.loop-i in
    let r = next_counted _ (a.n + 1) a.list.now (omega arith) (cc) (cc) (cc) l.yielded _ l.yielded_by _ c.next.new.self _
    c.in-Some.is c.next.ensures.steps in
    let i = uncounted a.n a.list.now _ r.0 in
    rw r.2 (
      c.requires.long ∙ sym (row_long a.n a.list.now _ i),
      each_wider (omega arith) c.requires.of_side,
      each_wider (omega arith) (row_near a.n a.list.now _ i c.requires.of_list),
    )

pub offset_bounds-out-i : goal.offset_bounds-out-i
offset_bounds-out-i c =
    let a = c.args in
    let l = c.loop-i in
    let r = next_counted _ (a.n + 1) a.list.now (omega arith) (cc) (cc) (cc) l.yielded _ l.yielded_by _ c.next.new.self _
    c.in-Some.is c.next.ensures.steps in
    omega (arith, r.1, uncounted a.n a.list.now _ r.0, c.requires.few)

pub bounds-out-i : goal.bounds-out-i
bounds-out-i c =
    let a = c.args in
    let l = c.loop-i in
    let r = next_counted _ (a.n + 1) a.list.now (omega arith) (cc) (cc) (cc) l.yielded _ l.yielded_by _ c.next.new.self _
    c.in-Some.is c.next.ensures.steps in
    omega (arith, r.1, uncounted a.n a.list.now _ r.0, c.requires.few)

pub loop-i-preserved : goal.loop-i-preserved
loop-i-preserved c =
    let a = c.args in
    let l = c.loop-i in
    let r = next_counted _ (a.n + 1) a.list.now (omega arith) (cc) (cc) (cc) l.yielded _ l.yielded_by _ c.next.new.self _
    c.in-Some.is c.next.ensures.steps in
    -- there are at most 32 vectors
    let few : length l.yielded < 32 = omega (arith, uncounted a.n a.list.now _ r.0, c.requires.few) in
    rw (r.1, length_push, back c.side.type_inv)
    (siding_next _ _ _ l.out _ _ l.invariant few
    (c.side.ensures ∙ side_row a.n a.ab.now a.list.now _ _ c.requires.long r.0 r.2))

pub returns : goal.returns
returns c =
    let a = c.args in
    let l = c.loop-i in
    let d = last_counted _ (a.n + 1) a.list.now (omega arith) (cc) (cc) (cc) l.yielded _ l.yielded_by _ c.next.new.self
    c.in-None.is c.next.ensures.steps in
    siding_done _ _ _ l.out _ (d ∙ sym (rows_count _ _)) l.invariant
