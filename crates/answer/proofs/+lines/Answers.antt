use native.Mathlib.Omega.{arith}
use mathlib.Core.Path.{◌≡◌, refl}
use Prim.Native.Nat.{ℕ, ◌+◌, ◌*◌, ◌≤◌}
use lib.IntN.{pos}
use lib.ListN.{length, get_or}
use mir.Syntax.{w32}
use mir.Val.{to_z, of_z}
use Rattle.walk.specs.Walks.{word_at}
use Rattle.answer.proofs.LineLaws.{words_inside, word_read, lines_none, parent_earlier, edge_fits_lem}
use Rattle.answer.proofs.LineLaws.{location_fits, parent_printable, line_room, lines_more}
use Rattle.answer.proofs.+lines.Goals as goal
use Rattle.answer.proofs.+lines.Goals.{After-size, After-parent-1, After-edge-1, After-location-1}

-- the words that are read lie in the area
inside : {t : ℕ} (c : After-size t) → c.args.i * c.size.result + 4 ≤ length c.args.area.now
inside c = words_inside c.size.ensures c.requires.shows

-- the three words
parent_word : {t : ℕ} (c : After-parent-1 t) → let a = c.args in
    to_z w32 (of_z w32 (get_or a.area.now (a.i * c.size.result + 1) (pos 0))) ≡ word_at a.n a.area.now a.i 1
parent_word c = word_read c.args.n c.args.i _ 1 c.args.area.now c.size.ensures refl c.parent-1.given

edge_word : {t : ℕ} (c : After-edge-1 t) → let a = c.args in
    to_z w32 (of_z w32 (get_or a.area.now (a.i * c.size.result + 2) (pos 0))) ≡ word_at a.n a.area.now a.i 2
edge_word c = word_read c.args.n c.args.i _ 2 c.args.area.now c.size.ensures refl c.edge-1.given

location_word : {t : ℕ} (c : After-location-1 t) → let a = c.args in
    to_z w32 (of_z w32 (get_or a.area.now (a.i * c.size.result) (pos 0))) ≡ word_at a.n a.area.now a.i 0
location_word c = word_read c.args.n c.args.i _ 0 c.args.area.now c.size.ensures (omega arith) c.location-1.given

pub bounds-area-from : goal.bounds-area-from
bounds-area-from t c = omega (arith, c.well_formed, inside (goal.at.bounds-area-from t c).After-size)

pub bounds-area-from-2 : goal.bounds-area-from-2
bounds-area-from-2 t c = omega (arith, c.well_formed, inside (goal.at.bounds-area-from-2 t c).After-size)

pub bounds-area-from-3 : goal.bounds-area-from-3
bounds-area-from-3 t c = omega (arith, c.well_formed, inside (goal.at.bounds-area-from-3 t c).After-size)

pub returns-then-parent-lt0 : goal.returns-then-parent-lt0
returns-then-parent-lt0 t c =
    let p = parent_word (goal.at.returns-then-parent-lt0 t c).After-parent-1 in
    lines_none c.args.n c.args.i c.args.area.now p c.if-parent-lt0.true

pub lines-end-requires : goal.lines-end-requires
lines-end-requires t c =
    let p = parent_word (goal.at.lines-end-requires t c).After-parent-1 in
    let f = c.if-parent-lt0.false in (
      omega (arith, parent_earlier c.args.n c.args.i c.args.area.now p f c.requires),
      parent_printable c.args.n c.args.i c.args.area.now p f c.requires,
    )

pub overflow_cast-edge : goal.overflow_cast-edge
overflow_cast-edge t c =
    let p = parent_word (goal.at.overflow_cast-edge t c).After-parent-1 in
    let e = edge_word (goal.at.overflow_cast-edge t c).After-edge-1 in
    edge_fits_lem c.args.n c.args.i c.args.area.now p c.if-parent-lt0.false c.requires e

pub overflow_cast-location : goal.overflow_cast-location
overflow_cast-location t c =
    let p = parent_word (goal.at.overflow_cast-location t c).After-parent-1 in
    let l = location_word (goal.at.overflow_cast-location t c).After-location-1 in
    location_fits c.args.n c.args.i c.args.area.now p c.if-parent-lt0.false c.requires l

pub line-requires : goal.line-requires
line-requires t c =
    let p = parent_word (goal.at.line-requires t c).After-parent-1 in
    let e = edge_word (goal.at.line-requires t c).After-edge-1 in
    let l = location_word (goal.at.line-requires t c).After-location-1 in
    line_room c.args.n c.args.i c.args.area.now p c.if-parent-lt0.false c.requires e l c.lines-end.ensures

pub returns : goal.returns
returns t c =
    let p = parent_word (goal.at.returns t c).After-parent-1 in
    let e = edge_word (goal.at.returns t c).After-edge-1 in
    let l = location_word (goal.at.returns t c).After-location-1 in
    lines_more c.args.n c.args.i c.args.area.now p c.if-parent-lt0.false e l c.lines-end.ensures c.line.ensures
