use mir.Facts.{to_z-of_z}
use Rattle.steps.specs.Rows.{row_by}
use Rattle.steps.proofs.Halving.{set_halves}
use Rattle.steps.proofs.table.by_row.Goals as goal

pub returns : goal.returns
returns c =
    let p = c.requires in
    let a = c.args in
    set_halves a.n a.x a.y a.k p.0 p.1 p.2 (row_by a.row) c.place-p.ensures c.place-q.ensures (to_z-of_z c.ranges.k)
