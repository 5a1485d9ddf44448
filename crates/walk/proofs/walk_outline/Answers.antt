use native.Mathlib.Omega.{arith}
use Prim.Native.Nat.{◌≤◌}
use mathlib.Core.Path.{sym}
use lib.ListN.{length}
use Rattle.model.specs.Outlines.{model_by}
use Rattle.area.specs.Area.{record_size}
use Rattle.walk.specs.Control.{Finds}
use Rattle.walk.specs.Walks.{ending_of}
use Rattle.walk.proofs.WalkLaws.{walks_short, ready, walks_found, walks_stopped, found_in}
use Rattle.walk.proofs.walk_outline.Goals as goal
use Rattle.walk.proofs.walk_outline.Goals.{After-begin-walked}

-- the area has room for a record
big : (c : After-begin-walked) → record_size c.args.outline.clocks ≤ length c.args.area.now
big c = omega (arith, c.size.ensures, c.if-area-size.false)

-- the walk in that room
found : (c : After-begin-walked) → let a = c.args in
    Finds a.outline.clocks 0 a.outline.depth (ending_of (model_by a.outline) a.area.now) a.area.now
    c.begin-walked.result c.begin-walked.new.area
found c = found_in _ c.requires.limits _ c.room.ensures c.begin-walked.ensures

pub returns-then-area-size : goal.returns-then-area-size
returns-then-area-size c = walks_short _ c.requires.limits _ (rw c.size.ensures at c.if-area-size.true)

pub begin-walked-requires : goal.begin-walked-requires
begin-walked-requires c = record { outlines = c.requires; ready = ready _ c.requires.limits _ _ c.room.ensures }

pub returns-then-is_err : goal.returns-then-is_err
returns-then-is_err c =
    let v = (goal.at.returns-then-is_err c).After-begin-walked in
    walks_stopped _ c.requires.limits _ (big v) c.begin-walked.result _ (found v) (sym c.if-is_err.ensures.value) _
    c.zero.ensures c.begin-walked.auto.area

pub returns-else-is_err : goal.returns-else-is_err
returns-else-is_err c =
    let v = (goal.at.returns-else-is_err c).After-begin-walked in
    walks_found _ c.requires.limits _ (big v) c.begin-walked.result _ (found v) (sym c.if-is_err.ensures.value)
