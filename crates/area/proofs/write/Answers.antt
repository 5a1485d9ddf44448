use mathlib.Core.Path.{◌≡◌, ◌∙◌}
use native.Mathlib.Omega.{arith}
use lib.IntN.{pos}
use lib.ListN.{length, get_or}
use mir.Facts.{to_z-of_z}
use Rattle.numbers.proofs.WordLaws.{back}
use Rattle.area.proofs.KeepLaws.{put_none, put_next, write_law}
use Rattle.area.proofs.write.Goals as goal

pub loop-i-init : goal.loop-i-init
loop-i-init c = put_none _ c.args.list.now

pub loop-i-preserved : goal.loop-i-preserved
loop-i-preserved c =
    let l = c.loop-i in
    rw (l.invariant, back {z = get_or c.args.list.now l.i (pos 0)} (omega arith)) (put_next _ c.args.list.now l.i (omega arith) (omega arith))

pub returns : goal.returns
returns c =
    let r = c.ranges in
    let e : c.loop-i.i ≡ length c.args.list.now = omega arith in
    rw (e, c.copy_from_slice.ensures.after, c.zero.ensures) at c.loop-i.invariant
    ∙ rw (to_z-of_z r.location, to_z-of_z r.parent, to_z-of_z r.edge, to_z-of_z r.count)
    (write_law (length c.args.words.now) c.args.list.now _ _ _ _ c.requires)
