use Prim.Native.Nat.{◌<◌}
use native.Mathlib.Omega.{arith}
use lib.ListN.{length}
use Rattle.algebra.specs.Vectors.{vectors}
use Rattle.making.specs.Work.{crossed_list}
use Rattle.algebra.proofs.Lists.{vectors_length}
use Rattle.making.proofs.HalfLaws.{growing_start, growing_next, growing_done, room_part}
use Rattle.making.proofs.half.Halves.keep_all.Goals as goal

pub loop-i-init : goal.loop-i-init
loop-i-init c = growing_start _ _ _ _

pub keep-requires-clause-room_of : goal.keep-requires-clause-room_of
unfolding crossed_list
keep-requires-clause-room_of c =
    let s = c.args.self.now in
    -- the loop goes over the vectors of the list
    let inside : c.loop-i.i < length (vectors s.n s.list.now) = omega (arith, vectors_length s.n s.list.now) in
    room_part _ _ _ _ _ c.loop-i.i _ _ inside c.loop-i.invariant c.requires.room_of

pub loop-i-preserved : goal.loop-i-preserved
loop-i-preserved c = growing_next _ _ _ _ c.loop-i.i _ _ _ _ c.loop-i.invariant c.keep.ensures

pub returns : goal.returns
unfolding crossed_list
returns c =
    let s = c.args.self.now in
    growing_done _ _ _ _ _ c.loop-i.i _ _ (omega (arith, vectors_length s.n s.list.now)) c.loop-i.invariant
