use Prim.Native.Nat.{◌<◌}
use native.Mathlib.Omega.{arith}
use lib.ListN.{length}
use Rattle.algebra.specs.Vectors.{vectors}
use Rattle.algebra.proofs.Lists.{vectors_length}
use Rattle.making.proofs.HalfLaws.{growing_start, growing_next, growing_done, room_part}
use Rattle.making.proofs.half.Halves.cross_all.Goals as goal

pub loop-j-init : goal.loop-j-init
loop-j-init c = growing_start _ _ _ _

pub cross-requires-clause-room_of : goal.cross-requires-clause-room_of
cross-requires-clause-room_of c =
    let s = c.args.self.now in
    -- the loop goes over the vectors of the list
    let inside : c.loop-j.j < length (vectors s.n s.list.now) = omega (arith, vectors_length s.n s.list.now) in
    room_part _ _ _ _ _ c.loop-j.j _ _ inside c.loop-j.invariant c.requires.room_of

pub loop-j-preserved : goal.loop-j-preserved
loop-j-preserved c = growing_next _ _ _ _ c.loop-j.j _ _ _ _ c.loop-j.invariant c.cross.ensures

pub returns : goal.returns
returns c =
    let s = c.args.self.now in
    growing_done _ _ _ _ _ c.loop-j.j _ _ (omega (arith, vectors_length s.n s.list.now)) c.loop-j.invariant
