use mathlib.Core.Path.{◌≡◌, subst}
use mathlib.Core.List.{[], ◌∷◌, List}
use Prim.Native.Nat.{◌+◌, ◌*◌, ℕ, ◌<◌}
use native.Mathlib.Omega.{arith}
use lib.IntN.{ℤ}
use Rattle.algebra.specs.Vectors.{Vector, vector, vectors, count}
use Rattle.sets.specs.Tests.{part}
use Rattle.sets.proofs.FallLaws.{each_wider}
use Rattle.making.specs.Work.{Grown, Pushed}
use Rattle.making.proofs.BuildLaws.{grown_one, row_vector}
use Rattle.making.proofs.HalfLaws.{counted, row_long, row_near, keep_none, keep_all, keep_room, keep_rest}
use Rattle.making.proofs.HalfLaws.{side_enough, side_short}
use Rattle.making.proofs.half.Halves.keep.Goals as goal

-- vector i stands behind the others
stands : (n : ℕ) (work : List ℤ) (k : ℕ) (list v : List ℤ) (i c : ℕ) (after : List ℤ) → i < count n list
    → v ≡ part list (i * (n + 1)) (n + 1) → Pushed n work k v after → c ≡ k + 1
    → Grown n work k (vector (vectors n list) i ∷ []) c after
stands n work k list v i c after b e p q =
    subst (λ (v : Vector). Grown n work k (v ∷ []) c after) (row_vector n list i (counted n list i b))
    (grown_one n work k _ after c (rw e at p) q)

pub push-requires : goal.push-requires
push-requires c =
    let s = c.args.self.now in
    let i = c.requires.inside in
    let satisfies = side_enough _ _ c.t6-1.given c.t9-1.given c.if-self-i.true in
    rw c.vector.ensures (record {
      clocks = s.halved.clocks;
      long = row_long s.n s.list.now c.args.i i;
      room = keep_room s.n _ _ s.ls.now s.rs.now _ c.args.i satisfies c.requires.room_of;
      near = each_wider (omega arith) (row_near s.n s.list.now c.args.i i s.halved.near);
    })

pub cross_all-requires-clause-room_of : goal.cross_all-requires-clause-room_of
cross_all-requires-clause-room_of c =
    let satisfies = side_enough _ _ c.t6-1.given c.t9-1.given c.if-self-i.true in
    keep_rest _ _ _ _ _ _ _ satisfies _ _ c.push.ensures.count c.push.ensures.pushed.long c.requires.room_of

pub returns-then-self-i : goal.returns-then-self-i
returns-then-self-i c =
    let s = c.args.self.now in
    let satisfies = side_enough _ _ c.t6-1.given c.t9-1.given c.if-self-i.true in
    keep_all _ _ _ _ _ _ _ satisfies _ _ _ _
    (stands _ _ _ s.list.now _ c.args.i _ _ c.requires.inside c.vector.ensures c.push.ensures.pushed c.push.ensures.count)
    c.cross_all.ensures

pub returns-else-self-i : goal.returns-else-self-i
returns-else-self-i c =
    let s = c.args.self.now in
    keep_none s.n _ _ s.ls.now s.rs.now (vectors s.n s.list.now) c.args.i
    (side_short _ _ c.t6-1.given c.t9-1.given c.if-self-i.false)
