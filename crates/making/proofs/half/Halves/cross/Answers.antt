use Rattle.numbers.proofs.WordLaws.{back}
use Rattle.algebra.specs.Vectors.{vectors}
use Rattle.sets.proofs.FallLaws.{place_short, place_enough}
use Rattle.making.proofs.BuildLaws.{row_vector}
use Rattle.making.proofs.HalfLaws.{counted, row_long, row_near, cross_none, cross_one, cross_room}
use Rattle.making.proofs.half.Halves.cross.Goals as goal

pub mixed-requires : goal.mixed-requires
mixed-requires c =
    let s = c.args.self.now in
    let p = s.halved in
    let (i, j) = c.requires.inside in
    let violates = place_short _ _ c.t8-1.given c.l-1.given c.if-self-j.true in
    rw (c.vector.ensures, c.vector-then-self-j.ensures, back c.l-1.given, back c.mixed-arg-then-self-j-1.given)
    (record {
      clocks = p.clocks;
      room = cross_room s.n _ c.args.work.now.count s.ls.now s.rs.now _ c.args.i c.args.j violates c.requires.room_of;
      long_g = row_long s.n s.list.now c.args.i i;
      long_h = row_long s.n s.list.now c.args.j j;
      near_g = row_near s.n s.list.now c.args.i i p.near;
      near_h = row_near s.n s.list.now c.args.j j p.near;
      of_l = p.of_left c.args.j j;
      of_r = p.of_right c.args.i i;
    })

pub returns-then-self-j : goal.returns-then-self-j
returns-then-self-j c =
    let s = c.args.self.now in
    let (i, j) = c.requires.inside in
    let violates = place_short _ _ c.t8-1.given c.l-1.given c.if-self-j.true in
    cross_one s.n _ _ s.ls.now s.rs.now (vectors s.n s.list.now) c.args.i c.args.j _ _ violates
    (rw (
      c.vector.ensures,
      c.vector-then-self-j.ensures,
      row_vector s.n s.list.now c.args.i (counted s.n s.list.now c.args.i i),
      row_vector s.n s.list.now c.args.j (counted s.n s.list.now c.args.j j),
      back c.l-1.given,
      back c.mixed-arg-then-self-j-1.given,
    ) at c.mixed.ensures)

pub returns-else-self-j : goal.returns-else-self-j
returns-else-self-j c =
    let s = c.args.self.now in
    cross_none s.n _ _ s.ls.now s.rs.now (vectors s.n s.list.now) c.args.i c.args.j
    (place_enough _ _ c.t8-1.given c.l-1.given c.if-self-j.false)
