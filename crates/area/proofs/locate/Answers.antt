use native.Mathlib.Omega.{arith}
use mathlib.Core.Path.{◌≡◌, ap}
use Prim.Native.Nat.{suc, ◌+◌, ◌*◌, ◌≤◌}
use lib.IntN.{pos, nat_abs}
use lib.ListN.{length, get_or}
use mir.Syntax.{w32}
use mir.Val.{to_z, of_z}
use Rattle.algebra.specs.Vectors.{count}
use Rattle.area.specs.Records.{state_in}
use Rattle.area.proofs.RecordLaws.{read_room, location_read, location_small, count_read, list_located, list_ends}
use Rattle.area.proofs.locate.Goals as goal
use Rattle.area.proofs.locate.Goals.{After-size, After-location-1, After-vectors-1}

-- the words that are read lie in the area
room : (c : After-size) → c.args.i * c.size.result + (4 + 32 * suc c.args.n) ≤ length c.args.area.now
room c = read_room c.args.n c.args.i _ c.args.area.now c.size.ensures c.requires.1

-- the two words that are read
located : (c : After-location-1) → let a = c.args in
    to_z w32 (of_z w32 (get_or a.area.now (a.i * c.size.result) (pos 0)))
    ≡ pos (state_in a.n a.area.now a.i).location
located c = location_read c.args.n c.args.i _ c.args.area.now c.size.ensures c.requires.1 c.location-1.given

counted : (c : After-vectors-1) → let a = c.args in
    to_z w32 (of_z w32 (get_or a.area.now (a.i * c.size.result + 3) (pos 0)))
    ≡ pos (count a.n (state_in a.n a.area.now a.i).list)
counted c = count_read c.args.n c.args.i _ c.args.area.now c.size.ensures c.requires.1 c.vectors-1.given

pub bounds-area-at : goal.bounds-area-at
bounds-area-at c = omega (arith, room (goal.at.bounds-area-at c).After-size)

pub bounds-area-at-2 : goal.bounds-area-at-2
bounds-area-at-2 c = omega (arith, room (goal.at.bounds-area-at-2 c).After-size)

pub overflow_cast-vectors : goal.overflow_cast-vectors
overflow_cast-vectors c =
    rw (counted (goal.at.overflow_cast-vectors c).After-vectors-1)
    (tt, omega (arith, c.requires.1.proper.whole.few))

pub overflow_cast-location : goal.overflow_cast-location
overflow_cast-location c =
    let a = c.args in
    let small = location_small a.n a.i _ a.area.now c.size.ensures c.requires.1 c.location-1.given in
    rw (located (goal.at.overflow_cast-location c).After-location-1) (tt, omega (arith, small))

pub returns : goal.returns
returns c = record {
  location = ap nat_abs (located (goal.at.returns c).After-location-1);
  list =
      list_located c.args.n c.args.i _ c.args.area.now c.size.ensures c.requires.1 _
      (ap nat_abs (counted (goal.at.returns c).After-vectors-1));
}

pub slice_bounds-result-end : goal.slice_bounds-result-end
slice_bounds-result-end c =
    list_ends c.args.n c.args.i _ c.args.area.now c.size.ensures c.requires.1 _
    (ap nat_abs (counted (goal.at.slice_bounds-result-end c).After-vectors-1))
