use mathlib.Core.Path.{subst, ◌≡◌}
use mathlib.Core.List.{List, map}
use Prim.Native.Nat.{◌+◌, ℕ, ◌-◌}
use native.Mathlib.Omega.{arith}
use lib.IntN.{ℤ}
use lib.ListN.{take, drop}
use Rattle.numbers.specs.Words.{number}
use Rattle.algebra.specs.Vectors.{Vector, vectors}
use Rattle.algebra.specs.Wanted.{left, right}
use Rattle.algebra.specs.Working.{intersect_list}
use Rattle.sets.specs.Tests.{part}
use Rattle.sets.proofs.FallLaws.{each_part}
use Rattle.making.specs.Work.{Sides, Halved, RoomOf, crossed_list}
use Rattle.making.specs.Finish.{Cuttable}
use Rattle.making.proofs.HalfLaws.{crossed_is, left_is, right_is, left_long, right_long, left_words, right_words}
use Rattle.making.proofs.HalfLaws.{sides_near, crossed_room}
use Rattle.making.proofs.half.cut.Goals as goal

-- the words of both sides at the vectors of the list, as the code makes them
module _ {n : ℕ} {list half work ls rs : List ℤ} (p : Cuttable n list half work)
    (lefts : Sides n (map number (take (n + 1) half)) (vectors n list) ls)
    (rights : Sides n (map number (take (n + 1 + (n + 1) - (n + 1)) (drop (n + 1) half))) (vectors n list) rs) where
  left_part : Sides n (map number (part half 0 (n + 1))) (vectors n list) ls
  left_part = rw (left_is n half p.long) at lefts

  right_part : Sides n (map number (part half (n + 1) (n + 1))) (vectors n list) rs
  right_part = rw (right_is n half p.long) at rights

  -- the sides at the vectors of the list
  left_sides : Sides n (left n half) (vectors n list) ls
  left_sides = subst (λ (v : Vector). Sides n v (vectors n list) ls) (left_words n half p.long) left_part

  right_sides : Sides n (right n half) (vectors n list) rs
  right_sides = subst (λ (v : Vector). Sides n v (vectors n list) rs) (right_words n half p.long) right_part

  -- they are within limits
  halved : Halved n list ls rs
  halved = record {
    clocks = p.clocks;
    few = p.few;
    near = p.of_list;
    lefts = lefts.long;
    rights = rights.long;
    of_left = sides_near n (part half 0 (n + 1)) list ls (left_long n half p.long)
        (each_part half 0 (n + 1) (omega (arith, p.long)) p.of_half) p.of_list left_part;
    of_right = sides_near n (part half (n + 1) (n + 1)) list rs (right_long n half p.long)
        (each_part half (n + 1) (n + 1) (omega (arith, p.long)) p.of_half) p.of_list right_part;
  }

  -- there is room for what they give
  roomy : RoomOf n work 0 (crossed_list n ls rs (vectors n list))
  roomy = crossed_room n _ _ list ls rs work p.few p.room left_sides right_sides

  -- and that is what the half-space gives
  gives : crossed_list n ls rs (vectors n list) ≡ intersect_list n (left n half) (right n half) (vectors n list)
  gives = crossed_is n _ _ (vectors n list) ls rs left_sides right_sides

pub invariant_of-halves : goal.invariant_of-halves
invariant_of-halves c = record { halved = halved c.requires.cuttable c.sides.ensures c.sides-2.ensures }

pub keep_all-requires : goal.keep_all-requires
keep_all-requires c =
    record { room_of = rw c.requires.empty (roomy c.requires.cuttable c.sides.ensures c.sides-2.ensures) }

pub returns : goal.returns
returns c =
    rw (← gives c.requires.cuttable c.sides.ensures c.sides-2.ensures) (rw c.requires.empty at c.keep_all.ensures)
