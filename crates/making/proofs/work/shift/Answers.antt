use mathlib.Core.Path.{◌≡◌, refl, sym, ◌∙◌}
use mathlib.Core.List.{List}
use Prim.Native.Nat.{◌+◌, ℕ, suc, ◌≤◌, ◌<◌}
use native.Mathlib.Omega.{arith}
use native.Mathlib.Numerals.{add-one}
use lib.IntN.{pos, ◌-ℤ◌, ℤ}
use lib.ListN.{get_or, length, take, replicate}
use lib.Signed.{mag}
use mir.Syntax.{w32}
use mir.Val.{to_z, of_z}
use Rattle.numbers.specs.Numbers.{−∞, ⨁}
use Rattle.numbers.specs.Words.{number}
use Rattle.numbers.specs.Places.{entries, side_of, Each}
use Rattle.numbers.proofs.WordLaws.{Finite, is_mark_lem, not_mark, Marked}
use Rattle.sets.proofs.FallLaws.{each_wider}
use Rattle.making.specs.Work.{shift_of}
use Rattle.making.proofs.WorkLaws.{negated, shift_point, shift_none, shift_ray, largest, zeros_long, zeros_each}
use Rattle.making.proofs.WorkLaws.{negated_back, most_none, most_some, most_near}
use Rattle.making.proofs.work.shift.Goals as goal

-- a ray, whose last word is the mark, and the side of zeros at it
module _ (n : ℕ) (v : List ℤ) (m : ℤ) (clocks : n ≤ 6) (long : length v ≡ suc n)
    (fits : mag (get_or v n (pos 0)) < 2147483648) (marked : of_z w32 (get_or v n (pos 0)) ≡ 2147483648)
    (side : number m ≡ side_of (length v) (entries (take (n + 1) (replicate 7 (pos 0)))) (entries v)) where
  ray : entries v n ≡ −∞
  ray = (is_mark_lem (record { sfits = fits }) marked).is

  -- the last entry is −∞, and the side of zeros is the largest entry
  most : number m ≡ ⨁ n (entries v)
  most = side ∙ largest n v long clocks ray

  -- the mark: there is nothing to shift
  none : Marked m → pos 0 ≡ shift_of n v
  none k = shift_none n v ray (most_none n v m k most)

  -- the largest entry's word, where it is not the mark
  some : Each 10000000 v → mag m < 2147483648 → Finite m
      → to_z w32 (of_z w32 (pos 0 -ℤ to_z w32 (of_z w32 m))) ≡ shift_of n v
  some near h f = negated_back m h (negated m (most_near n v m long near f most)).0
      ∙ shift_ray n v m ray (most_some n v m f most)

pub returns-then-last : goal.returns-then-last
returns-then-last c =
    let a = c.args in
    let last = get_or a.vector.now a.n (pos 0) in
    -- the last word, where it is not the mark
    let finite : Finite last = not_mark (record { sfits = c.last-1.given }) c.if-last.true in
    let near = rw finite.is at (c.requires.2.each a.n (omega arith)) in
    negated_back last c.last-1.given (negated last near).0 ∙ shift_point a.n a.vector.now last finite.is refl

pub side-most-requires : goal.side-most-requires
side-most-requires c =
    let h = c.requires.0 in (
      zeros_long (c.args.n + 1) (omega arith) ∙ add-one _ ∙ sym c.requires.1,
      zeros_each (c.args.n + 1) (omega arith),
      each_wider (omega arith) c.requires.2,
    )

pub returns-then-most : goal.returns-then-most
returns-then-most c =
    none _ _ _ c.requires.0 c.requires.1 c.last-1.given c.if-last.false c.side-most.ensures
    (is_mark_lem (record { sfits = c.side-most.type_inv }) c.if-most.true)

pub returns-else-most : goal.returns-else-most
returns-else-most c =
    some _ _ _ c.requires.0 c.requires.1 c.last-1.given c.if-last.false c.side-most.ensures
    c.requires.2 c.side-most.type_inv (not_mark (record { sfits = c.side-most.type_inv }) c.if-most.false)
