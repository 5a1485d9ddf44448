use mathlib.Core.Path.{◌≡◌}
use Prim.Native.Nat.{◌<◌}
use lib.IntN.{ℤ, ◌-ℤ◌}
use lib.Signed.{mag}
use mir.Facts.{to_z-of_z}
use mir.Syntax.{w32}
use mir.Val.{SFits, to_z, of_z}
use Rattle.std.specs.Int.{int_min}
use Rattle.numbers.specs.Numbers.{IsFin, Within}
use Rattle.numbers.specs.Words.{number}
use Rattle.numbers.specs.Weights.{cap_of, meet, bound}
use Rattle.numbers.proofs.WordLaws.{finite_word, diff_of, under_min, back}
use borrow.Author.Rules.{rules}
use Rattle.numbers.proofs.under.Goals as goal

module _ {m x g : ℤ} (f : SFits w32 m) (fx : SFits w32 x) (fg : SFits w32 g) (fin : IsFin (number x) × IsFin (number g))
    (near : Within 1000000000 (number x) × Within 1000000000 (number g)) where
  -- the difference fits a word
  fits : SFits w32 (x -ℤ g)
  fits = (diff_of (finite_word fx fin.0) (finite_word fg fin.1) near.0 near.1).fits

  taken : {r : ℤ} → r ≡ int_min (to_z w32 (of_z w32 m)) (to_z w32 (of_z w32 (to_z w32 (of_z w32 x) -ℤ to_z w32 (of_z w32 g))))
      → mag r < 2147483648 → cap_of (to_z w32 (of_z w32 r)) ≡ meet (cap_of m) (bound (number x) (number g))
  taken e h =
      rw (back h, rw (to_z-of_z f, to_z-of_z fx, to_z-of_z fg, to_z-of_z fits) at e)
      (under_min m x g f (finite_word fx fin.0) (finite_word fg fin.1) near.0 near.1)

pub overflow_sub-x : goal.overflow_sub-x
overflow_sub-x c =
    let f = c.ranges in
    rw (to_z-of_z f.x, to_z-of_z f.g) (fits f.m f.x f.g c.requires.fin c.requires.within)

pub returns : goal.returns
returns c = search (rules, taken)
