use mathlib.Core.Path.{◌≡◌}
use Prim.Native.Nat.{◌<◌}
use lib.IntN.{ℤ}
use lib.Signed.{mag}
use mir.Facts.{to_z-of_z}
use mir.Syntax.{w32}
use mir.Val.{SFits, to_z, of_z}
use Rattle.std.specs.Int.{int_max}
use Rattle.numbers.specs.Numbers.{◌⊕◌}
use Rattle.numbers.specs.Words.{number}
use Rattle.numbers.proofs.WordLaws.{back, number_max}
use borrow.Author.Rules.{rules}
use Rattle.numbers.proofs.larger.Goals as goal

taken : {a b r : ℤ} → SFits w32 a → SFits w32 b → r ≡ int_max (to_z w32 (of_z w32 a)) (to_z w32 (of_z w32 b))
    → mag r < 2147483648 → number (to_z w32 (of_z w32 r)) ≡ number a ⊕ number b
taken f g e h = rw (back h, rw (to_z-of_z f, to_z-of_z g) at e) (number_max f g)

pub returns : goal.returns
returns c = search (rules, taken)
