use mathlib.Core.Path.{◌≡◌}
use lib.IntN.{ℤ, ◌+ℤ◌}
use mir.Facts.{to_z-of_z}
use mir.Syntax.{w32}
use mir.Val.{SFits, of_z}
use Rattle.numbers.specs.Numbers.{◌⊗◌, Within}
use Rattle.numbers.specs.Words.{number}
use Rattle.numbers.proofs.NumberLaws.{⊗_low}
use Rattle.numbers.proofs.WordLaws.{is_mark_lem, not_mark, sum_of, Fine}
use Rattle.numbers.proofs.product.Goals as goal

-- neither word is the mark: their sum fits a word, and stands for the product
summed : {a b : ℤ} → SFits w32 a → SFits w32 b → (of_z w32 a ≡ 2147483648 → ⊥) → (of_z w32 b ≡ 2147483648 → ⊥)
    → Within 1000000000 (number a) × Within 1000000000 (number b) → Fine (a +ℤ b) (number a ⊗ number b)
summed fits_a fits_b a b near = sum_of (not_mark fits_a a) (not_mark fits_b b) near.0 near.1

pub returns-then-a-eq-MARK : goal.returns-then-a-eq-MARK
returns-then-a-eq-MARK c = let m = is_mark_lem c.ranges.a c.if-a-eq-MARK.true in rw (to_z-of_z c.ranges.a, m.is)

pub returns-then-b-eq-MARK : goal.returns-then-b-eq-MARK
returns-then-b-eq-MARK c =
    let m = is_mark_lem c.ranges.b c.if-b-eq-MARK.true in rw (to_z-of_z c.ranges.b, m.is, ⊗_low)

pub overflow_add-result : goal.overflow_add-result
overflow_add-result c =
    let f = c.ranges in
    rw (to_z-of_z f.a, to_z-of_z f.b) (summed f.a f.b c.if-a-eq-MARK.false c.if-b-eq-MARK.false c.requires).fits

pub returns : goal.returns
returns c =
    let f = c.ranges in
    let sum = summed f.a f.b c.if-a-eq-MARK.false c.if-b-eq-MARK.false c.requires in
    rw (to_z-of_z f.a, to_z-of_z f.b, to_z-of_z sum.fits) sum.is
