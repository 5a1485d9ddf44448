-- Counts and refusals as signed numbers.
use mathlib.Core.Path.{◌≡◌, refl, ◌∙◌}
use Prim.Native.Nat.{ℕ, zero, suc, ◌≤◌, ◌<◌, ◌^◌}
use native.Mathlib.Omega.{arith}
use lib.IntN.{ℤ, pos, ◌-ℤ◌, +ℤ_idl}
use lib.Signed.{mag}
use mir.Syntax.{w64}
use mir.Val.{SFits, to_z, of_z}
use mir.Facts.{to_z-of_z}
use Rattle.numbers.specs.Integers.{hi}
use Rattle.exports.specs.Exported.{minus}

pub count_is : (k : ℕ) → k ≤ 33664 → to_z w64 k ≡ pos k
count_is k h = to_z-of_z {w = w64} {z = pos k} (record { sfits = omega arith })

-- minus a number is not above 0
pub not_above : (k : ℕ) → hi (minus k) ≡ 0
not_above zero = refl
not_above (suc k) = refl

minus_fits : (k : ℕ) → k ≤ 8 → SFits w64 (minus k)
minus_fits zero h = record { sfits = omega arith }
minus_fits (suc k) h = record { sfits = omega arith }

-- 0 less a refusal's number
pub less_fits : (k : ℕ) → k ≤ 8 → SFits w64 (pos 0 -ℤ to_z w64 k)
less_fits k h = rw (count_is k (omega arith), +ℤ_idl) (minus_fits k h)

pub less_is : (k : ℕ) → k ≤ 8 → to_z w64 (of_z w64 (pos 0 -ℤ to_z w64 k)) ≡ minus k
less_is k h = rw (count_is k (omega arith), +ℤ_idl) (to_z-of_z (minus_fits k h))

-- a number that a function hands on
pub handed : (z w : ℤ) → mag z < 2 ^ 63 → z ≡ w → to_z w64 (of_z w64 z) ≡ w
handed z w h e = to_z-of_z {w = w64} {z = z} (record { sfits = h }) ∙ e
