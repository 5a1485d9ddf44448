-- The bytes of a number, by its size.
use Prim.Native.Nat.{ℕ, ◌+◌, ◌/◌, ◌%◌, ◌≤◌, ◌<◌}
use native.Mathlib.Omega.{arith}
use mathlib.Core.Path.{◌≡◌}
use mathlib.Core.List.{[], ◌∷◌}
use mathlib.Core.Bool.{Bool, true, false, cond}
use lib.ListN.{length}
use lib.Dec.{ltb}
use borrow.Author.Tests.{lt-ltb, le-ltb}
use Rattle.codec.specs.Number.{bytes_of}

module _ (v : ℕ) where
  -- one byte
  pub small : v < 128 → bytes_of v ≡ v ∷ []
  unfolding bytes_of
  small h = simp (lt-ltb _ _ h)

  -- two bytes
  pub middle : 128 ≤ v → v < 16384 → bytes_of v ≡ (v % 128 + 128) ∷ (v / 128) ∷ []
  unfolding bytes_of
  middle h k = simp (le-ltb _ _ h, lt-ltb _ _ k)

  -- three bytes
  pub large : 16384 ≤ v → bytes_of v ≡ (v % 128 + 128) ∷ (v / 128 % 128 + 128) ∷ (v / 16384) ∷ []
  unfolding bytes_of
  large k = simp (le-ltb v 128 (omega arith), le-ltb _ _ k)

  -- a number has a byte at least
  pub some : 1 ≤ length (bytes_of v)
  unfolding bytes_of
  some = by_test (ltb v 128) (ltb v 16384) _ _ _ _ _ _ where
    by_test : (p q : Bool) (a b c d e f : ℕ) → 1 ≤ length (cond p (a ∷ []) (cond q (b ∷ c ∷ []) (d ∷ e ∷ f ∷ [])))
    by_test true q a b c d e f = omega arith
    by_test false true a b c d e f = omega arith
    by_test false false a b c d e f = omega arith

-- by its size
pub ruleset sizes = (small, middle, large)
