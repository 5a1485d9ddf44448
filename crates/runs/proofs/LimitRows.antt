-- Rows that guard the limits of a model: what stands at a limit is in it, and what is one beyond is not.
use mathlib.Core.List.{List, [], ◌∷◌}
use mathlib.Core.Path.{◌≡◌, refl}
use Prim.Native.Nat.{ℕ, zero, suc, ◌≤◌}
use native.Mathlib.Omega.{arith}
use lib.IntN.{ℤ, pos, negsuc}
use lib.ListN.{length, replicate, length-replicate}
use Rattle.numbers.specs.Numbers.{fin, million, minus_million}
use Rattle.sets.specs.Limits.{Between}
use Rattle.runs.specs.Models.{Bound, clock_at_most, clock_at_least, difference_at_most, difference_at_least}
use Rattle.runs.specs.Models.{Model, no_edge}
use Rattle.runs.specs.ModelLimits.{All, BoundLimits, BoundsLimits, DifferenceLimits, Rising, ModelLimits}

all_replicate : {A : Type 0} (P : A → Type 0) (x : A) → P x → (k : ℕ) → All P (replicate k x)
all_replicate P x p zero = tt
all_replicate P x p (suc k) = (p, all_replicate P x p k)

-- ---- bounds
at_most_most : BoundLimits 1 (clock_at_most 0 1000000)
at_most_most = (omega arith, omega arith)

at_least_most : BoundLimits 1 (clock_at_least 0 1000000)
at_least_most = (omega arith, omega arith)

at_most_more : ¬ BoundLimits 1 (clock_at_most 0 1000001)
at_most_more h = absurd (omega (arith, h.1))

at_least_more : ¬ BoundLimits 1 (clock_at_least 0 1000001)
at_least_more h = absurd (omega (arith, h.1))

no_such_clock : ¬ BoundLimits 1 (clock_at_most 1 0)
no_such_clock h = absurd (omega (arith, h.0))

difference : (k : ℤ) → Between minus_million million (fin k) → DifferenceLimits 2 0 1 k
difference k h = record { first = omega arith; second = omega arith; apart = omega arith; constant = h }

difference_most : BoundLimits 2 (difference_at_most 0 1 (pos 1000000))
difference_most =
    difference (pos 1000000) (record { low = record { le = omega arith }; high = record { le = omega arith } })

difference_least : BoundLimits 2 (difference_at_least 0 1 (negsuc 999999))
difference_least =
    difference (negsuc 999999) (record { low = record { le = omega arith }; high = record { le = omega arith } })

difference_more : ¬ BoundLimits 2 (difference_at_most 0 1 (pos 1000001))
difference_more h = absurd (omega (arith, h.constant.high.le))

difference_less : ¬ BoundLimits 2 (difference_at_most 0 1 (negsuc 1000000))
difference_less h = absurd (omega (arith, h.constant.low.le))

one_clock_twice : ¬ BoundLimits 2 (difference_at_most 1 1 (pos 0))
one_clock_twice h = h.apart refl

eight_bounds : BoundsLimits 1 (replicate 8 (clock_at_most 0 0))
eight_bounds = record {
  few = omega arith;
  each = all_replicate (BoundLimits 1) (clock_at_most 0 0) (omega arith, omega arith) 8;
}

nine_bounds : ¬ BoundsLimits 1 (replicate 9 (clock_at_most 0 0))
nine_bounds h = absurd (omega (arith, h.few))

-- ---- resets
rising_resets : Rising 0 2 (0 ∷ 1 ∷ [])
rising_resets = (omega arith, omega arith, (omega arith, omega arith, tt))

falling_resets : ¬ Rising 0 2 (1 ∷ 0 ∷ [])
falling_resets h = absurd (omega (arith, h.2.0))

one_reset_twice : ¬ Rising 0 2 (1 ∷ 1 ∷ [])
one_reset_twice h = absurd (omega (arith, h.2.0))

no_clock_reset : ¬ Rising 0 2 (2 ∷ [])
no_clock_reset h = absurd (omega (arith, h.1))

-- ---- counts
abbrev none : List Bound
none = []

-- 1 to 32 locations, 0 to 64 edges, a depth of 0 to 200, and nothing else
abbrev big : ℕ → ℕ → ℕ → Model
big locations edges depth = record {
  system = record {
    clocks = 6;
    initial = 0;
    invariants = replicate locations [];
    edges = replicate edges no_edge;
    target = 0;
    goal = [];
  };
  depth = depth;
}

big_in : (l e d : ℕ) → 1 ≤ l → l ≤ 32 → e ≤ 64 → d ≤ 200 → ModelLimits (big l e d)
big_in l e d a b c f = record {
  system = record {
    clocks = record { some = omega arith; few = omega arith };
    some_location = omega (arith, many);
    few_locations = omega (arith, many);
    few_edges = omega (arith, length-replicate e no_edge);
    initial = omega (arith, many);
    invariants = all_replicate (BoundsLimits 6) [] (record { few = omega arith; each = tt }) l;
    edges = all_replicate _ no_edge (record {
      source = omega (arith, many);
      destination = omega (arith, many);
      guard = record { few = omega arith; each = tt };
      resets = tt;
    }) e;
    target = omega (arith, many);
    goal = record { few = omega arith; each = tt };
  };
  depth = f;
}
  where
    many : length (replicate l none) ≡ l
    many = length-replicate l none

big_out : (l e d : ℕ) → ModelLimits (big l e d) → (1 ≤ l) × (l ≤ 32) × (e ≤ 64) × (d ≤ 200)
big_out l e d h = (
  omega (arith, h.system.some_location, many),
  omega (arith, h.system.few_locations, many),
  omega (arith, h.system.few_edges, length-replicate e no_edge),
  h.depth,
)
  where
    many : length (replicate l none) ≡ l
    many = length-replicate l none
