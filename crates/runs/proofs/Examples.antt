-- The worked example's answers, read as statements about runs; and one run written out, on the runs themselves.
use mathlib.Core.List.{[], ◌∷◌}
use mathlib.Core.Path.{subst₂}
use Prim.Native.Nat.{ℕ, ◌≤◌}
use native.Mathlib.Omega.{arith}
use Rattle.runs.specs.ModelLimits.{ModelLimits}
use Rattle.runs.specs.Runs.{Run, start, wait, follow, Reaches}
use Rattle.runs.specs.Verdicts.{SaysReached, SaysNever, SaysOpen, Means}
use Rattle.runs.proofs.Computed.{example, computed}
use Rattle.runs.proofs.Meaning.{walk_means}

-- the example is in limits
pub example_limits : (k depth : ℕ) → k ≤ 1000000 → depth ≤ 200 → ModelLimits (example k depth)
example_limits k depth a b = record {
  system = record {
    clocks = record { some = omega arith; few = omega arith };
    some_location = omega arith;
    few_locations = omega arith;
    few_edges = omega arith;
    initial = omega arith;
    invariants = (
      record { few = omega arith; each = ((omega arith, omega arith), tt) },
      (record { few = omega arith; each = ((omega arith, omega arith), tt) }, tt),
    );
    edges = (
      record {
        source = omega arith;
        destination = omega arith;
        guard = record { few = omega arith; each = ((omega arith, omega arith), tt) };
        resets = (omega arith, omega arith, (omega arith, omega arith, tt));
      },
      (
        record {
          source = omega arith;
          destination = omega arith;
          guard = record { few = omega arith; each = tt };
          resets = (omega arith, omega arith, tt);
        },
        tt,
      ),
    );
    target = omega arith;
    goal = record { few = omega arith; each = ((omega arith, omega arith), tt) };
  };
  depth = b;
}

-- REACHED 1: a run along edge 1 has clock 0 at 10 in location 1, and no run without edges has
pub ten_says : SaysReached (example 10 8).system (1 ∷ []) 1
ten_says = subst₂ (Means (example 10 8).system) computed.1 computed.0
    (walk_means (example 10 8) (example_limits 10 8 (omega arith) (omega arith)) 64)

-- NEVER: in no run is clock 0 at 11 in location 1
pub eleven_says : SaysNever (example 11 8).system
eleven_says = subst₂ (Means (example 11 8).system) computed.2.1 computed.2.0
    (walk_means (example 11 8) (example_limits 11 8 (omega arith) (omega arith)) 64)

-- OPEN 1: none with at most one edge
pub one_says : SaysOpen (example 11 1).system 1
one_says = subst₂ (Means (example 11 1).system) computed.2.2.1 computed.2.2.0
    (walk_means (example 11 1) (example_limits 11 1 (omega arith) (omega arith)) 64)

-- a run written out: wait 4, take edge 1, wait 6
pub way : Run (example 10 8).system (1 ∷ []) 1 (10 ∷ 6 ∷ [])
way = wait 6 (follow 1 (omega arith) (wait 4 (start (omega arith, tt)) (λ t l. (omega arith, tt))) tt (omega arith, tt))
    (λ t l. (omega arith, tt))

-- it reaches the target
pub way_reaches : Reaches (example 10 8).system (1 ∷ [])
way_reaches = record { values = 10 ∷ 6 ∷ []; run = way; fits = (omega arith, tt) }
