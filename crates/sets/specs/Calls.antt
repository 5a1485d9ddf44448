-- The calls that ask: SHAPE and ENTRY of each, and its contract.
use Rattle.std.specs.Prelude.{List, map, ◌≡◌, ℕ, ℤ, length}
use Rattle.numbers.specs.Words.{number}
use Rattle.algebra.specs.Sets.{set_of, Included}
use Rattle.sets.specs.Types.{Told}
use Rattle.sets.specs.Limits.{Clocks, Whole, ListLimits, TestedLimits}
use Rattle.sets.specs.Demands.{Input}
use Rattle.sets.specs.Answers.{said_by, Asks}

-- ---- contains: whether the point p is in the set of l
-- what it demands of its input
abbrev pub contains_input : ℕ → List ℤ → List ℤ → Input
contains_input n l p = record {
  shape = Clocks n × Whole n l × (length p ≡ n);
  limits = ListLimits n l × TestedLimits n p;
  arg = Unit;
}

-- its contract
abbrev pub Contains : ℕ → List ℤ → List ℤ → Told → Type 0
Contains n l p answer = Asks (contains_input n l p) (set_of n l (map number p)) (said_by answer)

-- ---- included: whether the set of `inner` is included in that of `outer`
-- what it demands of its input
abbrev pub included_input : ℕ → List ℤ → List ℤ → Input
included_input n inner outer = record {
  shape = Clocks n × Whole n inner × Whole n outer;
  limits = ListLimits n inner × ListLimits n outer;
  arg = Unit;
}

-- its contract
abbrev pub IsIncluded : ℕ → List ℤ → List ℤ → Told → Type 0
IsIncluded n inner outer answer =
    Asks (included_input n inner outer) (Included (set_of n inner) (set_of n outer)) (said_by answer)
