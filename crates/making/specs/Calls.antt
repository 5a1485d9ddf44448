-- The four calls that make a set: SHAPE, ENTRY and ARG of each, and its contract.
use Rattle.std.specs.Prelude.{List, ◌≡◌, ℕ, suc, ◌*◌, ℤ, length}
use Rattle.algebra.specs.Sets.{set_of}
use Rattle.algebra.specs.Wanted.{left, right, Intersected, Delayed, Reset, Hull}
use Rattle.sets.specs.Limits.{Clocks, Whole, ListLimits}
use Rattle.sets.specs.Demands.{Input}
use Rattle.making.specs.Types.{Made}
use Rattle.making.specs.Limits.{Roomy, HalfLimits, ResetLimits}
use Rattle.making.specs.Answers.{Makes}

-- ---- intersect: the vectors of l's set that satisfy the half-space h
-- what is asked of a list, a half-space and an area
abbrev pub intersect_input : ℕ → List ℤ → List ℤ → List ℤ → Input
intersect_input n l h area = record {
  shape = Clocks n × Whole n l × (length h ≡ 2 * suc n) × Roomy n area;
  limits = ListLimits n l × HalfLimits n h;
  arg = Unit;
}

-- the contract of `intersect`
abbrev pub Intersects : ℕ → List ℤ → List ℤ → List ℤ → Made → List ℤ → Type 0
Intersects n l h before =
    Makes (intersect_input n l h before) n (Intersected n (set_of n l) (left n h) (right n h)) before

-- ---- delay: all x + δ, whole δ ≥ 0
-- what is asked of a list and an area
abbrev pub delay_input : ℕ → List ℤ → List ℤ → Input
delay_input n l area = record { shape = Clocks n × Whole n l × Roomy n area; limits = ListLimits n l; arg = Unit }

-- the contract of `delay`
abbrev pub Delays : ℕ → List ℤ → List ℤ → Made → List ℤ → Type 0
Delays n l before = Makes (delay_input n l before) n (Delayed (set_of n l)) before

-- ---- reset: all x with clock i replaced by c
-- what is asked of a list, a clock, its value and an area
abbrev pub reset_input : ℕ → List ℤ → ℕ → ℤ → List ℤ → Input
reset_input n l i c area = record {
  shape = Clocks n × Whole n l × Roomy n area;
  limits = ListLimits n l;
  arg = ResetLimits n i c;
}

-- the contract of `reset`
abbrev pub Resets : ℕ → List ℤ → ℕ → ℤ → List ℤ → Made → List ℤ → Type 0
Resets n l i c before = Makes (reset_input n l i c before) n (Reset (set_of n l) i c) before

-- ---- hull: the smallest max-plus polyhedron that holds both sets
-- what is asked of two lists and an area
abbrev pub hull_input : ℕ → List ℤ → List ℤ → List ℤ → Input
hull_input n l m area = record {
  shape = Clocks n × Whole n l × Whole n m × Roomy n area;
  limits = ListLimits n l × ListLimits n m;
  arg = Unit;
}

-- the contract of `hull`
abbrev pub Hulls : ℕ → List ℤ → List ℤ → List ℤ → Made → List ℤ → Type 0
Hulls n l m before = Makes (hull_input n l m before) n (Hull n (set_of n l) (set_of n m)) before
