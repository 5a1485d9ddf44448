-- A model, as plain lists. Clocks, locations and edges count from 0.
use Rattle.std.specs.Prelude.{List, [], ℕ, ℤ, get_or}
use Rattle.numbers.specs.Numbers.{Num}

-- a bound, by its kind: of a clock x, of a difference x − y, or a whole half-space: on its left a, b and on its right
-- c, d, each an entry for every clock and a constant behind them
pub data Bound : Type 0 where
  clock_at_most : (x k : ℕ) → Bound
  clock_at_least : (x k : ℕ) → Bound
  difference_at_most : (x y : ℕ) (k : ℤ) → Bound
  difference_at_least : (x y : ℕ) (k : ℤ) → Bound
  half_space : (ab cd : List Num) → Bound

-- an edge; `resets` are the clocks that it sets to 0, in rising order
pub record Edge : Type 0 where
  pub source : ℕ
  pub destination : ℕ
  pub guard : List Bound
  pub resets : List ℕ

-- all of a model but the depth: what runs are about. Each location has its invariant list
pub record System : Type 0 where
  pub clocks : ℕ
  pub initial : ℕ
  pub invariants : List (List Bound)
  pub edges : List Edge
  pub target : ℕ
  pub goal : List Bound

-- a model: a system, and how many edges the walk may go
pub record Model : Type 0 where
  pub system : System
  pub depth : ℕ

-- the invariant list of location q
abbrev pub invariant : System → ℕ → List Bound
invariant S q = get_or S.invariants q []

-- what stands for an edge that is not there
abbrev pub no_edge : Edge
no_edge = record { source = 0; destination = 0; guard = []; resets = [] }

-- edge e
abbrev pub edge : System → ℕ → Edge
edge S e = get_or S.edges e no_edge
