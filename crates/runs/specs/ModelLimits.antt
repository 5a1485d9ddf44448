-- The limits of a model and of its parts.
use Rattle.std.specs.Prelude.{List, [], ◌∷◌, ◌≡◌, ℕ, suc, ◌≤◌, ◌<◌, ℤ, length}
use Rattle.numbers.specs.Numbers.{fin, million, minus_million}
use Rattle.algebra.specs.Vectors.{Vector, entry}
use Rattle.sets.specs.Limits.{Clocks, Between, Loose}
use Rattle.runs.specs.Models.{Bound, clock_at_most, clock_at_least, difference_at_most, difference_at_least, half_space}
use Rattle.runs.specs.Models.{Edge, System, Model}

-- n + 1 entries, each −∞ or −1,000,000 to 1,000,000
pub record SideLimits (n : ℕ) (ab : Vector) : Type 0 where
  pub long : length ab ≡ suc n
  pub entries : (j : ℕ) → j < suc n → Loose (entry ab j)

-- a bound on a difference: two clocks that are not the same, and k from −1,000,000 to 1,000,000
pub record DifferenceLimits (n x y : ℕ) (k : ℤ) : Type 0 where
  pub first : x < n
  pub second : y < n
  pub apart : ¬ (x ≡ y)
  pub constant : Between minus_million million (fin k)

-- a bound of a model with n clocks
abbrev pub BoundLimits : ℕ → Bound → Type 0
BoundLimits n (clock_at_most x k) = (x < n) × (k ≤ 1000000)
BoundLimits n (clock_at_least x k) = (x < n) × (k ≤ 1000000)
BoundLimits n (difference_at_most x y k) = DifferenceLimits n x y k
BoundLimits n (difference_at_least x y k) = DifferenceLimits n x y k
BoundLimits n (half_space ab cd) = SideLimits n ab × SideLimits n cd

-- P holds of every member of a list
abbrev pub All : {A : Type 0} → (A → Type 0) → List A → Type 0
All P [] = Unit {0}
All P (x ∷ xs) = P x × All P xs

-- a list of at most 8 bounds
pub record BoundsLimits (n : ℕ) (bs : List Bound) : Type 0 where
  pub few : length bs ≤ 8
  pub each : All (BoundLimits n) bs

-- clocks from `low` on and below n, rising, none twice
abbrev pub Rising : ℕ → ℕ → List ℕ → Type 0
Rising low n [] = Unit {0}
Rising low n (i ∷ is) = (low ≤ i) × (i < n) × Rising (suc i) n is

-- an edge of a model with n clocks and so many locations
pub record EdgeLimits (n locations : ℕ) (e : Edge) : Type 0 where
  pub source : e.source < locations
  pub destination : e.destination < locations
  pub guard : BoundsLimits n e.guard
  pub resets : Rising 0 n e.resets

-- 1 to 6 clocks, 1 to 32 locations, 0 to 64 edges
pub record SystemLimits (S : System) : Type 0 where
  pub clocks : Clocks S.clocks
  pub some_location : 1 ≤ length S.invariants
  pub few_locations : length S.invariants ≤ 32
  pub few_edges : length S.edges ≤ 64
  pub initial : S.initial < length S.invariants
  pub invariants : All (BoundsLimits S.clocks) S.invariants
  pub edges : All (EdgeLimits S.clocks (length S.invariants)) S.edges
  pub target : S.target < length S.invariants
  pub goal : BoundsLimits S.clocks S.goal

-- a model in limits: a depth of 0 to 200
pub record ModelLimits (M : Model) : Type 0 where
  pub system : SystemLimits M.system
  pub depth : M.depth ≤ 200
