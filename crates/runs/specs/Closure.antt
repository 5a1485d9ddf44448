-- Lists that show that no run reaches the target, whoever found them: the start is in them, no candidate leaves them,
-- and none meets the target.
use Rattle.std.specs.Prelude.{List, map, ◌≡◌, ℕ, ◌<◌, ℤ, pos, length, replicate}
use Rattle.numbers.specs.Numbers.{fin}
use Rattle.algebra.specs.Vectors.{Vector}
use Rattle.algebra.specs.Sets.{set_of}
use Rattle.runs.specs.Models.{System, Edge, invariant, edge}
use Rattle.runs.specs.Runs.{Values, later, zeroed, Fits}

-- the values as a vector of numbers
abbrev pub numbers : Values → Vector
numbers v = map (λ k. fin (pos k)) v

-- the clock values in the set of a list of words
abbrev pub Has : ℕ → List ℤ → Values → Type 0
Has n l v = set_of n l (numbers v)

module _ (S : System) where
  -- the values after entering location q with values of A: the invariant holds, a whole delay, the invariant holds
  pub record Entered (q : ℕ) (A : Values → Type 0) (v : Values) : Type 0 where
    pub u : Values
    pub δ : ℕ
    pub from : A u
    pub before : Fits (invariant S q) u
    pub is : v ≡ later δ u
    pub after : Fits (invariant S q) v

  -- the values after an edge from values of A, before its destination is entered: guard and resets
  pub record Crossed (e : Edge) (A : Values → Type 0) (v : Values) : Type 0 where
    pub u : Values
    pub from : A u
    pub opens : Fits e.guard u
    pub is : v ≡ zeroed e.resets u

  -- all clocks 0
  abbrev pub AtZero : Values → Type 0
  AtZero u = u ≡ replicate S.clocks 0

  module _ (m : ℕ) (location : ℕ → ℕ) (list : ℕ → List ℤ) where
    -- the values v are in one of the m lists, in location q
    pub record Among (q : ℕ) (v : Values) : Type 0 where
      pub i : ℕ
      pub inside : i < m
      pub at : location i ≡ q
      pub has : Has S.clocks (list i) v

    -- the start is covered, each candidate is covered, and no list meets the target
    pub record Closed : Type 0 where
      pub start : (v : Values) → Entered S.initial AtZero v → Among S.initial v
      pub candidates : (i e : ℕ) → i < m → e < length S.edges → (edge S e).source ≡ location i
          → (v : Values) → Entered (edge S e).destination (Crossed (edge S e) (Has S.clocks (list i))) v
          → Among (edge S e).destination v
      pub target : (i : ℕ) → i < m → location i ≡ S.target → (v : Values) → Has S.clocks (list i) v
          → ¬ Fits S.goal v
