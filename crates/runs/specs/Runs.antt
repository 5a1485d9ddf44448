-- Runs over plain clock values. There is no set and no generator in it.
use Rattle.std.specs.Prelude.{List, [], ◌∷◌, ◌++◌, map, ◌≡◌, ℕ, ◌+◌, ◌≤◌, ◌<◌, ℤ, pos, ◌+ℤ◌, ◌-ℤ◌, length, get_or, set, replicate, ◌≤ℤ◌}
use Rattle.numbers.specs.Numbers.{Num, −∞, fin}
use Rattle.runs.specs.Models.{Bound, clock_at_most, clock_at_least, difference_at_most, difference_at_least, half_space}
use Rattle.runs.specs.Models.{System, invariant, edge}

-- the values of the clocks: whole numbers, clock 0 first
abbrev pub Values : Type 0
Values = List ℕ

-- the value of clock x, and 0 behind the last clock
abbrev pub clock : Values → ℕ → ℕ
clock v x = get_or v x 0

-- the term of entry a at place i of a half-space's side: a + clock i, and the constant behind the clocks by itself
abbrev pub term : Values → ℕ → ℤ → ℤ
term v i a = a +ℤ pos (clock v i)

-- some term of a side is at least z; an entry −∞ has no term
pub record Covers (side : List Num) (v : Values) (z : ℤ) : Type 0 where
  pub place : ℕ
  pub number : ℤ
  pub stands : get_or side place −∞ ≡ fin number
  pub above : z ≤ℤ term v place number

-- a bound holds of the values, each kind in its own arithmetic: a half-space if each term on its left is at most some
-- term on its right
abbrev pub Holds : Bound → Values → Type 0
Holds (clock_at_most x k) v = clock v x ≤ k
Holds (clock_at_least x k) v = k ≤ clock v x
Holds (difference_at_most x y k) v = (pos (clock v x) -ℤ pos (clock v y)) ≤ℤ k
Holds (difference_at_least x y k) v = k ≤ℤ (pos (clock v x) -ℤ pos (clock v y))
Holds (half_space ab cd) v = (i : ℕ) (a : ℤ) → get_or ab i −∞ ≡ fin a → Covers cd v (term v i a)

-- every bound of a list holds
abbrev pub Fits : List Bound → Values → Type 0
Fits [] v = Unit {0}
Fits (b ∷ bs) v = Holds b v × Fits bs v

-- the values t ticks later
abbrev pub later : ℕ → Values → Values
later t v = map (λ k. t + k) v

-- the values with some clocks set to 0
abbrev pub zeroed : List ℕ → Values → Values
zeroed [] v = v
zeroed (i ∷ is) v = zeroed is (set v i 0)

module _ (S : System) where
  -- a run along the edges es that ends in location q with the values v
  pub data Run : List ℕ → ℕ → Values → Type 0 where
    -- it starts in the initial location with all clocks 0 and the invariant true
    start : Fits (invariant S S.initial) (replicate S.clocks 0)
        → Run [] S.initial (replicate S.clocks 0)
    -- it waits δ ticks, with the invariant true at every tick from 0 to δ
    wait : {es : List ℕ} {q : ℕ} {v : Values} (δ : ℕ) → Run es q v
        → ((t : ℕ) → t ≤ δ → Fits (invariant S q) (later t v))
        → Run es q (later δ v)
    -- it takes edge e out of its source: the guard holds, the resets are made, and the destination's invariant holds
    follow : {es : List ℕ} {v : Values} (e : ℕ) → e < length S.edges → Run es (edge S e).source v
        → Fits (edge S e).guard v
        → Fits (invariant S (edge S e).destination) (zeroed (edge S e).resets v)
        → Run (es ++ (e ∷ [])) (edge S e).destination (zeroed (edge S e).resets v)

  -- a run along es ends in the target location with values that fit the target list
  pub record Reaches (es : List ℕ) : Type 0 where
    pub values : Values
    pub run : Run es S.target values
    pub fits : Fits S.goal values

  -- a run with k edges reaches the target
  pub record ReachesWith (k : ℕ) : Type 0 where
    pub edges : List ℕ
    pub reaches : Reaches edges
    pub many : length edges ≡ k
