-- Where a vector falls short of what a list reaches.
use Rattle.std.specs.Prelude.{Bool, true, false, cond, List, ◌≡◌, ℕ, ◌*◌, ◌≤◌, ◌<◌, ℤ, length, get_or, replicate, Option, None, Some}
use Rattle.numbers.specs.Numbers.{−∞, ◌≼◌, ◌⊕◌, ◌⊗◌}
use Rattle.numbers.specs.Words.{number}
use Rattle.numbers.specs.Places.{Vec, entries, Each}
use Rattle.numbers.specs.Weights.{weight_of}
use Rattle.algebra.specs.Vectors.{count}
use Rattle.algebra.specs.Reach.{reach}
use Rattle.sets.specs.Rules.{flat}
use Rattle.sets.specs.declared.Short.{Short}

-- the vectors whose flag is on; the others have −∞ everywhere and so take no part
unfoldable pub masked : List Bool → (ℕ → Vec) → ℕ → Vec
masked used G i j = cond (get_or used i false) (G i j) −∞

-- all of up to 32 vectors are used
unfoldable pub all_used : List Bool
all_used = replicate 32 true

-- entry j is the first where R, what is reached, is smaller than X, and z is the word for R's entry there
pub record FallsAt (d : ℕ) (R X : Vec) (j : ℕ) (z : ℤ) : Type 0 where
  pub inside : j < d
  pub short : ¬ (X j ≼ R j)
  pub reached : number z ≡ R j
  pub before : (k : ℕ) → k < j → X k ≼ R k

-- where X falls short of R at its first d entries
abbrev pub Falls : ℕ → Vec → Vec → Option Short → Type 0
Falls d R X None = (j : ℕ) → j < d → X j ≼ R j
Falls d R X (Some s) = FallsAt d R X s.at s.reached

-- the largest combination of the used vectors among the first m of a list that is not above x
abbrev pub reach_of : List ℤ → ℕ → List Bool → List ℤ → Vec
reach_of list m used x = reach (length x) m (masked used (flat (length x) list)) (entries x)

-- a vector x can be tested against the first m vectors of the list
pub record Testable (list : List ℤ) (m : ℕ) (used : List Bool) (x : List ℤ) : Type 0 where
  pub few : length x ≤ 7
  pub whole : m * length x ≤ length list
  pub flags : m ≤ length used
  pub of_list : Each 100000000 list
  pub of_x : Each 100000000 x

-- r is the first entry of x from `from` on that is above `reached`
pub record NextAt (from : ℕ) (reached x : List ℤ) (r : ℕ) : Type 0 where
  pub onward : from ≤ r
  pub inside : r < length x
  pub passed : (j : ℕ) → from ≤ j → j < r → entries x j ≼ entries reached j
  pub short : ¬ (entries x r ≼ entries reached r)

-- the first such entry, if there is one
abbrev pub Next : ℕ → List ℤ → List ℤ → Option ℕ → Type 0
Next from reached x None = (j : ℕ) → from ≤ j → j < length x → entries x j ≼ entries reached j
Next from reached x (Some r) = NextAt from reached x r

-- the first i vectors reach x before entry `from`, and from there on `out` holds what they reach
pub record Gathered (list : List ℤ) (used : List Bool) (x : List ℤ) (i from : ℕ) (out : List ℤ) : Type 0 where
  pub long : length out ≡ length x
  pub inside : from ≤ length x
  pub passed : (j : ℕ) → j < from → entries x j ≼ reach_of list i used x j
  pub right : (j : ℕ) → from ≤ j → j < length x → entries out j ≡ reach_of list i used x j

-- r is the first entry of x that the first m vectors do not reach, with what they reach there in `out`
pub record EndsAt (list : List ℤ) (m : ℕ) (used : List Bool) (x : List ℤ) (r : ℕ) (out : List ℤ) : Type 0 where
  pub long : length out ≡ length x
  pub inside : r < length x
  pub passed : (j : ℕ) → j < r → entries x j ≼ reach_of list m used x j
  pub short : ¬ (entries x r ≼ reach_of list m used x r)
  pub reached : entries out r ≡ reach_of list m used x r

-- the first such entry, if there is one
abbrev pub Ends : List ℤ → ℕ → List Bool → List ℤ → Option ℕ → List ℤ → Type 0
Ends list m used x None out = (length out ≡ length x) × ((j : ℕ) → j < length x → entries x j ≼ reach_of list m used x j)
Ends list m used x (Some r) out = EndsAt list m used x r out

-- `before` can be raised by g from entry `from` on
pub record Raisable (from : ℕ) (before g x : List ℤ) : Type 0 where
  pub long : length before ≡ length x
  pub inside : from ≤ length x
  pub same : length g ≡ length x
  pub of_g : Each 100000000 g
  pub of_x : Each 100000000 x

-- what g at its largest weight below x makes of `before`
unfoldable pub raised : List ℤ → List ℤ → List ℤ → Vec
raised before g x j = entries before j ⊕ (weight_of (length x) (entries g) (entries x) ⊗ entries g j)

-- that reaches x from entry `from` to entry r, and from there on it is `after`
pub record RaisedTo (from : ℕ) (before g x : List ℤ) (r : ℕ) (after : List ℤ) : Type 0 where
  pub long : length after ≡ length before
  pub onward : from ≤ r
  pub inside : r ≤ length x
  pub passed : (j : ℕ) → from ≤ j → j < r → entries x j ≼ raised before g x j
  pub right : (j : ℕ) → r ≤ j → j < length x → entries after j ≡ raised before g x j

-- so it does, or it reaches all of x from entry `from` on
abbrev pub Raised : ℕ → List ℤ → List ℤ → List ℤ → Option ℕ → List ℤ → Type 0
Raised from before g x None after =
    (length after ≡ length before) × ((j : ℕ) → from ≤ j → j < length x → entries x j ≼ raised before g x j)
Raised from before g x (Some r) after = RaisedTo from before g x r after

-- the vectors of one list can be tested against another
pub record Coverable (n : ℕ) (inner outer : List ℤ) : Type 0 where
  pub few : n ≤ 6
  pub few_vectors : count n outer ≤ 32
  pub of_inner : Each 100000000 inner
  pub of_outer : Each 100000000 outer
