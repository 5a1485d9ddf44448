-- What a call that makes a set may answer, and what stands in the lent area afterwards.
use Rattle.std.specs.Prelude.{List, ◌++◌, ◌↔◌, ◌≡◌, ℕ, ◌≤◌, ℤ, length, drop, Err, Ok}
use Rattle.numbers.specs.Refusals.{refusal_number}
use Rattle.algebra.specs.Vectors.{Vector, words}
use Rattle.algebra.specs.Sets.{Set, In}
use Rattle.algebra.specs.Canonical.{Canonical}
use Rattle.sets.specs.Demands.{Demands, MetBelow, Refuses, Input, Good, demands}
use Rattle.making.specs.Types.{Made}
use Rattle.making.specs.Limits.{InRange}

-- an answer in the rules' words: the count of vectors in the area, or the number of a refusal
pub data Given : Type 0 where
  filled : ℕ → Given
  refused : ℕ → Given

-- an answer of the code in those words
abbrev pub given_by : Made → Given
given_by (Ok k) = filled k
given_by (Err e) = refused (refusal_number e)

-- the demands of a call that makes a set whose canonical list is R
abbrev pub making : Input → ℕ → List Vector → Demands
making c n R = demands c (InRange n R) (length R ≤ 32)

-- nothing is refused: the area begins with the words of R, and behind them it is as before
pub record Filled (demand : Demands) (R : List Vector) (before : List ℤ) (k : ℕ) (after : List ℤ) : Type 0 where
  pub met : MetBelow 9 demand
  pub count : k ≡ length R
  pub area : after ≡ words R ++ drop (length (words R)) before

-- k is the number of the first demand that is not met, and the area is as before
pub record Untouched (demand : Demands) (before : List ℤ) (k : ℕ) (after : List ℤ) : Type 0 where
  pub why : Refuses demand k
  pub area : after ≡ before

-- the answer and the area afterwards are right for the result R
abbrev pub Outcome : Demands → List Vector → List ℤ → Given → List ℤ → Type 0
Outcome demand R before (filled k) after = Filled demand R before k after
Outcome demand R before (refused k) after = Untouched demand before k after

-- a call makes the wanted set: there is a canonical list R of exactly that set, and the answer and the area tell of R
pub record Makes (c : Input) (n : ℕ) (wanted : Set) (before : List ℤ) (answer : Made) (after : List ℤ) : Type 0 where
  pub R : List Vector
  pub canonical : Good c → Canonical n R
  pub exact : Good c → (x : Vector) → In n R x ↔ wanted x
  pub outcome : Outcome (making c n R) R before (given_by answer) after
