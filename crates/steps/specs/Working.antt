-- Working memory whose front is the list that the walk's steps go on from.
use Rattle.std.specs.Prelude.{List, map, ◌≡◌, ℕ, suc, ◌*◌, ◌≤◌, ℤ, length, take, Err, Ok}
use Rattle.sets.specs.Limits.{Clocks}
use Rattle.making.specs.Types.{Made}
use Rattle.making.specs.Limits.{Roomy}
use Rattle.bounds.specs.declared.Bound.{Bound}
use Rattle.model.specs.Plain.{bound_by}
use Rattle.runs.specs.Rule.{Step, made, stop, cut_all}
use Rattle.runs.proofs.ProperLists.{Proper}

-- the first k vectors of the memory
abbrev pub front : ℕ → ℕ → List ℤ → List ℤ
front n k work = take (k * suc n) work

-- memory with room for 32 vectors over 1 to 6 clocks
pub record Memory (n : ℕ) (work : List ℤ) : Type 0 where
  pub clocks : Clocks n
  pub room : length work ≡ 224

-- k vectors at its front are a list as the walk keeps it
pub record Kept (n k : ℕ) (work : List ℤ) : Type 0 where
  pub few : k ≤ 32
  pub proper : Proper n (front n k work)

-- memory with such a list
pub record Working (n k : ℕ) (work : List ℤ) : Type 0 where
  pub memory : Memory n work
  pub kept : Kept n k work

-- the list stands at the front, of k vectors
pub record Begun (n : ℕ) (list : List ℤ) (k : ℕ) (work : List ℤ) : Type 0 where
  pub working : Working n k work
  pub stands : front n k work ≡ list

-- ---- what an answer tells of the memory
-- the vectors that it counts are a list as the walk keeps it
abbrev pub KeptBy : ℕ → Made → List ℤ → Type 0
KeptBy n (Ok k) work = Kept n k work
KeptBy n (Err e) work = Unit {0}

-- the step that it tells of
abbrev pub step_by : ℕ → Made → List ℤ → Step
step_by n (Ok k) work = made (front n k work)
step_by n (Err e) work = stop e

-- the answer and the memory afterwards tell of the step
pub record Stepped (n : ℕ) (step : Step) (answer : Made) (after : List ℤ) : Type 0 where
  pub memory : Memory n after
  pub kept : KeptBy n answer after
  pub told : step_by n answer after ≡ step

-- an answer, the memory that it tells of, and an area for its list
pub record Showable (n : ℕ) (answer : Made) (work area : List ℤ) : Type 0 where
  pub memory : Memory n work
  pub kept : KeptBy n answer work
  pub roomy : Roomy n area

-- ---- steps
-- the bounds that the records stand for, in their order
abbrev pub cut_items : ℕ → List Bound → List ℤ → Step
cut_items n items = cut_all n (map (λ b. bound_by n b b.kind) items)
