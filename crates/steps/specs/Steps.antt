-- What the walk's steps are given, and what the target test answers.
use Rattle.std.specs.Prelude.{not, List, ℕ, ℤ, Err, Ok}
use Rattle.sets.specs.Limits.{Clocks}
use Rattle.sets.specs.Types.{Told}
use Rattle.making.specs.Limits.{Roomy}
use Rattle.runs.specs.Rule.{Step, made, stop, is_empty}
use Rattle.runs.proofs.ProperLists.{Proper}

-- a list as the walk keeps it, over 1 to 6 clocks
pub record Listed (n : ℕ) (list : List ℤ) : Type 0 where
  pub clocks : Clocks n
  pub proper : Proper n list

-- such a list, and an area for a result
pub record Starts (n : ℕ) (list area : List ℤ) : Type 0 where
  pub listed : Listed n list
  pub roomy : Roomy n area

-- the target test: whether what the step made is nonempty, or its refusal
abbrev pub meets_by : Step → Told
meets_by (made l) = Ok (not (is_empty l))
meets_by (stop e) = Err e
