-- What a call that asks answers, and what the checks of its input answer.
use Rattle.std.specs.Prelude.{Bool, Result}
use Rattle.numbers.specs.declared.Refusal.{Refusal}

-- yes or no, or a refusal
abbrev pub Told : Type 0
Told = Result Bool Refusal

-- the input is good, or the first refusal
abbrev pub Checked : Type 0
Checked = Result (Unit {0}) Refusal
