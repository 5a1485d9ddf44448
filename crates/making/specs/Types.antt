-- What a call that makes a set answers.
use Rattle.std.specs.Prelude.{Result, ℕ}
use Rattle.numbers.specs.declared.Refusal.{Refusal}

-- how many vectors stand in the area, or a refusal
abbrev pub Made : Type 0
Made = Result ℕ Refusal
