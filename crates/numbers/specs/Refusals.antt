-- The refusals' numbers.
use Rattle.std.specs.Prelude.{ℕ}
use Rattle.numbers.specs.declared.Refusal.{Refusal}
use Rattle.numbers.specs.declared.Refusal.TheVariants.{Shape, Entry, Arg, Range, Gens, Room, Bytes, Model}

-- the number of each refusal
abbrev pub refusal_number : Refusal → ℕ
refusal_number Shape = 1
refusal_number Entry = 2
refusal_number Arg = 3
refusal_number Range = 4
refusal_number Gens = 5
refusal_number Room = 6
refusal_number Bytes = 7
refusal_number Model = 8
