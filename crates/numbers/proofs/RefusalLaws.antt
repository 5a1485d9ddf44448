-- The refusals' numbers are 1 to 8, and tell them apart.
use mathlib.Core.Path.{◌≡◌, refl, sym, ◌∙◌, ap}
use Prim.Native.Nat.{ℕ, zero, suc, ◌≤◌}
use native.Mathlib.Omega.{arith}
use Rattle.numbers.specs.Refusals.{refusal_number}
use Rattle.numbers.specs.declared.Refusal.{Refusal}
use Rattle.numbers.specs.declared.Refusal.TheVariants.{Shape, Entry, Arg, Range, Gens, Room, Bytes, Model}

-- the refusal of a number
named : ℕ → Refusal
named zero = Shape
named (suc zero) = Shape
named (suc (suc zero)) = Entry
named (suc (suc (suc zero))) = Arg
named (suc (suc (suc (suc zero)))) = Range
named (suc (suc (suc (suc (suc zero))))) = Gens
named (suc (suc (suc (suc (suc (suc zero)))))) = Room
named (suc (suc (suc (suc (suc (suc (suc zero))))))) = Bytes
named (suc (suc (suc (suc (suc (suc (suc (suc k)))))))) = Model

named_number : (e : Refusal) → named (refusal_number e) ≡ e
unfolding named
named_number Shape = refl
named_number Entry = refl
named_number Arg = refl
named_number Range = refl
named_number Gens = refl
named_number Room = refl
named_number Bytes = refl
named_number Model = refl

-- refusals with one number are one refusal
pub number_inj : (e f : Refusal) → refusal_number e ≡ refusal_number f → e ≡ f
number_inj e f p = sym (named_number e) ∙ ap named p ∙ named_number f

-- every number is from 1 to 8
pub number_range : (e : Refusal) → (1 ≤ refusal_number e) × (refusal_number e ≤ 8)
number_range Shape = omega arith
number_range Entry = omega arith
number_range Arg = omega arith
number_range Range = omega arith
number_range Gens = omega arith
number_range Room = omega arith
number_range Bytes = omega arith
number_range Model = omega arith
