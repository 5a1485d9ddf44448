-- What a set call demands of its input, and which refusal is the answer where a demand is not met.
-- For the set calls the refusals' numbers are the order of checking.
use Rattle.std.specs.Prelude.{◌≡◌, ℕ, ◌<◌}
use Rattle.numbers.specs.Refusals.{refusal_number}
use Rattle.numbers.specs.declared.Refusal.{Refusal}
use Rattle.numbers.specs.declared.Refusal.TheVariants.{Shape, Entry, Arg, Range, Gens, Room, Bytes, Model}

-- refusal e says that demand e is not met
abbrev pub Demands : Type 1
Demands = Refusal → Type 0

-- every demand whose number is below k is met
abbrev pub MetBelow : ℕ → Demands → Type 0
MetBelow k demand = (e : Refusal) → refusal_number e < k → demand e

-- k is the number of the first demand that is not met
pub record Refuses (demand : Demands) (k : ℕ) : Type 0 where
  pub why : Refusal
  pub number : k ≡ refusal_number why
  pub broken : ¬ demand why
  pub before : MetBelow k demand

-- what a call demands of its input
pub record Input : Type 1 where
  pub shape : Type 0
  pub limits : Type 0
  pub arg : Type 0

-- the input is good
abbrev pub Good : Input → Type 0
Good c = c.shape × c.limits × c.arg

-- all demands of a set call; RANGE and GENS are about its result, and the other refusals are not its own
abbrev pub demands : Input → Type 0 → Type 0 → Demands
demands c range gens Shape = c.shape
demands c range gens Entry = c.limits
demands c range gens Arg = c.arg
demands c range gens Range = range
demands c range gens Gens = gens
demands c range gens Room = Unit
demands c range gens Bytes = Unit
demands c range gens Model = Unit

-- the demands of a call that asks
abbrev pub asking : Input → Demands
asking c = demands c Unit Unit
