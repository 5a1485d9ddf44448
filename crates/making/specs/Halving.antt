-- A vector's entries, and what a half-space is at a list, are facts with one proof at most, as a ghost field wants.
use denote.Struct.Props.{props}
use Rattle.numbers.specs.Numbers.{Num, −∞, fin, Near}
use Prim.Native.Nat.{ℕ}

pub near_prop : (k : ℕ) (x : Num) → IsProp (Near k x)
near_prop k −∞ = Prim.hlevel props
near_prop k (fin z) = Prim.hlevel props

pub ruleset halving = (props, near_prop)
