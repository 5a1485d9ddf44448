-- The limits of bounds and of lists of bounds. What a kind or a count leaves unused is 0.
use Rattle.std.specs.Prelude.{◌≡◌, ℕ, ◌<◌, ℤ, pos, negsuc}
use Rattle.numbers.specs.Integers.{◌⊑◌}
use Rattle.numbers.specs.Numbers.{Within}
use Rattle.numbers.specs.Words.{number}
use Rattle.codec.specs.Arrays.{Packed}
use Rattle.bounds.specs.declared.Kind.{Kind}
use Rattle.bounds.specs.declared.Kind.TheVariants.{AtMost, AtLeast, DifferAtMost, DifferAtLeast, HalfSpace}
use Rattle.bounds.specs.declared.Bound.{Bound}
use Rattle.bounds.specs.declared.Bounds.{Bounds}
use Rattle.bounds.specs.Bounds.{no_half, no_bound, entry_count}

-- kinds 0 and 1: a clock below n, and k from 0 to 1,000,000
pub record PlainLimits (n : ℕ) (b : Bound) : Type 0 where
  pub clock : b.x < n
  pub least : pos 0 ⊑ b.k
  pub most : b.k ⊑ pos 1000000
  pub no_y : b.y ≡ 0
  pub no_entries : b.half ≡ no_half

-- kinds 2 and 3: two clocks below n that differ, and k from −1,000,000 to 1,000,000
pub record DifferLimits (n : ℕ) (b : Bound) : Type 0 where
  pub clock : b.x < n
  pub other : b.y < n
  pub differ : ¬ (b.x ≡ b.y)
  pub least : negsuc 999999 ⊑ b.k
  pub most : b.k ⊑ pos 1000000
  pub no_entries : b.half ≡ no_half

-- an entry of a half-space: −∞, or from −1,000,000 to 1,000,000
abbrev pub EntryLimits : ℤ → Type 0
EntryLimits z = Within 1000000 (number z)

-- kind 4: 2(n + 1) entries
pub record HalfLimits (n : ℕ) (b : Bound) : Type 0 where
  pub no_x : b.x ≡ 0
  pub no_y : b.y ≡ 0
  pub no_k : b.k ≡ pos 0
  pub entries : Packed EntryLimits (pos 0) 14 (entry_count n) b.half

-- the limits of a bound of a kind
abbrev pub KindLimits : ℕ → Bound → Kind → Type 0
KindLimits n b AtMost = PlainLimits n b
KindLimits n b AtLeast = PlainLimits n b
KindLimits n b DifferAtMost = DifferLimits n b
KindLimits n b DifferAtLeast = DifferLimits n b
KindLimits n b HalfSpace = HalfLimits n b

-- a bound over n clocks
pub record BoundLimits (n : ℕ) (b : Bound) : Type 0 where
  pub fits : KindLimits n b b.kind

-- a list: at most 8 bounds, and nothing behind them
abbrev pub BoundsLimits : ℕ → Bounds → Type 0
BoundsLimits n bs = Packed (BoundLimits n) no_bound 8 bs.count bs.items
