-- The bytes of bounds and of lists of bounds.
use Rattle.std.specs.Prelude.{List, ◌++◌, ℕ, ◌+◌, ℤ, nat_abs, take}
use Rattle.numbers.specs.Numbers.{Num, −∞, fin}
use Rattle.numbers.specs.Words.{number}
use Rattle.codec.specs.Number.{bytes_of, folded}
use Rattle.codec.specs.Arrays.{each}
use Rattle.bounds.specs.declared.Kind.{Kind}
use Rattle.bounds.specs.declared.Kind.TheVariants.{AtMost, AtLeast, DifferAtMost, DifferAtLeast, HalfSpace}
use Rattle.bounds.specs.declared.Bound.{Bound}
use Rattle.bounds.specs.declared.Bounds.{Bounds}
use Rattle.bounds.specs.Bounds.{kind_number, entry_count}

-- the number that an entry of a half-space is written as
abbrev pub entry_number : Num → ℕ
entry_number −∞ = 0
entry_number (fin z) = folded z + 1

-- the bytes of an entry of a half-space
unfoldable pub entry_bytes : ℤ → List ℕ
entry_bytes z = bytes_of (entry_number (number z))

-- kinds 0 and 1: the kind, x, and k plainly
abbrev pub plain_bytes : ℕ → Bound → List ℕ
plain_bytes kind b = bytes_of kind ++ (bytes_of b.x ++ bytes_of (nat_abs b.k))

-- kinds 2 and 3: the kind, x, y, and k folded
abbrev pub differ_bytes : ℕ → Bound → List ℕ
differ_bytes kind b = bytes_of kind ++ (bytes_of b.x ++ (bytes_of b.y ++ bytes_of (folded b.k)))

-- kind 4: the kind, and the entries
abbrev pub half_bytes : ℕ → Bound → List ℕ
half_bytes n b = bytes_of (kind_number HalfSpace) ++ each entry_bytes (take (entry_count n) b.half)

-- the bytes of a bound of a kind
abbrev pub kind_bytes : ℕ → Bound → Kind → List ℕ
kind_bytes n b AtMost = plain_bytes (kind_number AtMost) b
kind_bytes n b AtLeast = plain_bytes (kind_number AtLeast) b
kind_bytes n b DifferAtMost = differ_bytes (kind_number DifferAtMost) b
kind_bytes n b DifferAtLeast = differ_bytes (kind_number DifferAtLeast) b
kind_bytes n b HalfSpace = half_bytes n b

-- the bytes of a bound over n clocks
unfoldable pub bound_bytes : ℕ → Bound → List ℕ
bound_bytes n b = kind_bytes n b b.kind

-- the bytes of a list
unfoldable pub bounds_bytes : ℕ → Bounds → List ℕ
bounds_bytes n bs = bytes_of bs.count ++ each (bound_bytes n) (take bs.count bs.items)
