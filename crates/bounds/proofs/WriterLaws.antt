-- The numbers that bounds are written as.
use Rattle.std.proofs.Common.{◌≡◌, ℕ, ◌<◌, ◌≤◌, List, length, get_or, refl, arith}
use lib.IntN.{ℤ}
use Rattle.numbers.proofs.WordLaws.{back, is_mark_lem, not_mark}
use mir.Facts.{to_z-of_z}
use Rattle.codec.specs.Number.{bytes_of}
use Rattle.codec.specs.Arrays.{All}
use Rattle.bounds.specs.declared.Kind.{Kind}
use Rattle.bounds.specs.declared.Kind.TheVariants.{AtMost, AtLeast, DifferAtMost, DifferAtLeast, HalfSpace}
use Rattle.bounds.specs.Bounds.{kind_number}
use Rattle.bounds.specs.Limits.{EntryLimits}
use Rattle.bounds.specs.Written.{entry_number, entry_bytes}
use Rattle.bounds.proofs.LimitLaws.{fold_small, entry_small, near_small}
use Rattle.codec.proofs.WriteLaws.{stores, items}
use Rattle.codec.proofs.PackedLaws.{one_of}
use Rattle.numbers.specs.Words.{number}

-- no kind has a number above 4
pub few_kinds : (kind : Kind) → kind_number kind ≤ 4
few_kinds AtMost = omega arith
few_kinds AtLeast = omega arith
few_kinds DifferAtMost = omega arith
few_kinds DifferAtLeast = omega arith
few_kinds HalfSpace = omega arith

-- a bound that is written
pub ruleset bound_stores = (stores, few_kinds, fold_small, back)

-- a word by whether it is the mark
pub ruleset marks = (is_mark_lem, not_mark, near_small, to_z-of_z)

-- an entry's bytes by its number
pub entry_is : (z : ℤ) → bytes_of (entry_number (number z)) ≡ entry_bytes z
unfolding entry_bytes
entry_is z = refl

-- the number of each entry is small
pub entries_small : (zs : List ℤ) (i : ℕ) (d : ℤ) → All EntryLimits zs → i < length zs
    → entry_number (number (get_or zs i d)) < 2000002
entries_small zs i d w l = entry_small (number (get_or zs i d)) (one_of EntryLimits d zs w i l)

-- entries that are written
pub ruleset entries = (items, entry_is, entries_small, back)
