use mathlib.Core.Path.{◌≡◌}
use Prim.Native.Nat.{suc, ◌-◌}
use lib.ListN.{length}
use Rattle.sets.specs.Rules.{flat}
use Rattle.making.specs.Clean.{clean_from, clean_flags}
use Rattle.making.proofs.clean.clean.Given as goal

abbrev pub invariant-loop-i : goal.invariant-loop-i
invariant-loop-i l =
    (length l.alive ≡ length l.initial.alive)
    × (clean_from (suc l.n) (length l.initial.alive) (flat (suc l.n) l.work) l.alive l.i (length l.initial.alive - l.i)
    ≡ clean_flags (suc l.n) (length l.initial.alive) (flat (suc l.n) l.work))
