use mathlib.Core.Path.{◌≡◌}
use mathlib.Core.Bool.{true, false, cond}
use Prim.Native.Nat.{◌+◌}
use lib.ListN.{length, get_or}
use Rattle.numbers.specs.Tests.{every}
use Rattle.sets.specs.Rules.{flat}
use Rattle.making.specs.Finish.{row_ok}
use Rattle.making.proofs.range.fits.Given as goal

abbrev pub invariant-loop-on : goal.invariant-loop-on
invariant-loop-on l = every (length l.yielded)
    (λ k. cond (get_or l.alive k false) (row_ok l.n (flat (l.n + 1) l.work k)) true) ≡ true
