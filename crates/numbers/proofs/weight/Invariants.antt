use Rattle.std.proofs.Common.{◌≡◌, length}
use Rattle.numbers.specs.Places.{entries}
use Rattle.numbers.specs.Weights.{allowed, cap_of, meet}
use Rattle.numbers.proofs.weight.Given as goal

abbrev pub invariant-loop-j : goal.invariant-loop-j
invariant-loop-j l =
    meet (allowed l.j (entries l.g) (entries l.x)) (cap_of l.m) ≡ allowed (length l.x) (entries l.g) (entries l.x)
