use Rattle.std.proofs.Common.{◌≡◌, length}
use Rattle.numbers.specs.Numbers.{⨁, ◌⊗◌}
use Rattle.numbers.specs.Words.{number}
use Rattle.numbers.specs.Places.{entries}
use Rattle.numbers.proofs.side.Given as goal

abbrev pub invariant-loop-c : goal.invariant-loop-c
invariant-loop-c l = number l.most ≡ ⨁ (length l.yielded) (λ i. entries l.a i ⊗ entries l.x i)
