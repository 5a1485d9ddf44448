use Rattle.std.proofs.Common.{take}
use Rattle.codec.specs.Arrays.{each}
use Rattle.codec.specs.Writing.{Wrote}
use Rattle.bounds.specs.Written.{bound_bytes}
use Rattle.bounds.proofs.writer.write_bounds.Given as goal

abbrev pub invariant-loop-b : goal.invariant-loop-b
invariant-loop-b l = Wrote l.initial.w (each (bound_bytes l.n) (take l.b-index l.b-items)) l.w
