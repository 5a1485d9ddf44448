use Rattle.std.proofs.Common.{take}
use Rattle.codec.specs.Arrays.{each}
use Rattle.codec.specs.Writing.{Wrote}
use Rattle.bounds.specs.Written.{entry_bytes}
use Rattle.bounds.proofs.writer.write_half.Given as goal

abbrev pub invariant-loop-z : goal.invariant-loop-z
invariant-loop-z l = Wrote l.initial.w (each entry_bytes (take l.z-index l.half)) l.w
