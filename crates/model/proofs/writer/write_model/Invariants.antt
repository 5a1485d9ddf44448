use Rattle.std.proofs.Common.{take}
use Rattle.codec.specs.Arrays.{each}
use Rattle.codec.specs.Writing.{Wrote}
use Rattle.bounds.specs.Written.{bounds_bytes}
use Rattle.model.specs.Written.{edge_bytes}
use Rattle.model.proofs.writer.write_model.Given as goal

abbrev pub invariant-loop-bs : goal.invariant-loop-bs
invariant-loop-bs l = Wrote l.initial.w (each (bounds_bytes l.m.clocks) (take l.bs-index l.bs-items)) l.w

abbrev pub invariant-loop-e : goal.invariant-loop-e
invariant-loop-e l = Wrote l.initial.w (each (edge_bytes l.m.clocks) (take l.e-index l.e-items)) l.w
