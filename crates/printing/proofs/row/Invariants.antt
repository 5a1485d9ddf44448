use Rattle.std.proofs.Common.{take}
use Rattle.codec.specs.Arrays.{each}
use Rattle.codec.specs.Writing.{Wrote}
use Rattle.printing.specs.Text.{spaced}
use Rattle.printing.proofs.row.Given as goal

abbrev pub invariant-loop-v : goal.invariant-loop-v
invariant-loop-v l = Wrote l.initial.w (each spaced (take l.v-index l.numbers)) l.w
