use Prim.Native.Nat.{◌-◌}
use Rattle.model.specs.Bytes.{clocks_of}
use Rattle.runs.specs.Rule.{reset_all}
use Rattle.steps.specs.Working.{front}
use Rattle.steps.proofs.Going.{Going}
use Rattle.steps.proofs.list.reset_all.Given as goal

abbrev pub invariant-loop-i : goal.invariant-loop-i
invariant-loop-i l = Going l.n l.m l.work (reset_all l.n (clocks_of (l.n - l.i) l.i l.bits))
    (reset_all l.n (clocks_of l.n 0 l.resets) (front l.n l.k l.initial.work))
