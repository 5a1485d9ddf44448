use lib.ListN.{take}
use Rattle.std.specs.Prelude.{Ok}
use Rattle.codec.specs.Answers.{Each}
use Rattle.codec.proofs.read_items.Given as goal

abbrev pub invariant-loop-item : goal.invariant-loop-item
invariant-loop-item g l = Each (goal.F-post g l.read) l.fn.s (take l.item-index l.items) (Ok l.rest)
