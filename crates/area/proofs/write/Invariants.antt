use mathlib.Core.Path.{◌≡◌}
use lib.ListN.{take}
use Rattle.sorting.specs.Rows.{put}
use Rattle.area.proofs.write.Given as goal

abbrev pub invariant-loop-i : goal.invariant-loop-i
invariant-loop-i l = l.words ≡ put l.initial.words 4 (take l.i l.list) l.i
