use Rattle.std.proofs.Common.{Option, None, Some}
use Rattle.std.specs.Option.{is_some}
use mathlib.Core.Path.{refl, sym, ◌∙◌, ap, ◌≡◌}
use mathlib.Core.List.{List}
use mathlib.Core.Bool.{Bool, not}
use Prim.Native.Nat.{◌+◌, ◌*◌, ℕ, suc, ◌-◌, ◌≤◌, ◌<◌}
use native.Mathlib.Numerals.{add-one}
use lib.IntN.{ℤ}
use lib.ListN.{length, take, drop}
use Rattle.numbers.specs.Places.{entries}
use Rattle.sets.specs.declared.Short.{Short}
use Rattle.sets.specs.Rules.{flat, attained}
use Rattle.sets.specs.Falls.{masked, Falls, reach_of}
use Rattle.sets.proofs.RowLaws.{part_is}
use Rattle.sets.proofs.FallLaws.{nowhere}
use Rattle.making.proofs.RangeLaws.{row_room}
use Rattle.making.proofs.CleanLaws.{short_attained, try_drops, try_keeps}
use Rattle.making.proofs.clean.try_one.Goals as goal

-- what the test says of vector i
tested : (n m : ℕ) (work : List ℤ) (used : List Bool) (i : ℕ) (s : Option Short) → i < m → m * suc n ≤ length work
    → let x = take (i * (n + 1) + (n + 1) - i * (n + 1)) (drop (i * (n + 1)) work) in
    Falls (length x) (reach_of work m used x) (entries x) s
    → attained (n + 1) m (masked used (flat (n + 1) work)) (flat (n + 1) work i) ≡ nowhere s
tested n m work used i s l h f =
    short_attained _ _ work _ i _ s (part_is work (i * (n + 1)) (n + 1)) (row_room n _ _ _ l h) f

-- it falls short nowhere exactly if the answer is none
nowhere_not : (s : Option Short) → nowhere s ≡ not (is_some s)
nowhere_not None = refl
nowhere_not (Some s) = refl

pub returns-then-is_some : goal.returns-then-is_some
returns-then-is_some c =
    let a = c.args in
    rw (← add-one a.n) (try_keeps _ _ _ a.alive.now a.i
    (tested _ _ a.work.now _ a.i _ c.requires.1 c.requires.2 c.short.ensures
    ∙ nowhere_not c.short.result ∙ ap not (sym c.if-is_some.ensures)))

pub returns-else-is_some : goal.returns-else-is_some
returns-else-is_some c =
    let a = c.args in
    rw (← add-one a.n) (try_drops _ _ _ a.alive.now a.i
    (tested _ _ a.work.now _ a.i _ c.requires.1 c.requires.2 c.short.ensures
    ∙ nowhere_not c.short.result ∙ ap not (sym c.if-is_some.ensures)))
