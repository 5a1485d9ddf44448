use mathlib.Core.Path.{◌∙◌, ap}
use native.Mathlib.Omega.{arith}
use lib.ListN.{length}
use Rattle.numbers.specs.Numbers.{Within}
use Rattle.numbers.specs.Words.{number}
use Rattle.numbers.specs.Places.{entries}
use Rattle.numbers.specs.Weights.{weight_of}
use Rattle.numbers.proofs.NumberLaws.{wider}
use Rattle.numbers.proofs.WeightLaws.{weight_within}
use Rattle.numbers.proofs.WordLaws.{back, is_mark_lem}
use mir.Syntax.{w32}
use mir.Val.{to_z, of_z}
use Rattle.sets.proofs.FallLaws.{each_wider, raised_none, raised_lift}
use Rattle.sets.proofs.against.raise.Goals as goal

pub returns-then-t : goal.returns-then-t
returns-then-t c =
    let w = c.weight-t in
    raised_none _ _ _ _ _ w.ensures c.requires.inside
    (is_mark_lem (record { sfits = w.type_inv }) c.if-t.true).is

pub lift-requires-clause-each : goal.lift-requires-clause-each
lift-requires-clause-each c =
    let p = c.requires in
    let a = c.args in
    let t : Within 200000000 (weight_of (length a.x.now) (entries a.g.now) (entries a.x.now))
    = weight_within _ _ _ (λ j l. p.of_g.each j (omega arith)) (λ j l. p.of_x.each j l) in
    let weighed = ap number (back c.weight-t.type_inv) ∙ c.weight-t.ensures in
    let near : Within 1000000000 (number (to_z w32 (of_z w32 c.weight-t.result)))
    = wider {k = 200000000} (omega arith) (rw weighed t) in
    (each_wider (omega arith) p.of_g, near)

pub returns : goal.returns
returns c =
    let weighed = ap number (back c.weight-t.type_inv) ∙ c.weight-t.ensures in
    raised_lift _ _ _ _ _ weighed _ _ c.requires.long c.lift.ensures c.next.ensures
