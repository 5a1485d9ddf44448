use Rattle.bounds.specs.declared.Kind.TheVariants.{HalfSpace}
use Rattle.bounds.proofs.LimitLaws.{fits_as}
use Rattle.steps.proofs.Halving.{half_as, own_half}
use Rattle.steps.proofs.table.half.Goals as goal

pub returns-in-HalfSpace : goal.returns-in-HalfSpace
returns-in-HalfSpace c = let a = c.args in
    let p = c.requires in
    let told = c.in-HalfSpace.is in
    half_as a.n a.b.now HalfSpace told
    (own_half a.n a.b.now p.0 (fits_as a.n a.b.now HalfSpace told p.1))
