use Rattle.std.proofs.Common.{rules}
use Rattle.codec.proofs.PackedLaws.{packed_tells}
use Rattle.bounds.proofs.EqualLaws.{bounds_exact}
use Rattle.model.proofs.limits.invariants_fit.Goals as goal

pub packed-requires-clause-exact : goal.packed-requires-clause-exact
packed-requires-clause-exact c = bounds_exact

pub returns : goal.returns
returns c =
    packed_tells (search rules) c.no_bounds-blank.ensures c.packed.ensures.yes c.packed.ensures.no
    (λ x b e. search rules)
