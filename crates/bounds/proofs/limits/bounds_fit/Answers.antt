use Rattle.std.proofs.Common.{rules}
use Rattle.codec.proofs.PackedLaws.{packed_tells}
use Rattle.bounds.proofs.EqualLaws.{bound_exact}
use Rattle.bounds.proofs.limits.bounds_fit.Goals as goal

pub packed-requires-clause-exact : goal.packed-requires-clause-exact
packed-requires-clause-exact c = bound_exact

pub returns : goal.returns
returns c =
    packed_tells (search rules) c.no_bound-blank.ensures c.packed.ensures.yes c.packed.ensures.no
    (λ x b e. search rules)
