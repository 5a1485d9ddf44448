use Rattle.std.proofs.Common.{rules}
use Rattle.codec.proofs.PackedLaws.{packed_tells}
use Rattle.model.proofs.EqualLaws.{edge_exact}
use Rattle.model.proofs.limits.edges_fit.Goals as goal

pub packed-requires-clause-exact : goal.packed-requires-clause-exact
packed-requires-clause-exact c = edge_exact

pub returns : goal.returns
returns c =
    packed_tells (search rules) c.no_edge-blank.ensures c.packed.ensures.yes c.packed.ensures.no
    (λ x b e. search rules)
