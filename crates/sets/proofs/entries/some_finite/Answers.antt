use lib.IntN.{pos}
use borrow.Author.Tests.{tests}
use Rattle.std.proofs.Common.{rules}
use Rattle.numbers.specs.Words.{number}
use Rattle.sets.specs.Tests.{finite, some_finite}
use Rattle.sets.proofs.Chains.{any_by, firsts}
use Rattle.sets.proofs.entries.some_finite.Goals as goal

pub returns : goal.returns
unfolding some_finite number
returns c =
    let e = c.iter.ensures in
    any_by (firsts _ (pos 0) c.args.n c.requires e.rest e.runs) (λ z. finite (number z))
    (λ a r g k. search (rules, tests)) (λ x b k. search (rules, tests)) _ c.any.ensures.runs
