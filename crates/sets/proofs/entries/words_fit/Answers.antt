use lib.IntN.{pos}
use borrow.Author.Tests.{tests}
use Rattle.std.proofs.Common.{rules}
use Rattle.numbers.specs.Words.{number}
use Rattle.sets.specs.Tests.{fits, words_ok}
use Rattle.sets.proofs.Chains.{all_by, firsts}
use Rattle.sets.proofs.entries.words_fit.Goals as goal

pub returns : goal.returns
unfolding words_ok
returns c =
    let e = c.iter.ensures in
    all_by (firsts _ (pos 0) c.args.n c.requires e.rest e.runs) (λ z. fits c.args.ray (number z))
    (λ a r g k. search (rules, tests)) (λ x b k. search (rules, tests)) _ c.all.ensures.runs
