use Rattle.std.proofs.Common.{rules, tests}
use Rattle.std.proofs.lemmas.Iterator.{YieldsList-from_slice}
use Rattle.std.proofs.lemmas.Iterator.Search.{all_from_yields_List}
use mathlib.Core.Path.{◌∙◌}
use native.Mathlib.Omega.{arith}
use lib.IntN.{pos}
use lib.ListN.{take}
use Rattle.numbers.specs.Words.{number}
use Rattle.numbers.specs.Places.{entries}
use Rattle.algebra.specs.Working.{is_point}
use Rattle.making.specs.Rules.{entry_ok}
use Rattle.making.proofs.Rows.{all_every}
use Rattle.making.proofs.RangeLaws.{point_last, row_front}
use Rattle.making.proofs.range.row_fits.Goals as goal

pub returns : goal.returns
returns c =
    let a = c.args in
    all_from_yields_List (λ x. entry_ok (is_point (entries a.vector.now a.n)) (number x)) _ _ _ c.all.ensures.ran
    (YieldsList-from_slice (take a.n a.vector.now) (cc)) (λ x b q k. search (rules, tests, point_last))
    ∙ all_every _ (take a.n a.vector.now) (pos 0) ∙ row_front a.n a.vector.now (omega arith)
