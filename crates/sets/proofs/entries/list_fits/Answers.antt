use mathlib.Core.Path.{◌∙◌}
use Prim.Native.Nat.{suc}
use native.Mathlib.Numerals.{add-one}
use native.Mathlib.Omega.{arith}
use borrow.Author.Tests.{tests}
use Rattle.std.proofs.Common.{rules}
use Rattle.sets.specs.Tests.{list_ok, part, vector_ok}
use Rattle.sets.proofs.Chains.{all_by, chunks}
use Rattle.sets.proofs.entries.list_fits.Goals as goal

pub returns : goal.returns
unfolding list_ok part
returns c =
    let e = c.chunks_exact.ensures in
    all_by (chunks c.args.list.now (suc c.args.n) (omega arith) e.rest (e.size ∙ add-one c.args.n) e.runs)
    (vector_ok c.args.n) (λ a r g k. search (rules, tests)) (λ x b k. search (rules, tests)) _ c.all.ensures.runs
