use mathlib.Core.Path.{◌∙◌}
use Prim.Native.Nat.{suc}
use native.Mathlib.Numerals.{add-one}
use native.Mathlib.Omega.{arith}
use borrow.Author.Tests.{tests}
use Rattle.std.proofs.Common.{rules}
use Rattle.numbers.specs.Words.{number}
use Rattle.numbers.specs.Places.{entries}
use Rattle.sets.specs.Tests.{finite, part}
use Rattle.sets.specs.Rules.{has_point, flat}
use Rattle.sets.proofs.Chains.{any_by, chunks, further}
use Rattle.sets.proofs.FlatLaws.{part_flat}
use Rattle.sets.proofs.entries.has_point.Goals as goal

pub returns : goal.returns
unfolding has_point part number
returns c =
    let e = c.chunks_exact.ensures in
    let n = c.args.n in
    let list = c.args.list.now in
    any_by (further (chunks list (suc n) (omega arith) e.rest (e.size ∙ add-one n) e.runs)
    (λ v. entries v n) (λ k. flat (suc n) list k n) (λ k l. part_flat (suc n) list k n (omega arith)))
    finite (λ a r g k. search (rules, tests)) (λ x b k. search (rules, tests)) _ c.any.ensures.runs
