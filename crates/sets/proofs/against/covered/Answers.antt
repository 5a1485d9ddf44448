use mathlib.Core.Path.{◌≡◌, sym, ◌∙◌, subst}
use mathlib.Core.List.{List}
use Prim.Native.Nat.{suc, ◌+◌, ◌*◌, ◌/◌}
use native.Mathlib.Numerals.{add-one}
use native.Mathlib.Omega.{arith}
use borrow.Author.Tests.{tests}
use lib.IntN.{ℤ}
use lib.ListN.{length}
use Rattle.std.proofs.Common.{rules}
use Rattle.std.specs.Slice.Iter.{chunks_exact_rest, chunks_exact_size}
use Rattle.numbers.specs.Places.{Each}
use Rattle.sets.specs.Tests.{part}
use Rattle.sets.specs.Rules.{covered, covers, generated, flat}
use Rattle.sets.proofs.RowLaws.{row_inside, part_long}
use Rattle.sets.proofs.FlatLaws.{part_flat}
use Rattle.sets.proofs.Chains.{all_by, chunks, further, serves}
use Rattle.sets.proofs.Membership.{generated_as}
use Rattle.sets.proofs.FallLaws.{each_cut, testable_all}
use Rattle.sets.proofs.against.covered.Goals as goal

pub all-requires-clause-callable : goal.all-requires-clause-callable
all-requires-clause-callable c =
    let p = c.requires in
    let e = c.chunks_exact.ensures in
    serves (λ s. (chunks_exact_size s ≡ c.args.n + 1) × Each 100000000 (chunks_exact_rest s))
    (λ s x t h k.
    let cut = each_cut _ _ _ k.1.0 h.1 in
    let test = testable_all c.args.n _ _ p.few p.few_vectors (k.1.1 ∙ h.0) p.of_outer cut.0 in
    ((k.0 ∙ h.0, cut.1), search rules))
    (λ x q k. search (rules, tests)) (e.size, subst (Each 100000000) (sym e.rest) p.of_inner)

pub returns : goal.returns
unfolding covered covers part
returns c =
    let e = c.chunks_exact.ensures in
    let n = c.args.n in
    let w = suc n in
    let inner = c.args.inner.now in
    let outer = c.args.outer.now in
    let m = length outer / (n + 1) in
    all_by (further (chunks inner w (omega arith) e.rest (e.size ∙ add-one n) e.runs)
    (λ (v : List ℤ). generated outer m v) (covers n inner outer)
    (λ k l. generated_as outer m _ w (flat w inner k) (part_long inner (k * w) w (row_inside k w _ l))
    (λ j b. part_flat w inner k j b) ∙ rw (add-one n)))
    (λ b. b) (λ a r g k. search (rules, tests)) (λ x b k. search (rules, tests)) _ c.all.ensures.runs
