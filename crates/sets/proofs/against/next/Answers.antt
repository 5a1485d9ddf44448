use Rattle.std.proofs.Common.{rules, Option, None, Some}
use mathlib.Core.List.{List}
use Prim.Native.Nat.{ℕ, ◌≤◌, ◌<◌}
use borrow.Author.Tests.{tests}
use lib.IntN.{ℤ}
use lib.ListN.{length}
use Rattle.std.specs.Prelude.{MatchOption}
use Rattle.std.proofs.lemmas.Iterator.{first_from_Range}
use Rattle.numbers.specs.Numbers.{◌≼◌}
use Rattle.numbers.specs.Places.{entries}
use Rattle.sets.specs.Falls.{Next}
use Rattle.sets.proofs.FallLaws.{place_short, place_enough}
use Rattle.sets.proofs.against.next.Goals as goal

-- what `find` answers over the entries from `from` on
found : (from : ℕ) (reached x : List ℤ) (r : Option ℕ)
    → MatchOption r ((k : ℕ) → from ≤ k → k < length x → entries x k ≼ entries reached k)
    (λ i. (from ≤ i) × (i < length x) × ¬ (entries x i ≼ entries reached i)
    × ((k : ℕ) → from ≤ k → k < i → entries x k ≼ entries reached k))
    → Next from reached x r
found from reached x None h = h
found from reached x (Some i) h = record { onward = h.0; inside = h.1; passed = h.3; short = h.2 }

pub returns : goal.returns
returns c =
    let x = c.args.x.now in
    let reached = c.args.reached.now in
    found _ _ _ _ (first_from_Range _ _ _ c.find.result
    (λ k. ¬ (entries x k ≼ entries reached k)) (λ k. entries x k ≼ entries reached k)
    c.find.ensures.ran (λ j q k. search (rules, tests, place_short)) (λ j q k. search (rules, tests, place_enough)))
