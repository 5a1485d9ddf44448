use mathlib.Core.Bool.{true, false}
use native.Mathlib.Omega.{arith}
use mathlib.Core.Path.{◌≡◌}
use Prim.Native.Nat.{ℕ}
use borrow.Author.Rules.{rules}
use Rattle.std.proofs.lemmas.Iterator.{cases_from_any, YieldsList-from_range}
use Rattle.area.specs.Records.{state_in, covers_by}
use Rattle.area.proofs.CoverLaws.{covered_as}
use Rattle.area.proofs.covered.Goals as goal

pub returns : goal.returns
returns c =
    let covers = λ (i : ℕ). covers_by c.args.n c.args.q c.args.list.now (state_in c.args.n c.args.area.now i) in
    covered_as _ _ _ _ c.args.k _
    (cases_from_any _ _ _ (λ i. covers i ≡ true) (λ i. covers i ≡ false) c.any.ensures.ran
    (YieldsList-from_range 0 c.args.k c.args.k (cc) (omega arith)) (λ i q h. search rules) (λ i q h. search rules))
