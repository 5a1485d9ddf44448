use Rattle.std.proofs.Common.{Err, Ok}
use mathlib.Core.Path.{◌≡◌, sym, ◌∙◌, ap}
use mathlib.Core.List.{List}
use mathlib.Core.Bool.{Bool}
use Prim.Native.Nat.{ℕ, ◌+◌, ◌/◌}
use native.Mathlib.Omega.{arith}
use lib.IntN.{ℤ, pos}
use lib.ListN.{length, take}
use Rattle.std.proofs.lemmas.Result.{err_from_is_err_and}
use Rattle.numbers.specs.Places.{Ended}
use Rattle.sets.specs.Types.{Checked}
use Rattle.sets.specs.Rules.{tell_after, inside, contains_checked, contains_of, generated}
use Rattle.sets.specs.Calls.{contains_input}
use Rattle.sets.specs.Demands.{Good}
use Rattle.sets.proofs.TestLaws.{list_each}
use Rattle.sets.proofs.FallLaws.{each_wider, testable_all}
use Rattle.sets.proofs.Membership.{point_long, point_each, inside_by}
use Rattle.sets.proofs.Asking.{contains_as, contains_good}
use Rattle.sets.proofs.contains.Goals as goal

-- the answer after the checks, by the rule
after : (k : Checked) (n : ℕ) (l p : List ℤ) → k ≡ contains_checked n l p
    → tell_after k (inside n l p) ≡ contains_of n l p
unfolding contains_of
after k n l p e = ap (λ (k : Checked). tell_after k (inside n l p)) e

-- input that passed is good
good : (n : ℕ) (l p : List ℤ) → Ok tt ≡ contains_checked n l p → Good (contains_input n l p)
good n l p e = contains_good n l p (sym e)

-- the test's answer, by the rule
told : (n : ℕ) (l p words : List ℤ) {b : Bool} → Ok tt ≡ contains_checked n l p → Ended p (pos 0) words
    → b ≡ generated l (length l / (n + 1)) (take (n + 1) words) → Ok b ≡ contains_of n l p
told n l p words e v is =
    let g = good n l p e in
    ap Ok (is ∙ inside_by n p words g.0.2 g.0.0.few v l) ∙ after (Ok tt) n l p e

pub returns-in_err-contains : goal.returns-in_err-contains
returns-in_err-contains c =
    let p = err_from_is_err_and c.from_residual.result c.from_residual.ensures.1 in
    contains_as _ _ _ (p.1 ∙ ap Err p.2 ∙ after _ _ _ _ c.in_err-contains.ensures)

pub overflow_add-w : goal.overflow_add-w
overflow_add-w c = omega (arith, (good _ _ _ c.in_ok-contains.ensures).0.0.few)

pub point-vector-requires : goal.point-vector-requires
point-vector-requires c = let g = (good _ _ _ c.in_ok-contains.ensures).0 in omega (arith, g.0.few, g.2)

pub shared_ref_as_front-generates : goal.shared_ref_as_front-generates
shared_ref_as_front-generates c = omega (arith, (good _ _ _ c.in_ok-contains.ensures).0.0.few)

pub generates-requires : goal.generates-requires
generates-requires c =
    let g = good _ _ _ c.in_ok-contains.ensures in
    let e = c.point-vector.ensures in
    testable_all _ _ _ g.0.0.few g.0.1.few (point_long _ _ _ g.0.2 g.0.0.few e)
    (each_wider (omega arith) (list_each _ _ g.0.1 g.1.0))
    (each_wider (omega arith) (point_each _ _ _ g.0.2 g.0.0.few e g.1.1))

pub returns : goal.returns
returns c = contains_as _ _ _ (told _ _ _ _ c.in_ok-contains.ensures c.point-vector.ensures c.generates.ensures)
