use Rattle.std.proofs.Common.{Err, Ok}
use mathlib.Core.Path.{◌≡◌, sym, ◌∙◌, ap}
use mathlib.Core.Bool.{Bool, true, cond, false}
use mathlib.Core.List.{List}
use Prim.Native.Nat.{ℕ}
use native.Mathlib.Omega.{arith}
use lib.IntN.{ℤ}
use Rattle.std.proofs.lemmas.Result.{err_from_is_err_and}
use Rattle.sets.specs.Types.{Checked}
use Rattle.sets.specs.Rules.{tell_after, has_point, covered, included_checked, included_of}
use Rattle.sets.specs.Calls.{included_input}
use Rattle.sets.specs.Demands.{Good}
use Rattle.sets.proofs.TestLaws.{list_each}
use Rattle.sets.proofs.FallLaws.{each_wider}
use Rattle.sets.proofs.Asking.{included_as, included_good}
use Rattle.sets.proofs.included.Goals as goal

-- the test's answer once it is known whether the inner list has a point
abbrev test : Bool → ℕ → List ℤ → List ℤ → Bool
test b n i o = cond b (covered n i o) true

-- the answer after the checks, by the rule
after : (k : Checked) (n : ℕ) (i o : List ℤ) → k ≡ included_checked n i o
    → tell_after k (test (has_point n i) n i o) ≡ included_of n i o
unfolding included_of
after k n i o e = ap (λ (k : Checked). tell_after k (test (has_point n i) n i o)) e

-- input that passed is good
good : (n : ℕ) (i o : List ℤ) → Ok tt ≡ included_checked n i o → Good (included_input n i o)
good n i o e = included_good n i o (sym e)

-- the test's answer, by whether the inner list has a point
by_point : (b : Bool) (n : ℕ) (i o : List ℤ) → Ok tt ≡ included_checked n i o → b ≡ has_point n i
    → Ok (test b n i o) ≡ included_of n i o
by_point b n i o e p = ap (λ (b : Bool). Ok (test b n i o)) p ∙ after (Ok tt) n i o e

-- the answer where it has one
told : (n : ℕ) (i o : List ℤ) {b : Bool} → Ok tt ≡ included_checked n i o → true ≡ has_point n i → b ≡ covered n i o
    → Ok b ≡ included_of n i o
told n i o e p is = ap Ok is ∙ by_point true n i o e p

pub returns-in_err-included : goal.returns-in_err-included
returns-in_err-included c =
    let p = err_from_is_err_and c.from_residual.result c.from_residual.ensures.1 in
    included_as _ _ _ (p.1 ∙ ap Err p.2 ∙ after _ _ _ _ c.in_err-included.ensures)

pub has_point-requires : goal.has_point-requires
has_point-requires c = (good _ _ _ c.in_ok-included.ensures).0.0.few

pub returns-then-not-has_point : goal.returns-then-not-has_point
returns-then-not-has_point c =
    included_as _ _ _ (by_point false _ _ _ c.in_ok-included.ensures c.if-not-has_point.ensures)

pub covered-requires : goal.covered-requires
covered-requires c =
    let g = good _ _ _ c.in_ok-included.ensures in
    record {
      few = g.0.0.few;
      few_vectors = g.0.2.few;
      of_inner = each_wider (omega arith) (list_each _ _ g.0.1 g.1.0);
      of_outer = each_wider (omega arith) (list_each _ _ g.0.2 g.1.1);
    }

pub returns : goal.returns
returns c = included_as _ _ _ (told _ _ _ c.in_ok-included.ensures c.if-not-has_point.ensures c.covered.ensures)
