-- Steps one behind the other in working memory: a list that was made is gone on with, a refusal is passed up.
use Rattle.std.proofs.Common.{Err, Ok}
use mathlib.Core.Bool.{Bool, cond}
use mathlib.Core.List.{List, ◌∷◌}
use mathlib.Core.Path.{◌≡◌, refl, sym, ◌∙◌, ap}
use Prim.Native.Nat.{ℕ, suc, ◌+◌, ◌-◌, ◌/◌, ◌%◌, ◌≤◌, ◌<◌}
use native.Mathlib.Numerals.{add-one}
use native.Mathlib.Omega.{arith}
use borrow.Author.Tests.{eq-eqb, ne_eqb}
use lib.Dec.{eqb}
use lib.IntN.{ℤ}
use lib.ListN.{length, drop, get_or, drop_of_length-le}
use lib.Seq.{drop-cons}
use Rattle.std.specs.Result.{IsErrAnd}
use Rattle.std.proofs.lemmas.Result.{err_from_is_err_and}
use Rattle.numbers.specs.declared.Refusal.{Refusal}
use Rattle.making.specs.Types.{Made}
use Rattle.bounds.specs.declared.Bound.{Bound}
use Rattle.model.specs.Bytes.{clocks_of}
use Rattle.model.specs.Plain.{bound_by}
use Rattle.runs.specs.Models.{Edge, Bound as RuleBound}
use Rattle.runs.specs.Rule.{Step, made, stop, ◌then◌, cut, delayed, reset_to0, reset_all, cut_all, entering, following}
use Rattle.runs.specs.Table.{half_of}
use Rattle.steps.specs.Working.{front, Working, Stepped, cut_items}

-- the steps that are left, from the list at the front on, are the whole
pub record Going (n k : ℕ) (work : List ℤ) (left : List ℤ → Step) (whole : Step) : Type 0 where
  pub working : Working n k work
  pub same : left (front n k work) ≡ whole

module _ {n k : ℕ} {work : List ℤ} {left : List ℤ → Step} {whole : Step} (g : Going n k work left whole) where
  -- nothing is left
  pub going_done : ((l : List ℤ) → left l ≡ made l) → Stepped n whole (Ok k) work
  going_done none = record {
    memory = g.working.memory;
    kept = g.working.kept;
    told = sym (none (front n k work)) ∙ g.same;
  }

module _ {n : ℕ} {step whole : Step} {after : List ℤ} where
  -- the step made a list, with which the others go on
  pub going_next : {k : ℕ} {next : List ℤ → Step} → step then next ≡ whole → Stepped n step (Ok k) after
      → Going n k after next whole
  going_next {k} {next} q h = record {
    working = record { memory = h.memory; kept = h.kept };
    same = ap (λ (s : Step). s then next) h.told ∙ q;
  }

  -- its refusal, passed up, is that of the whole
  pub going_refused : (next : List ℤ → Step) {e : Refusal} {passed : Made} → step then next ≡ whole
      → Stepped n step (Err e) after → IsErrAnd passed (λ f. f ≡ e) → Stepped n whole passed after
  going_refused next {e} {passed} q h up = let p = err_from_is_err_and passed up in
      rw (p.1, p.2) (record { memory = h.memory; kept = tt; told = ap (λ (s : Step). s then next) h.told ∙ q })

  -- it is the last
  pub going_last : {answer : Made} → step ≡ whole → Stepped n step answer after → Stepped n whole answer after
  going_last q h = record { memory = h.memory; kept = h.kept; told = h.told ∙ q }

then_in : (s : Step) (f g : List ℤ → Step) → s then (λ l. f l then g) ≡ (s then f) then g
then_in (made l) f g = refl
then_in (stop e) f g = refl

-- entering and following, step by step
pub entering_as : (n : ℕ) (inv : List RuleBound) (l : List ℤ)
    → cut_all n inv l then (λ l. delayed n l then cut_all n inv) ≡ entering n inv l
unfolding entering
entering_as n inv l = then_in (cut_all n inv l) (delayed n) (cut_all n inv)

-- following an edge, one step behind the other
pub following_as : (n : ℕ) (e : Edge) (inv : List RuleBound) (l : List ℤ)
    → cut_all n e.guard l then (λ l. reset_all n e.resets l then entering n inv) ≡ following n e inv l
unfolding following
following_as n e inv l = then_in (cut_all n e.guard l) (reset_all n e.resets) (entering n inv)

-- ---- the bounds of a list, from bound i on
module _ (n : ℕ) (items : List Bound) (i : ℕ) where
  -- that of i, and then the rest
  pub cut_turn : (past : Bound) → i < length items → (l : List ℤ) → cut_items n (drop i items) l
      ≡ cut n (half_of n (bound_by n (get_or items i past) (get_or items i past).kind)) l
      then cut_items n (drop (i + 1) items)
  unfolding cut_all
  cut_turn past h l = rw (add-one i, drop-cons items i past h)

  -- no bound is left
  pub cut_none : length items ≤ i → (l : List ℤ) → cut_items n (drop i items) l ≡ made l
  unfolding cut_all
  cut_none h l = rw (drop_of_length-le items h)

-- ---- the clocks whose bits are set, from clock i on
module _ (n i bits : ℕ) (l : List ℤ) where
  abbrev others : List ℤ → Step
  others = reset_all n (clocks_of (n - (i + 1)) (i + 1) (bits / 2))

  abbrev from : Bool → Step
  from b = reset_all n (cond b (i ∷ clocks_of (n - (i + 1)) (i + 1) (bits / 2))
      (clocks_of (n - (i + 1)) (i + 1) (bits / 2))) l

  -- the clocks from i on, by the bit of i
  reset_turn : i < n → reset_all n (clocks_of (n - i) i bits) l ≡ from (eqb (bits % 2) 1)
  reset_turn h =
      let e : n - i ≡ suc (n - (i + 1)) = omega arith in ap (λ (m : ℕ). reset_all n (clocks_of m i bits) l) e

  -- i, and then the rest
  pub reset_on : i < n → bits % 2 ≡ 1 → reset_all n (clocks_of (n - i) i bits) l ≡ reset_to0 n i l then others
  unfolding reset_all
  reset_on h e = reset_turn h ∙ ap from (eq-eqb (bits % 2) 1 e)

  -- i stays
  pub reset_off : i < n → ¬ (bits % 2 ≡ 1) → reset_all n (clocks_of (n - i) i bits) l ≡ others l
  reset_off h e = reset_turn h ∙ ap from (ne_eqb (bits % 2) 1 e)

  -- no clock is left
  pub reset_none : n ≤ i → reset_all n (clocks_of (n - i) i bits) l ≡ made l
  unfolding reset_all
  reset_none h = let e : n - i ≡ 0 = omega arith in rw e
