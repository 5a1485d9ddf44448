-- Forming a candidate: what the steps made is what the rule goes on with.
use Rattle.std.proofs.Common.{Err, Ok}
use mathlib.Core.Bool.{cond}
use mathlib.Core.List.{List}
use mathlib.Core.Path.{◌≡◌, refl, sym, ap, ◌∙◌, subst}
use Prim.Native.Nat.{ℕ, suc, ◌+◌, ◌-◌, ◌*◌, ◌≤◌, ◌<◌}
use native.Mathlib.Nat.{mul-le-mul_right}
use native.Mathlib.Numerals.{add-one}
use native.Mathlib.Omega.{arith}
use lib.Dec.{eqb}
use lib.IntN.{ℤ, negsuc}
use lib.ListN.{length, take, drop}
use lib.Seq.{take_at}
use borrow.Author.Tests.{eq-eqb, ne_eqb}
use Rattle.numbers.specs.declared.Refusal.{Refusal}
use Rattle.algebra.specs.Vectors.{count}
use Rattle.making.specs.Types.{Made}
use Rattle.making.specs.Rules.{Result}
use Rattle.runs.specs.Models.{System, Edge, edge, invariant}
use Rattle.runs.specs.Rule.{Step, made, stop, State, state_at, Walk, Outcome, going}
use Rattle.runs.specs.Rule.{following, trying, nothing, zeroth, test, keep, judge, formed, try_edge}
use Rattle.runs.specs.Shown.{Shows}
use Rattle.runs.proofs.ProperLists.{Proper}
use Rattle.runs.proofs.Entering.{following_proper}
use Rattle.bounds.specs.Limits.{BoundsLimits}
use Rattle.model.proofs.PlainLimits.{bounds_plain, resets_plain}
use Rattle.model.specs.Plain.{plain, bounds_of, edge_of}
use Rattle.bounds.specs.declared.Bounds.{Bounds}
use Rattle.model.specs.declared.Edge.{Edge as EdgeRecord}
use Rattle.model.specs.declared.Model.{Model}
use Rattle.area.specs.declared.Located.{Located}
use Rattle.area.specs.Records.{Stands, Locates, state_in, states_in, state}
use Rattle.area.proofs.KeepLaws.{states_at}
use Rattle.walk.specs.declared.Tally.{Tally}
use Rattle.walk.specs.declared.Goal.{Goal}
use Rattle.walk.specs.Control.{Answered}
use Rattle.walk.specs.Control.{tally, walk_in, Does, aimed, formed_to}

-- ---- what a step's call says of the step
made_of : {a b : Result} → a ≡ b → a.made ≡ b.made
made_of e = ap (λ r. r.made) e

area_of : {a b : Result} → a ≡ b → a.area ≡ b.area
area_of e = ap (λ r. r.area) e

vectors_inj : {a b : ℕ} → ◌≡◌ {A = Made} (Ok a) (Ok b) → a ≡ b
vectors_inj e = cc

apart : {k : ℕ} {e : Refusal} → ◌≡◌ {A = Made} (Ok k) (Err e) → ⊥
apart q = let z : ◌≡◌ {A = ℕ} 0 1 = cc in omega arith

refused_inj : {a b : Refusal} → ◌≡◌ {A = Made} (Err a) (Err b) → a ≡ b
refused_inj e = cc

-- a step that made the first k vectors of memory
pub record Gave (n : ℕ) (o : Step) (k : ℕ) (after : List ℤ) : Type 0 where
  pub is : o ≡ made (take (k * (n + 1)) after)
  pub few : k ≤ 32
  pub proper : Proper n (take (k * (n + 1)) after)

-- a list that was made is the one that the rule goes on with
pub shows_made : (n : ℕ) (o : Step) (before : List ℤ) (k : ℕ) (after : List ℤ)
    → ((t : List ℤ) → o ≡ made t → Proper n t) → Shows n o before (Ok k) after → Gave n o k after
shows_made n (stop e) before k after p h = absurd (apart (made_of h))
shows_made n (made t) before k after p h = record {
  is = ap made (sym same);
  few = omega (arith, c, (p t refl).whole.few);
  proper = subst (Proper n) (sym same) (p t refl);
}
  where
    c : k ≡ count n t
    c = vectors_inj (made_of h)

    long : length t ≡ k * (n + 1)
    long = (p t refl).whole.exact ∙ (ap (λ (c : ℕ). c * suc n) (sym c) ∙ ap (λ (w : ℕ). k * w) (sym (add-one n)))

    same : take (k * (n + 1)) after ≡ t
    same = ap (take (k * (n + 1))) (area_of h) ∙ take_at t (drop (length t) before) (k * (n + 1)) long

-- it was refused
pub shows_refused : (n : ℕ) (o : Step) (before : List ℤ) (e : Refusal) (after : List ℤ)
    → Shows n o before (Err e) after → o ≡ stop e
shows_refused n (made t) before e after h = absurd (apart (sym (made_of h)))
shows_refused n (stop f) before e after h = ap stop (sym (refused_inj (made_of h)))

-- the words of a prefix lie in memory
pub prefix_in : {n : ℕ} {o : Step} {k : ℕ} {after : List ℤ} → n ≤ 6 → Gave n o k after → k * (n + 1) ≤ 224
prefix_in {n} {o} {k} {after} h g =
    let a : k * (n + 1) ≤ 32 * (n + 1) = mul-le-mul_right (n + 1) g.few in
    omega (arith, a)

-- ---- the candidate of a state that stands in the area
module _ (n i : ℕ) (area : List ℤ) (p : Located) (at : Locates n area i p) (h : Stands n area i) (edge : EdgeRecord)
    (inv : Bounds) where
  abbrev part : List ℤ
  part = p.list.now

  abbrev step : List ℤ → Step
  step l = following n (edge_of n edge) (bounds_of n inv) l

  -- it was made
  pub candidate_gave : BoundsLimits n edge.guard → BoundsLimits n inv → (before : List ℤ) (k : ℕ) (after : List ℤ)
      → Shows n (step part) before (Ok k) after → Gave n (step (state_in n area i).list) k after
  candidate_gave g f before k after s =
      subst (λ (l : List ℤ). Gave n (step l) k after) at.list (shows_made n (step part) before k after
      (λ t e. following_proper n (edge_of n edge) (bounds_plain n edge.guard g).each (resets_plain n edge.resets)
      (bounds_of n inv) (bounds_plain n inv f).each part t (subst (Proper n) (sym at.list) h.proper) e) s)

-- ---- the rule looks at the clocks and the target only
module _ (m : Model) (room : ℕ) where
  abbrev S : System
  S = (plain m).system

  abbrev goal : Goal
  goal = record { location = m.target; list = m.list }

  -- keeping looks at the clocks and the target only
  pub keep_aimed : (s : State) (w : Walk) → keep (aimed m.clocks goal) room s w ≡ keep S room s w
  unfolding keep test
  keep_aimed s w = refl

  -- state 0 is kept where nothing was
  pub root_does : {n k t : ℕ} {before middle : List ℤ} {r : Answered} (area l : List ℤ) (parent edge : ℤ)
      → parent ≡ negsuc 0 → edge ≡ negsuc 0
      → Does n room k t (keep (aimed m.clocks goal) room (state m.initial parent edge l)
      (walk_in m.clocks (tally 0 0) area)) before r middle
      → Does n room k t (keep S room (zeroth S l) nothing) before r middle
  unfolding states_in
  root_does {n} {k} {t} {before} {middle} {r} area l parent edge e f d =
      subst (λ (o : Outcome). Does n room k t o before r middle)
      (rw (e, f) (keep_aimed (zeroth S l) nothing)) d

  formed_aimed : (i e : ℕ) (w : Walk) (o : Step)
      → formed_to (aimed m.clocks goal) room (edge S e).destination i e w o ≡ formed S room i e w o
  unfolding judge keep test
  formed_aimed i e w (made l) = refl
  formed_aimed i e w (stop f) = refl

  -- edge e at state i, when they are known
  try_is : (i e : ℕ) (w : Walk) (E : Edge) (s : State) → edge S e ≡ E → state_at w.kept i ≡ s
      → try_edge S room i e w ≡ cond (eqb E.source s.location)
      (formed_to (aimed m.clocks goal) room E.destination i e (trying w)
      (following m.clocks E (invariant S E.destination) s.list)) (going w)
  unfolding try_edge
  try_is i e w E s p q = subst (λ (s : State). try_edge S room i e w ≡ cond (eqb E.source s.location)
      (formed_to (aimed m.clocks goal) room E.destination i e (trying w)
      (following m.clocks E (invariant S E.destination) s.list)) (going w)) q
      (subst (λ (E : Edge). try_edge S room i e w ≡ cond (eqb E.source (state_at w.kept i).location)
      (formed_to (aimed m.clocks goal) room E.destination i e (trying w)
      (following m.clocks E (invariant S E.destination) (state_at w.kept i).list)) (going w)) p
      (ap (λ (o : Outcome). cond (eqb (edge S e).source (state_at w.kept i).location) o (going w))
      (sym (formed_aimed i e (trying w) (following m.clocks (edge S e) (invariant S (edge S e).destination)
      (state_at w.kept i).list)))))

  module _ (i e : ℕ) (y : Tally) (area : List ℤ) (inside : i < y.kept) (E : EdgeRecord)
      (is : edge S e ≡ edge_of m.clocks E) where
    abbrev n : ℕ
    n = m.clocks

    here : state_at (states_in n y.kept area) i ≡ state_in n area i
    here = states_at n y.kept area i inside

    -- it leaves: its candidate is formed and counted
    pub try_leaves : E.source ≡ (state_in n area i).location → (inv : Bounds)
        → invariant S E.destination ≡ bounds_of n inv
        → formed_to (aimed n goal) room E.destination i e (walk_in n (tally y.kept (y.tried + 1)) area)
        (following n (edge_of n E) (bounds_of n inv) (state_in n area i).list)
        ≡ try_edge S room i e (walk_in n y area)
    try_leaves h inv q = sym (try_is i e (walk_in n y area) (edge_of n E) (state_in n area i) is here
        ∙ rw (eq-eqb E.source (state_in n area i).location h, q, add-one y.tried))

    -- it does not
    pub try_stays : ¬ (E.source ≡ (state_in n area i).location)
        → going (walk_in n y area) ≡ try_edge S room i e (walk_in n y area)
    try_stays h = sym (try_is i e (walk_in n y area) (edge_of n E) (state_in n area i) is here
        ∙ rw (ne_eqb E.source (state_in n area i).location h))
