-- Lists that cover what runs do: no run reaches the target, with any number of edges or with as many as are covered.
use mathlib.Core.List.{List, [], ◌∷◌}
use mathlib.Core.Path.{◌≡◌, refl, sym, ◌∙◌, ap, subst}
use Prim.Native.Nat.{ℕ, suc, ◌+◌, ◌≤◌, ◌<◌}
use native.Mathlib.Omega.{arith}
use lib.IntN.{ℤ}
use lib.ListN.{length, length-append}
use Rattle.runs.specs.Models.{System, invariant, edge}
use Rattle.runs.specs.Runs.{Values, later, Fits, Run, start, wait, follow, ReachesWith}
use Rattle.runs.specs.Verdicts.{SaysNever}
use Rattle.runs.specs.Closure.{Has, Entered, Crossed, AtZero, Among, Closed}

-- ---- entering
module _ (S : System) where
  later_none : (v : Values) → v ≡ later 0 v
  later_none [] = refl
  later_none (x ∷ v) = ap (λ y. y ∷ v) (omega arith) ∙ ap (λ w. (0 + x) ∷ w) (later_none v)

  later_more : (δ t : ℕ) (u : Values) → later δ (later t u) ≡ later (δ + t) u
  later_more δ t [] = refl
  later_more δ t (x ∷ u) =
      ap (λ y. y ∷ later δ (later t u)) (omega arith) ∙ ap (λ w. (δ + t + x) ∷ w) (later_more δ t u)

  -- entering without delay
  entered_now : {q : ℕ} {A : Values → Type 0} {v : Values} → A v → Fits (invariant S q) v → Entered S q A v
  entered_now {v = v} a h = record { u = v; δ = 0; from = a; before = h; is = later_none v; after = h }

  -- and a delay behind it
  entered_later : {q : ℕ} {A : Values → Type 0} {v : Values} (δ : ℕ) → Entered S q A v
      → Fits (invariant S q) (later δ v) → Entered S q A (later δ v)
  entered_later δ r h = record {
    u = r.u;
    δ = δ + r.δ;
    from = r.from;
    before = r.before;
    is = ap (later δ) r.is ∙ later_more δ r.δ r.u;
    after = h;
  }

-- ---- lists with the number of edges to each
module _ (S : System) (m : ℕ) (location : ℕ → ℕ) (list : ℕ → List ℤ) (deep : ℕ → ℕ) where
  -- the values v are in a list in location q to which at most d edges lead
  pub record Within (d q : ℕ) (v : Values) : Type 0 where
    pub i : ℕ
    pub inside : i < m
    pub at : location i ≡ q
    pub short : deep i ≤ d
    pub has : Has S.clocks (list i) v

  -- the candidates of list i over edge e are covered, with one edge more
  unfoldable pub Done : ℕ → ℕ → Type 0
  Done i e = (v : Values) → Entered S (edge S e).destination (Crossed S (edge S e) (Has S.clocks (list i))) v
      → Within (suc (deep i)) (edge S e).destination v

  -- the lists cover the runs with at most D edges, and none of them meets the target
  pub record Covers (D : ℕ) : Type 0 where
    pub base : (v : Values) → Entered S S.initial (AtZero S) v → Within 0 S.initial v
    pub candidates : (i e : ℕ) → i < m → deep i < D → e < length S.edges → (edge S e).source ≡ location i → Done i e
    pub target : (i : ℕ) → i < m → location i ≡ S.target → (v : Values) → Has S.clocks (list i) v
        → ¬ Fits S.goal v

  -- the values of a run with d edges: entered from the start, or over an edge from a list with fewer edges
  data Via (d q : ℕ) (v : Values) : Type 0 where
    begin : S.initial ≡ q → Entered S q (AtZero S) v → Via d q v
    over : (i e : ℕ) → i < m → deep i < d → e < length S.edges → (edge S e).source ≡ location i
        → (edge S e).destination ≡ q → Entered S q (Crossed S (edge S e) (Has S.clocks (list i))) v → Via d q v

  longer : {c d q : ℕ} {v : Values} → c ≤ d → Within c q v → Within d q v
  longer l w = record { i = w.i; inside = w.inside; at = w.at; short = omega (arith, w.short); has = w.has }

  module _ (D : ℕ) (c : Covers D) where
    via_within : {d q : ℕ} {v : Values} → d ≤ D → Via d q v → Within d q v
    unfolding Done
    via_within {v = v} l (begin e h) =
        longer (omega arith) (subst (λ q. Entered S q (AtZero S) v → Within 0 q v) e (c.base v) h)
    via_within {v = v} l (over i e a b f g k h) = longer (omega arith)
        (subst (λ q. Entered S q (Crossed S (edge S e) (Has S.clocks (list i))) v → Within (suc (deep i)) q v) k
        (c.candidates i e a (omega arith) f g v) h)

    wait_via : {d q : ℕ} {v : Values} (δ : ℕ) → Fits (invariant S q) (later δ v) → Via d q v → Via d q (later δ v)
    wait_via δ h (begin e r) = begin e (entered_later S δ r h)
    wait_via δ h (over i e a b f g k r) = over i e a b f g k (entered_later S δ r h)

    via : {es : List ℕ} {q : ℕ} {v : Values} → Run S es q v → length es ≤ D → Via (length es) q v
    via (start h) l = begin refl (entered_now S refl h)
    via (wait δ r h) l = wait_via δ (h δ (omega arith)) (via r l)
    via (follow {es = es} {v = v} e a r g i) l =
        let n = length-append es (e ∷ []) in
        let w = via_within (omega arith) (via r (omega arith)) in
        over w.i e w.inside (omega (arith, w.short)) a (sym w.at) refl
        (entered_now S (record { u = v; from = w.has; opens = g; is = refl }) i)

    -- no run with at most D edges reaches the target
    pub none_reach : (k : ℕ) → k ≤ D → ¬ ReachesWith S k
    none_reach k l r =
        let w = via_within (omega (arith, r.many)) (via r.reaches.run (omega (arith, r.many))) in
        c.target w.i w.inside w.at r.reaches.values w.has r.reaches.fits

-- lists that are closed show that no run of any length reaches the target
pub closed_never : (S : System) (m : ℕ) (location : ℕ → ℕ) (list : ℕ → List ℤ) → Closed S m location list → SaysNever S
closed_never S m location list c k = none_reach S m location list deep (suc k) covers k (omega arith)
  where
    deep : ℕ → ℕ
    deep i = 0

    within : (d q : ℕ) (v : Values) → Among S m location list q v → Within S m location list deep d q v
    within d q v a = record { i = a.i; inside = a.inside; at = a.at; short = omega arith; has = a.has }

    covers : Covers S m location list deep (suc k)
    covers = record {
      base = λ v h. within 0 S.initial v (c.start v h);
      candidates = λ i e a b f g. unfold Done in λ v h. within (suc (deep i)) (edge S e).destination v
          (c.candidates i e a f g v h);
      target = c.target;
    }

-- lists that are the same up to their count are closed alike
pub closed_alike : (S : System) (m : ℕ) (location place : ℕ → ℕ) (list row : ℕ → List ℤ)
    → ((i : ℕ) → i < m → place i ≡ location i) → ((i : ℕ) → i < m → row i ≡ list i)
    → Closed S m location list → Closed S m place row
closed_alike S m location place list row p r c = record {
  start = λ v h. alike (c.start v h);
  candidates = λ i e l f s v h. alike (c.candidates i e l f (s ∙ p i l) v
      (subst (λ (x : List ℤ). Entered S (edge S e).destination (Crossed S (edge S e) (Has S.clocks x)) v) (r i l) h));
  target = λ i l s v h. c.target i l (sym (p i l) ∙ s) v (subst (λ (x : List ℤ). Has S.clocks x v) (r i l) h);
}
  where
    alike : {q : ℕ} {v : Values} → Among S m location list q v → Among S m place row q v
    alike {v = v} a = record {
      i = a.i;
      inside = a.inside;
      at = p a.i a.inside ∙ a.at;
      has = subst (λ (x : List ℤ). Has S.clocks x v) (sym (r a.i a.inside)) a.has;
    }
