-- The round trip of a model, part by part.
use mathlib.Core.Bool.{Bool, true, false, cond}
use mathlib.Core.List.{List, ◌++◌, append_assoc}
use mathlib.Core.Path.{◌≡◌, refl, ap, ◌∙◌, subst}
use Prim.Native.Nat.{ℕ, zero, suc, ◌^◌, ◌≤◌, ◌<◌}
use native.Mathlib.Omega.{arith}
use borrow.Author.Tests.{ne_eqb, eqb-false}
use lib.Dec.{eqb}
use Rattle.codec.specs.Number.{got, bytes_of}
use Rattle.codec.specs.Form.{Form, fault, read_in}
use Rattle.codec.specs.Arrays.{AreBytes}
use Rattle.codec.proofs.FormLaws.{Finds, finished, after}
use Rattle.codec.proofs.FormTrip.{Codes, same_got, numbered, ask_there, parted, bytes_behind}
use Rattle.bounds.specs.Bounds.{bounds_form}
use Rattle.bounds.specs.Limits.{BoundsLimits}
use Rattle.bounds.specs.Written.{bounds_bytes}
use Rattle.bounds.proofs.BoundTrip.{codes_bounds}
use Rattle.model.specs.declared.Edge.{Edge}
use Rattle.model.specs.declared.reader.Head.{Head}
use Rattle.model.specs.declared.reader.Goal.{Goal}
use Rattle.model.specs.Models.{positive, head_form, edge_form, goal_form}
use Rattle.model.specs.Limits.{EdgeLimits}
use Rattle.model.specs.Written.{head_bytes, edge_bytes, goal_bytes}

-- ---- numbers that must not be 0
pub positive_there : {A : Type 0} {F : Form A} {v : ℕ} {s t : List ℕ} {a : A} → 1 ≤ v → Finds F s (got a t)
    → Finds (positive v F) s (got a t)
positive_there {v = v} l f = rw (ne_eqb v 0 (λ e. omega arith)) f

-- what is found behind a number that must not be 0
pub positive_back : {A : Type 0} (F : Form A) (v : ℕ) {s t : List ℕ} {a : A} → Finds (positive v F) s (got a t)
    → (1 ≤ v) × Finds F s (got a t)
unfolding read_in
positive_back F v {s} {t} {a} f = by_test (eqb v 0) refl f
  where
    by_test : (b : Bool) → eqb v 0 ≡ b → Finds (cond b fault F) s (got a t) → (1 ≤ v) × Finds F s (got a t)
    by_test true h f = absurd (let g = f.is in let z : ◌≡◌ {A = ℕ} 0 1 = cc in omega arith)
    by_test false h f = let some : v ≡ 0 → ⊥ = eqb-false v 0 h in (omega arith, f)

-- there are at most 64 reset sets
pub few_sets : (n : ℕ) → n ≤ 6 → 2 ^ n ≤ 64
few_sets zero h = omega arith
few_sets (suc zero) h = omega arith
few_sets (suc (suc zero)) h = omega arith
few_sets (suc (suc (suc zero))) h = omega arith
few_sets (suc (suc (suc (suc zero)))) h = omega arith
few_sets (suc (suc (suc (suc (suc zero))))) h = omega arith
few_sets (suc (suc (suc (suc (suc (suc zero)))))) h = omega arith
few_sets (suc (suc (suc (suc (suc (suc (suc n))))))) h = absurd (omega arith)

-- ---- the head
pub record HeadLimits (h : Head) : Type 0 where
  pub some_clocks : 1 ≤ h.clocks
  pub clocks : h.clocks ≤ 6
  pub some_locations : 1 ≤ h.locations
  pub locations : h.locations ≤ 32
  pub edges : h.edges ≤ 64
  pub initial : h.initial < h.locations

-- a head's bytes
abbrev pub head_of : Head → List ℕ
head_of h = head_bytes h.clocks h.locations h.edges h.initial

-- a head's bytes are read as it, and only they
pub codes_head : Codes head_form HeadLimits head_of
unfolding head_form read_in
codes_head = record { there = to; back = from }
  where
    to : (h : Head) (t : List ℕ) → HeadLimits h → Finds head_form (head_of h ++ t) (got h t)
    to h t w =
        simp append_assoc
        (ask_there h.clocks (omega (arith, w.clocks)) (omega (arith, w.clocks)) (positive_there w.some_clocks
        (ask_there h.locations (omega (arith, w.locations)) (omega (arith, w.locations))
        (positive_there w.some_locations
        (ask_there h.edges (omega (arith, w.edges)) (omega (arith, w.edges))
        (ask_there h.initial w.initial (omega (arith, w.initial, w.locations)) finished))))))

    from : (h : Head) (s t : List ℕ) → AreBytes s → Finds head_form s (got h t) → HeadLimits h × (s ≡ head_of h ++ t)
    from h s t hs f =
        let n = numbered hs f in
        let hn = bytes_behind (bytes_of n.number) n.rest hs n.stood.whole in
        let pn = positive_back _ n.number n.then in
        let l = numbered hn pn.1 in
        let hl = bytes_behind (bytes_of l.number) l.rest hn l.stood.whole in
        let pl = positive_back _ l.number l.then in
        let e = numbered hl pl.1 in
        let he = bytes_behind (bytes_of e.number) e.rest hl e.stood.whole in
        let i = numbered he e.then in
        let same = same_got i.then.is in
        let limits : HeadLimits
        (record { clocks = n.number; locations = l.number; edges = e.number; initial = i.number }) =
        record {
          some_clocks = pn.0;
          clocks = omega (arith, n.limit);
          some_locations = pl.0;
          locations = omega (arith, l.limit);
          edges = omega (arith, e.limit);
          initial = i.limit;
        } in
        let bytes : s ≡ bytes_of n.number ++
        (bytes_of l.number ++ (bytes_of e.number ++ (bytes_of i.number ++ t))) =
        n.stood.whole ∙ ap (◌++◌ (bytes_of n.number))
        (l.stood.whole ∙ ap (◌++◌ (bytes_of l.number))
        (e.stood.whole ∙ ap (◌++◌ (bytes_of e.number))
        (i.stood.whole ∙ ap (◌++◌ (bytes_of i.number)) same.1))) in
        subst (λ (c : Head). HeadLimits c × (s ≡ head_of c ++ t)) same.0 (limits, simp append_assoc bytes)

module _ (n l : ℕ) (few : n ≤ 6) (short : l ≤ 32) where
  -- ---- an edge
  pub codes_edge : Codes (edge_form n l) (EdgeLimits n l) (edge_bytes n)
  unfolding edge_form edge_bytes read_in
  codes_edge = record { there = to; back = from }
    where
      to : (e : Edge) (t : List ℕ) → EdgeLimits n l e → Finds (edge_form n l) (edge_bytes n e ++ t) (got e t)
      to e t w =
          simp append_assoc
          (ask_there e.source w.source (omega (arith, w.source))
          (ask_there e.destination w.destination (omega (arith, w.destination))
          (after (bounds_form n) _ ((codes_bounds n few).there e.guard (bytes_of e.resets ++ t) w.guard)
          (ask_there e.resets w.resets (omega (arith, w.resets, few_sets n few)) finished))))

      from : (e : Edge) (s t : List ℕ) → AreBytes s → Finds (edge_form n l) s (got e t)
          → EdgeLimits n l e × (s ≡ edge_bytes n e ++ t)
      from e s t hs f =
          let a = numbered hs f in
          let ha = bytes_behind (bytes_of a.number) a.rest hs a.stood.whole in
          let b = numbered ha a.then in
          let hb = bytes_behind (bytes_of b.number) b.rest ha b.stood.whole in
          let g = parted (bounds_form n) _ b.then in
          let back = (codes_bounds n few).back g.part b.rest g.rest hb g.first in
          let hg = bytes_behind (bounds_bytes n g.part) g.rest hb back.1 in
          let r = numbered hg g.second in
          let same = same_got r.then.is in
          let limits : EdgeLimits n l
          (record { source = a.number; destination = b.number; guard = g.part; resets = r.number }) =
          record { source = a.limit; destination = b.limit; guard = back.0; resets = r.limit } in
          let bytes : s ≡ bytes_of a.number ++
          (bytes_of b.number ++ (bounds_bytes n g.part ++ (bytes_of r.number ++ t))) =
          a.stood.whole ∙ ap (◌++◌ (bytes_of a.number))
          (b.stood.whole ∙ ap (◌++◌ (bytes_of b.number))
          (back.1 ∙ ap (◌++◌ (bounds_bytes n g.part))
          (r.stood.whole ∙ ap (◌++◌ (bytes_of r.number)) same.1))) in
          subst (λ (c : Edge). EdgeLimits n l c × (s ≡ edge_bytes n c ++ t)) same.0
          (limits, simp append_assoc bytes)

  -- ---- the goal
  pub record GoalLimits (g : Goal) : Type 0 where
    pub target : g.target < l
    pub list : BoundsLimits n g.list
    pub depth : g.depth ≤ 200

  -- a goal's bytes
  abbrev pub goal_of : Goal → List ℕ
  goal_of g = goal_bytes n g.target g.list g.depth

  -- a goal's bytes are read as it, and only they
  pub codes_goal : Codes (goal_form n l) GoalLimits goal_of
  unfolding goal_form read_in
  codes_goal = record { there = to; back = from }
    where
      to : (g : Goal) (t : List ℕ) → GoalLimits g → Finds (goal_form n l) (goal_of g ++ t) (got g t)
      to g t w =
          simp append_assoc
          (ask_there g.target w.target (omega (arith, w.target))
          (after (bounds_form n) _ ((codes_bounds n few).there g.list (bytes_of g.depth ++ t) w.list)
          (ask_there g.depth (omega (arith, w.depth)) (omega (arith, w.depth)) finished)))

      from : (g : Goal) (s t : List ℕ) → AreBytes s → Finds (goal_form n l) s (got g t)
          → GoalLimits g × (s ≡ goal_of g ++ t)
      from g s t hs f =
          let a = numbered hs f in
          let ha = bytes_behind (bytes_of a.number) a.rest hs a.stood.whole in
          let b = parted (bounds_form n) _ a.then in
          let back = (codes_bounds n few).back b.part a.rest b.rest ha b.first in
          let hb = bytes_behind (bounds_bytes n b.part) b.rest ha back.1 in
          let d = numbered hb b.second in
          let same = same_got d.then.is in
          let limits : GoalLimits (record { target = a.number; list = b.part; depth = d.number }) =
          record { target = a.limit; list = back.0; depth = omega (arith, d.limit) } in
          let bytes : s ≡ bytes_of a.number ++ (bounds_bytes n b.part ++ (bytes_of d.number ++ t)) =
          a.stood.whole ∙ ap (◌++◌ (bytes_of a.number))
          (back.1 ∙ ap (◌++◌ (bounds_bytes n b.part))
          (d.stood.whole ∙ ap (◌++◌ (bytes_of d.number)) same.1)) in
          subst (λ (c : Goal). GoalLimits c × (s ≡ goal_of c ++ t)) same.0 (limits, simp append_assoc bytes)
