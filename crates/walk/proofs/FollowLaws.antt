-- An edge and its lists, read where they stand in the bytes, and the candidate over them.
use mathlib.Core.List.{List}
use mathlib.Core.Path.{◌≡◌, sym, ap, ◌∙◌, subst}
use Prim.Native.Nat.{ℕ, ◌+◌, ◌<◌}
use lib.IntN.{ℤ, negsuc}
use lib.ListN.{get_or}
use Rattle.runs.specs.Models.{invariant, edge}
use Rattle.runs.specs.Rule.{try_edge, following, keep, zeroth, nothing}
use Rattle.bounds.specs.declared.Bounds.{Bounds}
use Rattle.bounds.specs.Limits.{BoundsLimits}
use Rattle.model.specs.declared.Edge.{Edge}
use Rattle.model.specs.declared.Model.{Model}
use Rattle.model.specs.declared.Outline.{Outline}
use Rattle.model.specs.Limits.{EdgeLimits}
use Rattle.model.specs.Models.{past_bounds, past_edge}
use Rattle.model.specs.Plain.{plain, bounds_of, edge_of}
use Rattle.model.specs.Outlines.{list_at, edge_at, model_by, past_place, past_standing, Outlines}
use Rattle.model.proofs.PlainLimits.{edge_at_lem, edge_fits_lem, invariant_at, invariant_fits}
use Rattle.model.proofs.PlaceLaws.{list_stands, edge_stands}
use Rattle.area.specs.Records.{state_in, state}
use Rattle.walk.specs.Control.{Answered}
use Rattle.walk.specs.declared.Goal.{Goal}
use Rattle.walk.specs.declared.Tally.{Tally}
use Rattle.walk.specs.Control.{Does, tally, walk_in, aimed, formed_to}
use Rattle.walk.proofs.KeepingLaws.{does_as}
use Rattle.walk.proofs.FormLaws.{root_does, try_leaves}

module _ (o : Outline) (h : Outlines o) where
  abbrev m : Model
  m = model_by o

  abbrev n : ℕ
  n = o.clocks

  -- the invariant that is read for location q
  module _ (q : ℕ) (l : q < o.locations) {inv : Bounds}
      (is : inv ≡ list_at n (get_or o.invariants q past_place).now) where
    pub known : inv ≡ get_or m.invariants q past_bounds
    known = is ∙ list_stands o h q l

    pub invariant_limits : BoundsLimits n inv
    invariant_limits = subst (BoundsLimits n) (sym known) (invariant_fits m h.limits past_bounds q l)

    pub invariant_known : invariant (plain m).system q ≡ bounds_of n inv
    invariant_known = invariant_at m h.limits past_bounds q l ∙ ap (bounds_of n) (sym known)

  -- by what its states are kept
  abbrev goal : Goal
  goal = record { location = o.target; list = list_at n o.list.now }

  -- state 0 is kept
  pub root_did : (room : ℕ) (area l : List ℤ) {k t : ℕ} {before after : List ℤ} {r : Answered} (parent edge : ℤ)
      → parent ≡ negsuc 0 → edge ≡ negsuc 0
      → Does n room k t (keep (aimed n goal) room (state o.initial parent edge l) (walk_in n (tally 0 0) area))
      before r after
      → Does n room k t (keep (plain m).system room (zeroth (plain m).system l) nothing) before r after
  root_did room area l parent edge p q d = root_does m room area l parent edge p q d

  -- edge e
  module _ (e : ℕ) (l : e < o.edges) {E : Edge}
      (is : E ≡ edge_at n o.locations (get_or o.steps e past_standing).bytes.now) where
    edge_known : E ≡ get_or m.steps e past_edge
    edge_known = is ∙ edge_stands o h e l

    pub edge_limits : EdgeLimits n o.locations E
    edge_limits = subst (EdgeLimits n o.locations) (sym edge_known) (edge_fits_lem m h.limits past_edge e l)

    -- its candidate is the rule's
    pub followed : (room i : ℕ) (y : Tally) (area : List ℤ) {k t : ℕ} {before after : List ℤ} {r : Answered}
        (inv : Bounds) → i < y.kept → (get_or o.steps e past_standing).source ≡ (state_in n area i).location
        → inv ≡ list_at n (get_or o.invariants E.destination past_place).now
        → Does n room k t (formed_to (aimed n goal) room E.destination i e (walk_in n (tally y.kept (y.tried + 1)) area)
        (following n (edge_of n E) (bounds_of n inv) (state_in n area i).list)) before r after
        → Does n room k t (try_edge (plain m).system room i e (walk_in n y area)) before r after
    followed room i y area inv inside source list d =
        does_as (try_leaves m room i e y area inside E
        (edge_at_lem m h.limits past_edge e l ∙ ap (edge_of n) (sym edge_known))
        (ap (λ (x : Edge). x.source) edge_known ∙ sym (h.sources e l) ∙ source) inv
        (invariant_known E.destination edge_limits.destination list)) d
