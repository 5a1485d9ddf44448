-- The round trips of a whole model.
use mathlib.Core.List.{List, ◌++◌, append_assoc}
use mathlib.Core.Path.{◌≡◌, sym, ap, ◌∙◌, subst}
use Prim.Native.Nat.{ℕ}
use lib.ListN.{take}
use Rattle.codec.specs.Number.{got}
use Rattle.codec.specs.Form.{done, read_in, array, ◌>>=◌}
use Rattle.codec.specs.Arrays.{AreBytes, Packed, each}
use Rattle.codec.proofs.FormLaws.{Finds, finished, after}
use Rattle.codec.proofs.FormTrip.{Codes, same_got, parted, bytes_behind, codes_array}
use Rattle.bounds.specs.declared.Bounds.{Bounds}
use Rattle.bounds.specs.Bounds.{no_bounds, bounds_form}
use Rattle.bounds.specs.Limits.{BoundsLimits}
use Rattle.bounds.specs.Written.{bounds_bytes}
use Rattle.bounds.proofs.BoundTrip.{codes_bounds}
use Rattle.model.specs.declared.Edge.{Edge}
use Rattle.model.specs.declared.Model.{Model}
use Rattle.model.specs.declared.reader.Head.{Head}
use Rattle.model.specs.declared.reader.Goal.{Goal}
use Rattle.model.specs.Models.{no_edge, assembled, head_form, edge_form, goal_form, model_form}
use Rattle.model.specs.Limits.{EdgeLimits, ModelLimits}
use Rattle.model.specs.Written.{edge_bytes, goal_bytes, model_bytes}
use Rattle.model.proofs.ModelTrip.{HeadLimits, head_of, codes_head, codes_edge, GoalLimits, goal_of, codes_goal}

regroup : (a b d e t : List ℕ) → (a ++ (b ++ (d ++ e))) ++ t ≡ a ++ (b ++ (d ++ (e ++ t)))
regroup a b d e t = simp append_assoc

-- the parts of a model with the head h
module _ (h : Head) (w : HeadLimits h) where
  abbrev Invariants : List Bounds → Type 0
  Invariants = Packed (BoundsLimits h.clocks) no_bounds 32 h.locations

  abbrev Edges : List Edge → Type 0
  Edges = Packed (EdgeLimits h.clocks h.locations) no_edge 64 h.edges

  invariants : Codes (array 32 no_bounds h.locations (bounds_form h.clocks)) Invariants
      (λ is. each (bounds_bytes h.clocks) (take h.locations is))
  invariants = codes_array (codes_bounds h.clocks w.clocks) 32 h.locations no_bounds w.locations

  edges : Codes (array 64 no_edge h.edges (edge_form h.clocks h.locations)) Edges
      (λ es. each (edge_bytes h.clocks) (take h.edges es))
  edges = codes_array (codes_edge h.clocks h.locations w.clocks w.locations) 64 h.edges no_edge
      w.edges

  goal : Codes (goal_form h.clocks h.locations)
      (GoalLimits h.clocks h.locations w.clocks w.locations)
      (goal_of h.clocks h.locations w.clocks w.locations)
  goal = codes_goal h.clocks h.locations w.clocks w.locations

-- a model in limits, written, is read as it
pub model_there : (m : Model) (t : List ℕ) → ModelLimits m → Finds model_form (model_bytes m ++ t) (got m t)
unfolding model_form model_bytes
model_there m t w =
    let h : Head = record { clocks = m.clocks; locations = m.locations; edges = m.edges; initial = m.initial } in
    let g : Goal = record { target = m.target; list = m.list; depth = m.depth } in
    let head : HeadLimits h =
    record {
      some_clocks = w.numbers.some_clocks;
      clocks = w.numbers.clocks;
      some_locations = w.numbers.some_locations;
      locations = w.numbers.locations;
      edges = w.numbers.edges;
      initial = w.numbers.initial;
    } in
    let last : GoalLimits m.clocks m.locations head.clocks head.locations g =
    record { target = w.numbers.target; list = w.list; depth = w.numbers.depth } in
    rw (regroup (head_of h) (each (bounds_bytes m.clocks) (take m.locations m.invariants))
    (each (edge_bytes m.clocks) (take m.edges m.steps))
    (goal_bytes m.clocks m.target m.list m.depth) t)
    (after head_form _ (codes_head.there h _ head)
    (after (array 32 no_bounds m.locations (bounds_form m.clocks)) _
    ((invariants h head).there m.invariants _ w.invariants)
    (after (array 64 no_edge m.edges (edge_form m.clocks m.locations)) _
    ((edges h head).there m.steps _ w.edges)
    (after (goal_form m.clocks m.locations) _ ((goal h head).there g t last) finished))))

-- what is read as a model is a model in limits, written: from its last part to its first
module _ (m : Model) (s t : List ℕ) where
  Whole : Type 0
  Whole = ModelLimits m × (s ≡ model_bytes m ++ t)

  module _ (h : Head) (w : HeadLimits h) where
    Is : List Bounds → List ℕ
    Is is = each (bounds_bytes h.clocks) (take h.locations is)

    Es : List Edge → List ℕ
    Es es = each (edge_bytes h.clocks) (take h.edges es)

    finish : (is : List Bounds) (es : List Edge) (g : Goal) (u : List ℕ) → Invariants h w is → Edges h w es
        → GoalLimits h.clocks h.locations w.clocks w.locations g
        → s ≡ head_of h ++ (Is is ++ (Es es ++ (goal_of h.clocks h.locations w.clocks w.locations g ++ u)))
        → Finds (done (assembled h is es g)) u (got m t) → Whole
    unfolding Whole Is Es model_bytes read_in
    finish is es g u wi we wg e f =
        let same = same_got f.is in
        let limits : ModelLimits (assembled h is es g) =
        record {
          numbers =
              record {
                some_clocks = w.some_clocks;
                clocks = w.clocks;
                some_locations = w.some_locations;
                locations = w.locations;
                edges = w.edges;
                initial = w.initial;
                target = wg.target;
                depth = wg.depth;
              };
          invariants = wi;
          edges = we;
          list = wg.list;
        } in
        let last = goal_of h.clocks h.locations w.clocks w.locations g in
        let bytes : s ≡ model_bytes (assembled h is es g) ++ t =
        e ∙ ap (λ (r : List ℕ). head_of h ++ (Is is ++ (Es es ++ (last ++ r)))) same.1
        ∙ sym (regroup (head_of h) (Is is) (Es es) last t) in
        subst (λ (c : Model). ModelLimits c × (s ≡ model_bytes c ++ t)) same.0 (limits, bytes)

    from_goal : (is : List Bounds) (es : List Edge) (u : List ℕ) → Invariants h w is → Edges h w es → AreBytes u
        → s ≡ head_of h ++ (Is is ++ (Es es ++ u))
        → Finds (goal_form h.clocks h.locations >>= λ g. done (assembled h is es g)) u (got m t) → Whole
    from_goal is es u wi we hu e f =
        let two = parted (goal_form h.clocks h.locations) (λ g. done (assembled h is es g)) f in
        let back = (goal h w).back two.part u two.rest hu two.first in
        finish is es two.part two.rest wi we back.0
        (e ∙ ap (λ (r : List ℕ). head_of h ++ (Is is ++ (Es es ++ r))) back.1) two.second

    from_edges : (is : List Bounds) (u : List ℕ) → Invariants h w is → AreBytes u → s ≡ head_of h ++ (Is is ++ u)
        → Finds
        (array 64 no_edge h.edges (edge_form h.clocks h.locations) >>= λ es.
        goal_form h.clocks h.locations >>= λ g. done (assembled h is es g))
        u (got m t)
        → Whole
    unfolding Es
    from_edges is u wi hu e f =
        let two = parted (array 64 no_edge h.edges (edge_form h.clocks h.locations)) _ f in
        let back = (edges h w).back two.part u two.rest hu two.first in
        from_goal is two.part two.rest wi back.0 (bytes_behind (Es two.part) two.rest hu back.1)
        (e ∙ ap (λ (r : List ℕ). head_of h ++ (Is is ++ r)) back.1) two.second

    from_invariants : (u : List ℕ) → AreBytes u → s ≡ head_of h ++ u
        → Finds
        (array 32 no_bounds h.locations (bounds_form h.clocks) >>= λ is.
        array 64 no_edge h.edges (edge_form h.clocks h.locations) >>= λ es.
        goal_form h.clocks h.locations >>= λ g. done (assembled h is es g))
        u (got m t)
        → Whole
    unfolding Is
    from_invariants u hu e f =
        let two = parted (array 32 no_bounds h.locations (bounds_form h.clocks)) _ f in
        let back = (invariants h w).back two.part u two.rest hu two.first in
        from_edges two.part two.rest back.0 (bytes_behind (Is two.part) two.rest hu back.1)
        (e ∙ ap (◌++◌ (head_of h)) back.1) two.second

  -- what is read as a model is in limits and is its bytes
  pub model_back : AreBytes s → Finds model_form s (got m t) → ModelLimits m × (s ≡ model_bytes m ++ t)
  unfolding model_form Whole
  model_back hs f =
      let two = parted head_form _ f in
      let back = codes_head.back two.part s two.rest hs two.first in
      from_invariants two.part back.0 two.rest (bytes_behind (head_of two.part) two.rest hs back.1)
      back.1 two.second
