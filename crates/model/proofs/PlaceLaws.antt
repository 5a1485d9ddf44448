-- Lists and edges read where they stand.
use mathlib.Core.List.{List, [], ◌∷◌, ◌++◌, map}
use mathlib.Core.Path.{◌≡◌, refl, sym}
use Prim.Native.Nat.{ℕ, zero, suc, ◌<◌}
use native.Mathlib.Omega.{arith}
use lib.ListN.{length, get_or, take}
use Rattle.bounds.specs.Bounds.{no_bounds}
use Rattle.model.specs.declared.Outline.{Outline}
use Rattle.model.specs.Models.{no_edge, past_bounds, past_edge}
use Rattle.model.specs.Outlines.{list_by, edge_by, standing, model_by, past_place, past_standing, Outlines}

-- what stands at place i of those that are used
stands : {P A : Type 0} (f : P → A) (past : A) (none : P) (count : ℕ) (places : List P) (tail : List A) (i : ℕ)
    → i < count → i < length places
    → get_or (map f (take count places) ++ tail) i past ≡ f (get_or places i none)
stands f past none (suc count) (p ∷ places) tail zero h l = refl
stands f past none (suc count) (p ∷ places) tail (suc i) h l =
    stands f past none count places tail i (omega arith) (omega arith)
stands f past none zero (p ∷ places) tail i h l = absurd (omega arith)
stands f past none count [] tail i h l = absurd (omega arith)

pub stands_at : {P A : Type 0} (size : ℕ) (blank past : A) (none : P) (f : P → A) (count : ℕ) (places : List P) (i : ℕ)
    → i < count → i < length places
    → get_or (standing size blank f count places) i past ≡ f (get_or places i none)
stands_at size blank past none f count places i h l = stands f past none count places _ i h l

-- what is read at the places of an outline is what its model has
module _ (o : Outline) (h : Outlines o) where
  pub list_stands : (q : ℕ) → q < o.locations
      → list_by o.clocks (get_or o.invariants q past_place) ≡ get_or (model_by o).invariants q past_bounds
  list_stands q l = sym (stands_at 32 no_bounds past_bounds past_place (list_by o.clocks) o.locations o.invariants q
      l (omega (arith, h.lists, h.limits.numbers.locations)))

  pub edge_stands : (e : ℕ) → e < o.edges
      → edge_by o.clocks o.locations (get_or o.steps e past_standing) ≡ get_or (model_by o).steps e past_edge
  edge_stands e l = sym (stands_at 64 no_edge past_edge past_standing (edge_by o.clocks o.locations) o.edges o.steps e l
      (omega (arith, h.places, h.limits.numbers.edges)))
