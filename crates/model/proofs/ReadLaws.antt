-- What `read` and `read_outline` answer, by what was found.
use mathlib.Core.Bool.{true, false}
use mathlib.Core.List.{List, [], ◌∷◌, ◌++◌, map}
use mathlib.Core.Path.{◌≡◌, refl, sym, ap, ◌∙◌}
use Prim.Native.Nat.{ℕ, suc, ◌≤◌, ◌<◌}
use native.Mathlib.Omega.{arith}
use lib.ListN.{
  length,
  get_or,
  take,
  drop,
  replicate,
  length-append,
  length-drop,
  length-replicate,
  get_or-append,
}
use lib.Seq.{take_at}
use Rattle.std.specs.Prelude.{Ok, Err}
use Rattle.std.specs.Bool.{◌==◌}
use Rattle.std.specs.Borrow.{Bor}
use Rattle.std.proofs.lemmas.List.{get_or-map}
use borrow.Author.Tests.{eqb-true}
use Rattle.numbers.specs.Refusals.{refusal_number}
use Rattle.numbers.specs.declared.Refusal.{Refusal}
use Rattle.numbers.specs.declared.Refusal.TheVariants.{Bytes}
use Rattle.codec.specs.Number.{got, refused}
use Rattle.codec.specs.Form.{Form, ask, done, many, read_in, padded}
use Rattle.codec.specs.Arrays.{AreBytes}
use Rattle.codec.proofs.FormLaws.{ask_gave, ask_refused, first_gave, first_refused, told_of}
use Rattle.codec.proofs.ArrayLaws.{taken, array_gave, array_refused}
use Rattle.codec.proofs.FormTrip.{parted}
use Rattle.bounds.specs.declared.Bounds.{Bounds}
use Rattle.bounds.specs.Bounds.{no_bounds, bounds_form}
use Rattle.model.specs.declared.Edge.{Edge}
use Rattle.model.specs.declared.Model.{Model}
use Rattle.model.specs.declared.Outline.{Outline}
use Rattle.model.specs.declared.Standing.{Standing}
use Rattle.model.specs.declared.reader.Head.{Head}
use Rattle.model.specs.declared.reader.Goal.{Goal}
use Rattle.model.specs.Models.{
  model_form,
  head_form,
  invariants_form,
  edge_form,
  edges_form,
  goal_form,
  no_edge,
  past_edge,
  assembled,
}
use Rattle.model.specs.Answers.{value, refusal, wholly, read_of, ReadsModel}
use Rattle.model.specs.Outlines.{
  value_or,
  list_at,
  list_by,
  edge_by,
  standing,
  model_by,
  past_standing,
  ReadsOutline,
}
use Rattle.model.proofs.ModelSize.{Counts, found_head}
use Rattle.model.proofs.PlaceLaws.{stands_at}
use Rattle.model.proofs.SurveyLaws.{source_at, many_placed}
use Rattle.model.proofs.Theorems.{read_written_lem}

module _ (s : List ℕ) where
  -- the first fault is the refusal
  refused_of : {n : ℕ} → read_in model_form s ≡ refused n → read_of s ≡ refusal n
  unfolding read_of
  refused_of e = ap wholly e

  -- bytes stand behind the model
  over_of : {m : Model} (t : List ℕ) → read_in model_form s ≡ got m t → false ≡ (length t == 0)
      → read_of s ≡ refusal (refusal_number Bytes)
  unfolding read_of
  over_of [] e h = absurd cc
  over_of (b ∷ t) e h = ap wholly e

  -- the bytes are a model
  value_of : {m : Model} (t : List ℕ) → read_in model_form s ≡ got m t → true ≡ (length t == 0) → read_of s ≡ value m
  unfolding read_of
  value_of [] e h = ap wholly e
  value_of (b ∷ t) e h = absurd (let z : suc (length t) ≡ 0 = eqb-true _ _ (sym h) in omega arith)

module _ {s : List ℕ} where
  -- `read`
  pub read_refuses : {e : Refusal} → read_in model_form s ≡ refused (refusal_number e) → ReadsModel s (Err e)
  read_refuses f = record { said = sym (refused_of s f); stands = tt }

  pub read_over : {m : Model} {t : List ℕ} → read_in model_form s ≡ got m t → false ≡ (length t == 0)
      → ReadsModel s (Err Bytes)
  read_over {t = t} f h = record { said = sym (over_of s t f h); stands = tt }

  pub read_gives : {m : Model} {t : List ℕ} → AreBytes s → read_in model_form s ≡ got m t → true ≡ (length t == 0)
      → ReadsModel s (Ok m)
  read_gives {m} {t} hs f h =
      let whole = value_of s t f h in record { said = sym whole; stands = read_written_lem s m hs whole }

  -- `read_outline`
  pub outline_refuses : {e : Refusal} → read_in model_form s ≡ refused (refusal_number e) → ReadsOutline s (Err e)
  outline_refuses f = record { said = sym (refused_of s f); holds = tt }

  pub outline_over : {m : Model} {t : List ℕ} → read_in model_form s ≡ got m t → false ≡ (length t == 0)
      → ReadsOutline s (Err Bytes)
  outline_over {t = t} f h = record { said = sym (over_of s t f h); holds = tt }

-- a goal's list is what stands behind its target
pub goal_list : {v : ℕ} {t u : List ℕ} {g : Goal} (n l : ℕ) (s : List ℕ) → got v t ≡ read_in (ask l (λ v. done v)) s
    → got g u ≡ read_in (goal_form n l) s → value_or no_bounds (read_in (bounds_form n) t) ≡ g.list
unfolding goal_form
goal_list {v} {t} {u} {g} n l s target goal =
    let two = parted (bounds_form n) _ (record { is = sym (ask_gave l _ s target) ∙ sym goal }) in
    ap (value_or no_bounds) two.first.is
    ∙ told_of (λ (x : Goal). two.part ≡ x.list) 201 (λ d. record { target = v; list = two.part; depth = d }) two.rest
    (λ d l. refl) (sym two.second.is)

-- what stands behind the edges that were stored
abbrev pub unread : Bor (List ℕ) → Standing
unread p = record { source = 0; bytes = p }

-- an outline of places that were stored; behind them stands p
abbrev pub outlined : Head → Bor (List ℕ) → List (Bor (List ℕ)) → List Standing → Bor (List ℕ) → Goal → Outline
outlined h p is ss list g =
    record {
      clocks = h.clocks;
      locations = h.locations;
      edges = h.edges;
      initial = h.initial;
      invariants = is ++ drop h.locations (replicate 32 p);
      steps = ss ++ drop h.edges (replicate 64 (unread p));
      target = g.target;
      list = list;
      depth = g.depth;
    }

module _ (s : List ℕ) (h : Head) (p : Bor (List ℕ)) (is : List (Bor (List ℕ))) (ss : List Standing)
    (list : Bor (List ℕ)) (g : Goal) (counts : Counts h) (lists : length is ≡ h.locations) (edges : length ss ≡ h.edges)
    (from : map (λ (p : Standing). p.source) ss ≡ map (source_at h.clocks h.locations) ss) (goal : list_at h.clocks list.now ≡ g.list) where
  -- the outline, and the model that was found at its places
  abbrev out : Outline
  out = outlined h p is ss list g

  found : Model
  found =
      assembled h (padded 32 no_bounds (map (list_by h.clocks) is))
      (padded 64 no_edge (map (edge_by h.clocks h.locations) ss)) g

  long : {P : Type 0} (size count : ℕ) (blank : P) (xs : List P) → count ≤ size → length xs ≡ count
      → length (xs ++ drop count (replicate size blank)) ≡ size
  long size count blank xs few e =
      omega (
        arith,
        e,
        length-append xs (drop count (replicate size blank)),
        length-drop count (replicate size blank),
        length-replicate size blank,
      )

  same_model : model_by out ≡ found
  unfolding found
  same_model =
      let l = take_at is (drop h.locations (replicate 32 p)) h.locations lists in
      let e = take_at ss (drop h.edges (replicate 64 (unread p))) h.edges edges in
      let first : standing 32 no_bounds (list_by h.clocks) h.locations (is ++ drop h.locations (replicate 32 p))
      ≡ padded 32 no_bounds (map (list_by h.clocks) is) =
      ap (λ (xs : List (Bor (List ℕ))). padded 32 no_bounds (map (list_by h.clocks) xs)) l in
      let second : standing 64 no_edge (edge_by h.clocks h.locations) h.edges (ss ++ drop h.edges (replicate 64 (unread p)))
      ≡ padded 64 no_edge (map (edge_by h.clocks h.locations) ss) =
      ap (λ (xs : List Standing). padded 64 no_edge (map (edge_by h.clocks h.locations) xs)) e in
      cc

  pub outline_gives : {t : List ℕ} → AreBytes s
      → read_in model_form s
      ≡ got (assembled h (padded 32 no_bounds (map (list_by h.clocks) is))
      (padded 64 no_edge (map (edge_by h.clocks h.locations) ss)) g) t
      → true ≡ (length t == 0) → ReadsOutline s (Ok out)
  unfolding found
  outline_gives {t} hs f e =
      let whole : read_of s ≡ value (model_by out) = value_of s t f e ∙ ap value (sym same_model) in
      let limits = (read_written_lem s (model_by out) hs whole).limits in
      record {
        said = sym whole;
        holds = record {
          limits = limits;
          sources = λ e l. source e l;
          lists = long 32 h.locations p is counts.1 lists;
          places = long 64 h.edges (unread p) ss counts.2 edges;
        };
      }
    where
      source : (e : ℕ) → e < h.edges
          → (get_or out.steps e past_standing).source ≡ (get_or (model_by out).steps e past_edge).source
      source e l =
          let place : get_or (ss ++ drop h.edges (replicate 64 (unread p))) e past_standing ≡ get_or ss e past_standing =
          get_or-append ss (drop h.edges (replicate 64 (unread p))) past_standing e (omega (arith, edges)) in
          ap (λ (x : Standing). x.source) place
          ∙ sym (get_or-map (λ (x : Standing). x.source) ss e past_standing 0 (omega (arith, edges)))
          ∙ ap (λ (xs : List ℕ). get_or xs e 0) from
          ∙ get_or-map (source_at h.clocks h.locations) ss e past_standing 0 (omega (arith, edges))
          ∙ ap (source_at h.clocks h.locations) (sym place)
          ∙ ap (λ (x : Edge). x.source)
          (sym (stands_at 64 no_edge past_edge past_standing (edge_by h.clocks h.locations) h.edges
          (ss ++ drop h.edges (replicate 64 (unread p))) e l
          (omega (arith, long 64 h.edges (unread p) ss counts.2 edges, counts.2))))

-- ---- an outline's parts, as they were read
pub counts : (s : List ℕ) (h : Head) (a : List ℕ) → got h a ≡ read_in head_form s → Counts h
counts s h a head = found_head (record { is = sym head })

module _ (s : List ℕ) (h : Head) (a : List ℕ) (head : got h a ≡ read_in head_form s) (p : Bor (List ℕ)) where
  few : Counts h
  few = counts s h a head

  -- where the first places of the lists are
  abbrev Lists : Form (List Bounds)
  Lists = many (length (take h.locations (replicate 32 p))) (bounds_form h.clocks)

  pub lists_refused : {e : Refusal} → refused (refusal_number e) ≡ read_in Lists a → ReadsOutline s (Err e)
  unfolding model_form
  lists_refused e =
      outline_refuses (first_gave head_form _ s head
      ∙ first_refused _ _ a (array_refused (bounds_form h.clocks) 32 h.locations no_bounds a
      (taken 32 h.locations p few.1) e))

  module _ (is : List (Bor (List ℕ))) (b : List ℕ) (lists : got (map (list_by h.clocks) is) b ≡ read_in Lists a)
    where
      whole_lists : got (padded 32 no_bounds (map (list_by h.clocks) is)) b
          ≡ read_in (invariants_form h.clocks h.locations) a
      whole_lists =
          array_gave (bounds_form h.clocks) 32 h.locations no_bounds a (taken 32 h.locations p few.1) lists

      abbrev Edges : Form (List Edge)
      Edges = many (length (take h.edges (replicate 64 (unread p)))) (edge_form h.clocks h.locations)

      pub edges_refused : {e : Refusal} → refused (refusal_number e) ≡ read_in Edges b → ReadsOutline s (Err e)
      unfolding model_form
      edges_refused e =
          outline_refuses (first_gave head_form _ s head ∙ first_gave _ _ a whole_lists
          ∙ first_refused _ _ b (array_refused (edge_form h.clocks h.locations) 64 h.edges no_edge b
          (taken 64 h.edges (unread p) few.2) e))

      module _ (ss : List Standing) (d : List ℕ) (edges : got (map (edge_by h.clocks h.locations) ss) d ≡ read_in Edges b)
        where
          whole_edges : got (padded 64 no_edge (map (edge_by h.clocks h.locations) ss)) d
              ≡ read_in (edges_form h.clocks h.locations h.edges) b
          whole_edges =
              array_gave (edge_form h.clocks h.locations) 64 h.edges no_edge b (taken 64 h.edges (unread p) few.2) edges

          pub goal_refused : {e : Refusal} → refused (refusal_number e) ≡ read_in (goal_form h.clocks h.locations) d
              → ReadsOutline s (Err e)
          unfolding model_form
          goal_refused e =
              outline_refuses (first_gave head_form _ s head ∙ first_gave _ _ a whole_lists ∙ first_gave _ _ b whole_edges
              ∙ first_refused _ _ d e)

          pub target_refused : {e : Refusal} → refused (refusal_number e) ≡ read_in (ask h.locations (λ v. done v)) d
              → ReadsOutline s (Err e)
          unfolding goal_form
          target_refused e = goal_refused (sym (ask_refused h.locations _ d e))

          module _ (g : Goal) (t : List ℕ) (goal : got g t ≡ read_in (goal_form h.clocks h.locations) d) where
            all : read_in model_form s
                ≡ got (assembled h (padded 32 no_bounds (map (list_by h.clocks) is))
                (padded 64 no_edge (map (edge_by h.clocks h.locations) ss)) g) t
            unfolding model_form read_in
            all =
                first_gave head_form _ s head ∙ first_gave _ _ a whole_lists ∙ first_gave _ _ b whole_edges
                ∙ first_gave _ _ d goal

            pub bytes_over : false ≡ (length t == 0) → ReadsOutline s (Err Bytes)
            bytes_over = outline_over all

            pub outline_read : (v : ℕ) (u : Bor (List ℕ)) → got v u.now ≡ read_in (ask h.locations (λ v. done v)) d
                → map (λ (p : Standing). p.source) ss ≡ map (source_at h.clocks h.locations) ss → AreBytes s → true ≡ (length t == 0)
                → ReadsOutline s (Ok (outlined h p is ss u g))
            outline_read v u target from bytes e =
                outline_gives s h p is ss u g few
                (many_placed (bounds_form h.clocks) (list_by h.clocks) _ a is lists ∙ taken 32 h.locations p few.1)
                (many_placed (edge_form h.clocks h.locations) (edge_by h.clocks h.locations) _ b ss edges
                ∙ taken 64 h.edges (unread p) few.2)
                from (goal_list h.clocks h.locations d target goal) bytes all e
