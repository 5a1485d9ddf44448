-- A model takes at most 33,664 bytes, and reading one looks at no more than 33,665.
use mathlib.Core.List.{List, [], ◌∷◌, ◌++◌, append-nil}
use mathlib.Core.Path.{◌≡◌, sym, ap, ◌∙◌, subst}
use Prim.Native.Nat.{ℕ, ◌^◌, ◌≤◌}
use native.Mathlib.Decide.{dec_le}
use native.Mathlib.Omega.{arith}
use lib.Dec.{eqb}
use lib.ListN.{length, take, drop, take-append-drop}
use lib.Seq.{take_all, length-take-le}
use Rattle.codec.specs.Number.{got}
use Rattle.codec.specs.Form.{read_in}
use Rattle.codec.proofs.FormLaws.{Finds}
use Rattle.codec.proofs.FormSize.{
  Takes,
  gives,
  Any,
  takes_ask,
  takes_either,
  most_bytes,
  most_one,
  takes_more,
  takes_then,
  takes_array,
  takes_length,
  takes_gives,
  Early,
  halts,
  goes,
  early,
}
use Rattle.bounds.specs.Bounds.{no_bounds}
use Rattle.bounds.proofs.BoundSize.{takes_bounds}
use Rattle.model.specs.declared.Model.{Model}
use Rattle.model.specs.declared.reader.Head.{Head}
use Rattle.model.specs.Models.{no_edge, head_form, edge_form, goal_form, model_form}
use Rattle.model.specs.Limits.{ModelLimits}
use Rattle.model.specs.Written.{model_bytes}
use Rattle.model.specs.Answers.{wholly, read_of}
use Rattle.model.proofs.ModelTrip.{few_sets}
use Rattle.model.proofs.WholeTrip.{model_there}

-- the counts of a head
abbrev pub Counts : Head → Type 0
Counts h = (h.clocks ≤ 6) × (h.locations ≤ 32) × (h.edges ≤ 64)

takes_head : Takes Counts 2 4 head_form
unfolding head_form most_bytes
takes_head =
    takes_ask 4 7 3 (omega arith) (omega arith) (λ n hn.
    takes_either (eqb n 0)
    (takes_ask 3 33 2 (omega arith) (omega arith) (λ l hl.
    takes_either (eqb l 0)
    (takes_ask 2 65 1 (omega arith) (omega arith) (λ e he.
    takes_ask 1 l 0 (omega (arith, most_one l (omega arith))) (omega arith) (λ i hi.
    gives (omega arith, omega arith, omega arith)))))))

-- the counts of a head that was found
pub found_head : {s t : List ℕ} {h : Head} → Finds head_form s (got h t) → Counts h
found_head f = takes_gives takes_head f

module _ (n l : ℕ) (few : n ≤ 6) (short : l ≤ 32) where
  takes_edge : Takes Any 2 348 (edge_form n l)
  unfolding edge_form
  takes_edge =
      let one = most_one l (omega arith) in
      takes_ask 348 l 347 (omega (arith, one)) (omega arith) (λ s hs.
      takes_ask 347 l 346 (omega (arith, one)) (omega arith) (λ d hd.
      takes_then {k = _} 1 (omega arith) (takes_bounds n few) (λ g q.
      takes_ask 1 (2 ^ n) 0 (omega (arith, most_one (2 ^ n) (omega (arith, few_sets n few)))) (omega arith) (λ r hr.
      gives tt))))

  takes_goal : Takes Any 1 348 (goal_form n l)
  unfolding goal_form most_bytes
  takes_goal =
      let one = most_one l (omega arith) in
      takes_ask 348 l 347 (omega (arith, one)) (omega arith) (λ t ht.
      takes_then {k = _} 2 (omega arith) (takes_bounds n few) (λ g q.
      takes_ask 2 201 0 (omega arith) (omega arith) (λ d hd.
      gives tt)))

-- a model takes at most 33,664 bytes
pub takes_model : Takes Any 1 33664 model_form
unfolding model_form
takes_model =
    takes_then {k = _} 33660 (omega arith) takes_head (λ h q.
    takes_then {k = _} 22620 (omega arith)
    (takes_more {d = 11040} (omega (arith, q.1))
    (takes_array 32 no_bounds h.locations (takes_bounds h.clocks q.0)))
    (λ is r.
    takes_then {k = _} 348 (omega arith)
    (takes_more {d = 22272} (omega (arith, q.2))
    (takes_array 64 no_edge h.edges (takes_edge h.clocks h.locations q.0 q.1)))
    (λ es r.
    takes_then {k = _} 0 (omega arith) (takes_goal h.clocks h.locations q.0 q.1) (λ g r. gives tt))))

-- a model in limits has at most 33,664 bytes
pub size : (m : Model) → ModelLimits m → length (model_bytes m) ≤ 33664
size m w = omega (arith, takes_length takes_model (subst here (append-nil (model_bytes m)) (model_there m [] w)))
  where
    here : List ℕ → Type 0
    here s = Finds model_form s (got m [])

-- reading the first 33,665 bytes answers as reading all of them
pub first_bytes_lem : (s : List ℕ) → read_of (take 33665 s) ≡ read_of s
unfolding read_of
first_bytes_lem s = by_length (dec_le (length s) 33665)
  where
    Same : List ℕ → List ℕ → Type 0
    Same a b = wholly (read_in model_form a) ≡ wholly (read_in model_form b)

    by_early : (p t : List ℕ) → length p ≡ 33665 → Early Any 33664 model_form p → Same (p ++ []) (p ++ t)
    by_early p t e (halts n f) = ap wholly ((f []).is ∙ sym (f t).is)
    by_early p t e (goes m (b ∷ q) x l f) = ap wholly (f []).is ∙ ap wholly (sym (f t).is)
    by_early p t e (goes m [] x l f) = absurd (omega arith)

    by_length : Dec (length s ≤ 33665) → Same (take 33665 s) s
    by_length (yes l) = ap (λ (q : List ℕ). wholly (read_in model_form q)) (take_all 33665 s l)
    by_length (no l) =
        let p = take 33665 s in
        let long : length p ≡ 33665 = length-take-le 33665 s (omega arith) in
        subst (λ (q : List ℕ). Same q s) (append-nil p)
        (subst (λ (q : List ℕ). Same (p ++ []) q) (take-append-drop 33665 s)
        (by_early p (drop 33665 s) long (early takes_model p (omega (arith, long)))))
