-- Words of an area that holds the records of kept states.
use mathlib.Core.List.{List, [], ◌∷◌, ◌++◌, append_assoc}
use mathlib.Core.Path.{◌≡◌, sym, ap, ◌∙◌}
use Prim.Native.Nat.{ℕ, zero, suc, ◌+◌, ◌*◌, ◌≤◌, ◌<◌}
use native.Mathlib.Nat.{suc-mul, zero-mul}
use native.Mathlib.Omega.{arith}
use lib.IntN.{ℤ, pos}
use lib.ListN.{length, get_or, take, drop, length-append, length-drop}
use lib.Seq.{get_or-drop, drop-append-add, take_at}
use Rattle.sets.specs.Limits.{Whole}
use Rattle.runs.specs.Rule.{State, state_at}
use Rattle.area.specs.Area.{record_size, record_of, records_of, holding}
use Rattle.area.specs.Records.{record_at, state_of, state_in}
use Rattle.area.proofs.RecordLaws.{size_is, record_size_lem, state_back}

-- every kept list is of whole vectors
abbrev pub AllWhole : ℕ → List State → Type 0
AllWhole n kept = (i : ℕ) → i < length kept → Whole n (state_at kept i).list

-- from record i on
records_from : (n : ℕ) (kept : List State) → AllWhole n kept → (rest : List ℤ) (i : ℕ) → i < length kept
    → (more : List ℤ) × (drop (i * record_size n) (records_of n kept ++ rest) ≡ record_of n (state_at kept i) ++ more)
unfolding records_of
records_from n [] w rest i h = absurd (omega arith)
records_from n (s ∷ kept) w rest zero h =
    (records_of n kept ++ rest, rw (zero-mul (record_size n)) (append_assoc (record_of n s) (records_of n kept) rest))
records_from n (s ∷ kept) w rest (suc i) h =
    let (more, e) = records_from n kept (λ j l. w (suc j) (omega arith)) rest i (omega arith) in
    let q : suc i * record_size n ≡ length (record_of n s) + i * record_size n
    = omega (arith, suc-mul i (record_size n), record_size_lem n s (w 0 (omega arith))) in (
      more,
      ap (λ (k : ℕ). drop k ((record_of n s ++ records_of n kept) ++ rest)) q
          ∙ (ap (drop (length (record_of n s) + i * record_size n)) (append_assoc (record_of n s) (records_of n kept) rest)
          ∙ (drop-append-add (record_of n s) (records_of n kept ++ rest) (i * record_size n) ∙ e)),
    )

module _ (n : ℕ) (kept : List State) (whole : AllWhole n kept) (area : List ℤ) (i : ℕ) (inside : i < length kept) where
  -- record i lies in the area
  pub holding_inside : i * record_size n + record_size n ≤ length (holding n kept area)
  unfolding holding
  holding_inside = let (more, e) = records_from n kept whole (drop (length kept * record_size n) area) i inside in
      omega (
        arith,
        ap length e,
        length-drop (i * record_size n) (records_of n kept ++ drop (length kept * record_size n) area),
        length-append (record_of n (state_at kept i)) more,
        record_size_lem n (state_at kept i) (whole i inside),
        size_is n,
      )

  -- the parent and the edge of state i
  pub holding_parent : get_or (holding n kept area) (i * record_size n + 1) (pos 0) ≡ (state_at kept i).parent
  unfolding holding record_of
  holding_parent = let (more, e) = records_from n kept whole (drop (length kept * record_size n) area) i inside in
      sym (get_or-drop (i * record_size n) (holding n kept area) 1 (pos 0)) ∙ ap (λ (l : List ℤ). get_or l 1 (pos 0)) e

  -- word 2 of record i is its edge
  pub holding_edge : get_or (holding n kept area) (i * record_size n + 2) (pos 0) ≡ (state_at kept i).edge
  unfolding holding record_of
  holding_edge = let (more, e) = records_from n kept whole (drop (length kept * record_size n) area) i inside in
      sym (get_or-drop (i * record_size n) (holding n kept area) 2 (pos 0)) ∙ ap (λ (l : List ℤ). get_or l 2 (pos 0)) e

  -- word 0 is its location
  pub holding_location : get_or (holding n kept area) (i * record_size n + 0) (pos 0) ≡ pos (state_at kept i).location
  unfolding holding record_of
  holding_location = let (more, e) = records_from n kept whole (drop (length kept * record_size n) area) i inside in
      sym (get_or-drop (i * record_size n) (holding n kept area) 0 (pos 0)) ∙ ap (λ (l : List ℤ). get_or l 0 (pos 0)) e

  -- the state of record i is read back
  pub holding_state : state_in n (holding n kept area) i ≡ state_at kept i
  unfolding holding record_at
  holding_state = let (more, e) = records_from n kept whole (drop (length kept * record_size n) area) i inside in
      let s = state_at kept i in
      ap (λ (l : List ℤ). state_of n (take (record_size n) l)) e
      ∙ (ap (state_of n) (take_at (record_of n s) more (record_size n) (record_size_lem n s (whole i inside)))
      ∙ state_back n s (whole i inside))
