-- What the walk's contract settles: the verdict and every word, stability at more depth and room, and the counts.
use Rattle.std.proofs.Common.{Err, Ok}
use mathlib.Core.List.{List}
use mathlib.Core.Path.{◌≡◌, refl, sym, ap, ◌∙◌, subst}
use Prim.Native.Nat.{ℕ, ◌*◌, ◌≤◌, ◌<◌}
use native.Mathlib.Decide.{dec_lt}
use native.Mathlib.Omega.{arith}
use lib.IntN.{ℤ}
use lib.ListN.{length, take}
use borrow.Author.Tests.{lt-ltb, le-ltb}
use Rattle.numbers.specs.Refusals.{refusal_number}
use Rattle.numbers.specs.declared.Refusal.TheVariants.{Shape}
use Rattle.codec.specs.Arrays.{AreBytes}
use Rattle.runs.specs.Closure.{Closed}
use Rattle.runs.specs.Rule.{State, Ending, ends_reached, ends_never, ends_open, ends_refused, kept_by, last_path, walk_of, answer_of}
use Rattle.runs.specs.Verdicts.{Answer, reached, never, open_to, refused, answer_by, Means}
use Rattle.runs.specs.Verdicts.{Judged}
use Rattle.runs.specs.declared.Verdict.TheVariants.{Reached, Never, Open}
use Rattle.runs.proofs.Counts.{EndsOrderly, walk_orderly}
use Rattle.runs.proofs.Covering.{closed_alike}
use Rattle.runs.proofs.Meaning.{walk_sound, walk_closed}
use Rattle.runs.proofs.Settled.{verdict_settled}
use Rattle.runs.proofs.Stable.{Final, models_stable}
use Rattle.model.specs.declared.Model.{Model}
use Rattle.model.specs.Answers.{value, read_of}
use Rattle.model.specs.Plain.{plain}
use Rattle.model.specs.Limits.{ModelLimits}
use Rattle.model.proofs.PlainLimits.{edges_many, model_plain}
use Rattle.model.proofs.Theorems.{read_written_lem, first_many}
use Rattle.area.specs.Area.{record_size, room_of, area_after}
use Rattle.area.specs.Records.{state_in}
use Rattle.area.proofs.HoldingLaws.{AllWhole, holding_state}
use Rattle.area.proofs.RecordLaws.{room_one, room_some}
use Rattle.walk.specs.Walks.{Walked, ending_of, walked_of, path_in, kept_said, with_depth, WalksModel, Walks}
use Rattle.walk.proofs.WalkLaws.{ending_path, shown_means}

-- ---- settled
answers : {a b : Walked} → a ≡ b → a.answer ≡ b.answer
answers e = ap (λ w. w.answer) e

areas : {a b : Walked} → a ≡ b → a.area ≡ b.area
areas e = ap (λ w. w.area) e

-- two verdicts and two exit areas that the contract allows are equal
pub walk_settled : (s : List ℕ) (before : List ℤ) (v u : Judged) (after last : List ℤ) → Walks s before v after
    → Walks s before u last → (v ≡ u) × (after ≡ last)
walk_settled s before v u after last a b =
    let e = a.rule ∙ sym b.rule in
    (verdict_settled v u (answers e), areas e)

-- the contract of walking a model settles verdict and area
pub model_settled : (m : Model) (before : List ℤ) (v u : Judged) (after last : List ℤ) → WalksModel m before v after
    → WalksModel m before u last → (v ≡ u) × (after ≡ last)
model_settled m before v u after last a b =
    let e = a.rule ∙ sym b.rule in
    (verdict_settled v u (answers e), areas e)

-- ---- a verdict that is no refusal: the area has a record, and the walk has an ending
-- REACHED or NEVER
abbrev pub Certain : Judged → Type 0
Certain (Ok (Reached d k t)) = Unit {0}
Certain (Ok (Never k t)) = Unit {0}
Certain (Ok (Open d k t)) = ⊥
Certain (Err e) = ⊥

module _ (m : Model) (before : List ℤ) where
  abbrev n : ℕ
  n = m.clocks

  -- an area with a record is walked over
  pub big_walk : record_size n ≤ length before → walked_of (value m) before
      ≡ record { answer = answer_of m.depth (ending_of m before); area = area_after n (ending_of m before) before }
  unfolding walked_of
  big_walk h = rw (le-ltb (length before) (record_size n) h)

  -- an area under one record is refused
  pub small_walk : length before < record_size n → walked_of (value m) before
      ≡ record { answer = refused (refusal_number Shape); area = before }
  unfolding walked_of
  small_walk h = rw (lt-ltb (length before) (record_size n) h)

  module _ (s : List ℕ) (read : read_of s ≡ value m) (v : Judged) (after : List ℤ) (w : Walks s before v after) where
    told : record { answer = answer_by v; area = after } ≡ walked_of (value m) before
    told = w.rule ∙ ap (λ r. walked_of r before) read

    certain_big : Certain v → record_size n ≤ length before
    certain_big c = by (dec_lt (length before) (record_size n))
      where
        none : (v : Judged) → Certain v → answer_by v ≡ refused (refusal_number Shape) → ⊥
        none (Ok (Reached d k t)) c e = let z : ◌≡◌ {A = ℕ} 0 1 = cc in omega arith
        none (Ok (Never k t)) c e = let z : ◌≡◌ {A = ℕ} 0 1 = cc in omega arith
        none (Ok (Open d k t)) c e = c
        none (Err x) c e = c

        by : Dec (length before < record_size n) → record_size n ≤ length before
        by (yes h) = absurd (none v c (answers (told ∙ small_walk h)))
        by (no h) = omega (arith, h)

    ended : record_size n ≤ length before → answer_by v ≡ answer_of m.depth (ending_of m before)
    ended h = answers (told ∙ big_walk h)

    left : record_size n ≤ length before → after ≡ area_after n (ending_of m before) before
    left h = areas (told ∙ big_walk h)

    final : record_size n ≤ length before → Certain v → Final (ending_of m before)
    unfolding answer_of
    final h c = by v c (ending_of m before) (ended h)
      where
        by : (v : Judged) → Certain v → (o : Ending) → answer_by v ≡ answer_of m.depth o → Final o
        by v c (ends_reached w) e = tt
        by v c (ends_never w) e = tt
        by (Ok (Reached d k t)) c (ends_open w) e = let z : ◌≡◌ {A = ℕ} 0 1 = cc in omega arith
        by (Ok (Never k t)) c (ends_open w) e = let z : ◌≡◌ {A = ℕ} 0 1 = cc in omega arith
        by (Ok (Open d k t)) c (ends_open w) e = c
        by (Err x) c (ends_open w) e = c
        by (Ok (Reached d k t)) c (ends_refused f) e = let z : ◌≡◌ {A = ℕ} 0 1 = cc in omega arith
        by (Ok (Never k t)) c (ends_refused f) e = let z : ◌≡◌ {A = ℕ} 0 1 = cc in omega arith
        by (Ok (Open d k t)) c (ends_refused f) e = c
        by (Err x) c (ends_refused f) e = c

-- ---- the rule meets the contract
-- what the rule's answer says of runs, with the path that its area shows
pub walked_means : (m : Model) → ModelLimits m → (before : List ℤ)
    → Means (plain m).system (path_in m.clocks (walked_of (value m) before).area (kept_said (walked_of (value m) before).answer))
    (walked_of (value m) before).answer
walked_means m h before = by (dec_lt (length before) (record_size m.clocks))
  where
    Meant : Walked → Type 0
    Meant w = Means (plain m).system (path_in m.clocks w.area (kept_said w.answer)) w.answer

    by : Dec (length before < record_size m.clocks) → Meant (walked_of (value m) before)
    by (yes l) = subst Meant (sym (small_walk m before l)) tt
    by (no l) = subst Meant (sym (big_walk m before (omega (arith, l))))
        (shown_means m h (room_of m.clocks before) before (ending_of m before) refl)

-- an answer and an area that are the rule's meet the contract
pub walk_meets : (s : List ℕ) → AreBytes s → (before : List ℤ) (v : Judged) (after : List ℤ)
    → record { answer = answer_by v; area = after } ≡ walked_of (read_of s) before → Walks s before v after
walk_meets s bytes before v after rule = record {
  rule = rule;
  means = λ m read. subst (Meant m) (sym (at m read)) (walked_means m (read_written_lem s m bytes read).limits before);
}
  where
    at : (m : Model) → read_of s ≡ value m → record { answer = answer_by v; area = after } ≡ walked_of (value m) before
    at m read = rule ∙ ap (λ r. walked_of r before) read

    Meant : Model → Walked → Type 0
    Meant m w = Means (plain m).system (path_in m.clocks w.area (kept_said w.answer)) w.answer

-- ---- stable
-- two calls whose models differ only in the depth, d ≤ d', and whose areas have room r ≤ r': where the first answers
-- REACHED or NEVER, the second gives the same verdict with the same counts, and its area shows the same edges
pub walk_stable : (s s' : List ℕ) (m : Model) (depth : ℕ) → AreBytes s → AreBytes s' → read_of s ≡ value m
    → read_of s' ≡ value (with_depth m depth) → m.depth ≤ depth
    → (before before' : List ℤ) → room_of m.clocks before ≤ room_of m.clocks before'
    → (v v' : Judged) (after after' : List ℤ) → Walks s before v after → Walks s' before' v' after' → Certain v
    → (v' ≡ v)
    × (path_in m.clocks after' (kept_said (answer_by v')) ≡ path_in m.clocks after (kept_said (answer_by v)))
walk_stable s s' m depth bytes bytes' read read' d before before' room v v' after after' w w' c =
    (verdict_settled v' v answer, shown' ∙ sym shown)
  where
    n : ℕ
    n = m.clocks

    m' : Model
    m' = with_depth m depth

    big : record_size n ≤ length before
    big = certain_big m before s read v after w c

    big' : record_size n ≤ length before'
    big' = room_some n before' (omega (arith, room, room_one n before big))

    certain : Final (ending_of m before)
    certain = final m before s read v after w big c

    same : ending_of m' before' ≡ ending_of m before
    same = (models_stable (plain m) (plain m') (room_of n before) (room_of n before') refl d room certain).0

    answer : answer_by v' ≡ answer_by v
    answer = ended m' before' s' read' v' after' w' big'
        ∙ ((models_stable (plain m) (plain m') (room_of n before) (room_of n before') refl d room certain).1
        ∙ sym (ended m before s read v after w big))

    shown : path_in n after (kept_said (answer_by v)) ≡ last_path (kept_by (ending_of m before))
    shown = rw (left m before s read v after w big, ended m before s read v after w big)
        (ending_path m (read_written_lem s m bytes read).limits (room_of n before) before (ending_of m before) refl certain)

    shown' : path_in n after' (kept_said (answer_by v')) ≡ last_path (kept_by (ending_of m before))
    shown' = rw (left m' before' s' read' v' after' w' big', ended m' before' s' read' v' after' w' big')
        (ending_path m' (read_written_lem s' m' bytes' read').limits (room_of n before') before' (ending_of m' before') refl (subst Final (sym same) certain)
        ∙ ap (λ (o : Ending). last_path (kept_by o)) same)

-- ---- the counts
-- how many candidates an answer says were formed
abbrev pub tried_said : Answer → ℕ
tried_said (reached edges kept tried) = tried
tried_said (never kept tried) = tried
tried_said (open_to depth kept tried) = tried
tried_said (refused number) = 0

-- tried is at most kept times the edges
pub walk_counts : (s : List ℕ) (m : Model) → AreBytes s → read_of s ≡ value m → (before : List ℤ) (v : Judged)
    (after : List ℤ) → Walks s before v after → tried_said (answer_by v) ≤ kept_said (answer_by v) * m.edges
unfolding answer_of walk_of
walk_counts s m bytes read before v after w = by (dec_lt (length before) (record_size m.clocks))
  where
    many : length (plain m).system.edges ≡ m.edges
    many = edges_many m (read_written_lem s m bytes read).limits

    Counted : Answer → Type 0
    Counted a = tried_said a ≤ kept_said a * m.edges

    orderly : (o : Ending) → EndsOrderly (plain m).system (room_of m.clocks before) o → Counted (answer_of m.depth o)
    orderly (ends_reached w) h = subst (λ (k : ℕ). w.tried ≤ length w.kept * k) many h.tried
    orderly (ends_never w) h = subst (λ (k : ℕ). w.tried ≤ length w.kept * k) many h.tried
    orderly (ends_open w) h = subst (λ (k : ℕ). w.tried ≤ length w.kept * k) many h.tried
    orderly (ends_refused e) h = omega arith

    by : Dec (length before < record_size m.clocks) → Counted (answer_by v)
    by (yes h) = subst Counted (sym (answers (told m before s read v after w ∙ small_walk m before h))) (omega arith)
    by (no h) = subst Counted (sym (ended m before s read v after w (omega (arith, h))))
        (orderly (ending_of m before) (walk_orderly (plain m).system (room_of m.clocks before) m.depth))

-- ---- a long input
-- the first bytes of an input are walked as all of it
pub walk_first : (s : List ℕ) (k : ℕ) (before : List ℤ) → 33665 ≤ k
    → walked_of (read_of (take k s)) before ≡ walked_of (read_of s) before
walk_first s k before h = ap (λ r. walked_of r before) (first_many s k h)

-- ---- a NEVER's area is closed
-- the states in the area of a walk that ended in NEVER: the start is in them, no candidate leaves them, none meets the
-- target
pub never_closed_lem : (s : List ℕ) (m : Model) → AreBytes s → read_of s ≡ value m → (before : List ℤ) (k t : ℕ)
    (after : List ℤ) → Walks s before (Ok (Never k t)) after
    → Closed (plain m).system k (λ i. (state_in m.clocks after i).location) (λ i. (state_in m.clocks after i).list)
unfolding answer_of area_after
never_closed_lem s m bytes read before k t after w = by (ending_of m before) refl
    (ended m before s read (Ok (Never k t)) after w big) (left m before s read (Ok (Never k t)) after w big)
  where
    n : ℕ
    n = m.clocks

    big : record_size n ≤ length before
    big = certain_big m before s read (Ok (Never k t)) after w tt

    ClosedIn : ℕ → List ℤ → Type 0
    ClosedIn k area = Closed (plain m).system k (λ i. (state_in n area i).location) (λ i. (state_in n area i).list)

    by : (o : Ending) → ending_of m before ≡ o → never k t ≡ answer_of m.depth o → after ≡ area_after n o before
        → ClosedIn k after
    by (ends_never w) e q a =
        let limits = model_plain m (read_written_lem s m bytes read).limits in
        let whole : AllWhole n w.kept
        = subst (λ (o : Ending). AllWhole n (kept_by o)) e (λ i l. (walk_sound (plain m) limits (room_of n before) i l).proper.whole) in
        let many : length w.kept ≡ k = cc in
        subst (λ (j : ℕ). ClosedIn j after) many (subst (ClosedIn (length w.kept)) (sym a)
        (closed_alike (plain m).system (length w.kept) _ _ _ _
        (λ i l. ap (λ (x : State). x.location) (holding_state n w.kept whole before i l))
        (λ i l. ap (λ (x : State). x.list) (holding_state n w.kept whole before i l))
        (walk_closed (plain m) limits (room_of n before) w e)))
    by (ends_reached w) e q a = absurd (let z : ◌≡◌ {A = ℕ} 0 1 = cc in omega arith)
    by (ends_open w) e q a = absurd (let z : ◌≡◌ {A = ℕ} 0 1 = cc in omega arith)
    by (ends_refused x) e q a = absurd (let z : ◌≡◌ {A = ℕ} 0 1 = cc in omega arith)
