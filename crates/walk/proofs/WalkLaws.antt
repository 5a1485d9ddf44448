-- The contract of the walk, from the rule's ending.
use Rattle.std.proofs.Common.{Err, Ok}
use mathlib.Core.List.{List}
use mathlib.Core.Path.{◌≡◌, refl, sym, ap, ◌∙◌, subst}
use Prim.Native.Nat.{ℕ, ◌≤◌, ◌<◌}
use native.Mathlib.Omega.{arith}
use lib.IntN.{ℤ, pos}
use lib.ListN.{length, replicate}
use borrow.Author.Tests.{lt-ltb, le-ltb}
use mathlib.Core.Bool.{true, false}
use Rattle.std.specs.Result.{is_err}
use Rattle.std.proofs.lemmas.Bool.{false≢true}
use Rattle.numbers.specs.declared.Refusal.{Refusal}
use Rattle.numbers.specs.declared.Refusal.TheVariants.{Shape}
use Rattle.runs.specs.Models.{System}
use Rattle.runs.specs.Rule.{Ending, ends_reached, ends_never, ends_open, ends_refused}
use Rattle.runs.specs.Rule.{last_path, kept_by, walk_of, answer_of}
use Rattle.runs.specs.Verdicts.{answer_by, SaysReached, Means}
use Rattle.runs.specs.Verdicts.{Judged}
use Rattle.runs.specs.declared.Verdict.{Verdict}
use Rattle.runs.proofs.Stable.{Final}
use Rattle.runs.proofs.Settled.{verdict_settled}
use Rattle.runs.proofs.Counts.{EndsOrderly, walk_orderly}
use Rattle.runs.proofs.Meaning.{walk_means, walk_sound}
use Rattle.model.specs.declared.Model.{Model}
use Rattle.model.specs.Limits.{ModelLimits}
use Rattle.model.specs.Answers.{Said, value, refusal, read_of}
use Rattle.model.specs.Outlines.{ReadsOutline}
use Rattle.model.specs.Plain.{plain}
use Rattle.model.proofs.PlainLimits.{model_plain}
use Rattle.area.specs.Area.{record_size, room_of, area_after}
use Rattle.area.proofs.RecordLaws.{room_cap, room_fits}
use Rattle.area.proofs.HoldingLaws.{AllWhole}
use Rattle.walk.specs.Control.{tally, Ready, LeftBy, Finds}
use Rattle.walk.specs.Walks.{ending_of, walked_of, path_in, kept_said, WalksModel, Walks}
use Rattle.walk.proofs.Trails.{path_shown}

-- ---- what was read
value_inj : {a b : Model} → ◌≡◌ {A = Said Model} (value a) (value b) → a ≡ b
value_inj e = cc

apart : {a : Model} {e : ℕ} → ◌≡◌ {A = Said Model} (value a) (refusal e) → ⊥
apart q = let z : ◌≡◌ {A = ℕ} 0 1 = cc in omega arith

-- the bytes are refused
pub walks_unread : (s : List ℕ) (before : List ℤ) (e : Refusal) → ReadsOutline s (Err e) → Walks s before (Err e) before
walks_unread s before e r = record {
  rule = unfold walked_of in rw (← r.said);
  means = λ n q. absurd (apart (sym q ∙ sym r.said));
}

-- the bytes are those of a model
pub walks_read : (s : List ℕ) (m : Model) (before : List ℤ) (v : Judged) (after : List ℤ) → read_of s ≡ value m
    → WalksModel m before v after → Walks s before v after
walks_read s m before v after e w = record {
  rule = w.rule ∙ ap (λ r. walked_of r before) (sym e);
  means = λ k q. subst (λ (k : Model). Means (plain k).system (path_in k.clocks after (kept_said (answer_by v)))
      (answer_by v)) (value_inj (sym e ∙ q)) w.means;
}

-- a verdict that is no refusal
pub not_refused : (w : Judged) (v : Verdict) → w ≡ Ok v → (e : Refusal) → ¬ (w ≡ Err e)
not_refused w v p e q =
    let h : ◌≡◌ {A = Judged} (Ok v) (Err e) = sym p ∙ q in
    let c : ◌≡◌ {A = ℕ} 0 1 = cc in omega arith

-- ---- what the model's walk says
module _ (m : Model) (limits : ModelLimits m) where
  abbrev n : ℕ
  n = m.clocks

  abbrev S : System
  S = (plain m).system

  -- the room of the area, and nothing kept yet
  pub ready : (area : List ℤ) (room : ℕ) → room ≡ room_of n area → Ready n room (tally 0 0) area
  ready area room e = record {
    clocks = record { some = limits.numbers.some_clocks; few = limits.numbers.clocks };
    cap = omega (arith, e, room_cap n area);
    fits = rw e (room_fits n area);
    within = omega arith;
    recorded = λ i l. absurd (omega arith);
  }

  -- what is found in that room is what the area's ending says
  pub found_in : {area after : List ℤ} {v : Judged} (room : ℕ) → room ≡ room_of n area
      → Finds n 0 m.depth (walk_of (plain m) room) area v after → Finds n 0 m.depth (ending_of m area) area v after
  found_in {area} {after} {v} room e f =
      subst (λ (r : ℕ). Finds n 0 m.depth (walk_of (plain m) r) area v after) e f

  -- the area is too small
  pub walks_short : (before : List ℤ) → length before < record_size n → WalksModel m before (Err Shape) before
  walks_short before h = record {
    rule = unfold walked_of in rw (lt-ltb (length before) (record_size n) h);
    means = tt;
  }

  module _ (room : ℕ) (area : List ℤ) where
    whole : (o : Ending) → walk_of (plain m) room ≡ o → AllWhole n (kept_by o)
    whole o e i l = subst (λ (o : Ending). AllWhole n (kept_by o)) e
        (λ i l. (walk_sound (plain m) (model_plain m limits) room i l).proper.whole) i l

    -- the path that the area shows is that of the state kept last
    pub ending_path : (o : Ending) → walk_of (plain m) room ≡ o → Final o
        → path_in n (area_after n o area) (kept_said (answer_of m.depth o)) ≡ last_path (kept_by o)
    unfolding answer_of area_after walk_of
    ending_path o e f = by o (whole o e) (subst (EndsOrderly S room) e (walk_orderly S room m.depth)) f
      where
        by : (o : Ending) → AllWhole n (kept_by o) → EndsOrderly S room o → Final o
            → path_in n (area_after n o area) (kept_said (answer_of m.depth o)) ≡ last_path (kept_by o)
        by (ends_reached w) u q f = path_shown n w.kept q.linked u area
        by (ends_never w) u q f = path_shown n w.kept q.linked u area
        by (ends_open w) u q f = absurd f
        by (ends_refused x) u q f = absurd f

    -- the path that the area shows beside the answer
    pub shown_means : (o : Ending) → walk_of (plain m) room ≡ o
        → Means S (path_in n (area_after n o area) (kept_said (answer_of m.depth o))) (answer_of m.depth o)
    unfolding answer_of
    shown_means o e = by o e (subst (λ (o : Ending). Means S (last_path (kept_by o)) (answer_of m.depth o)) e
        (walk_means (plain m) (model_plain m limits) room))
      where
        by : (o : Ending) → walk_of (plain m) room ≡ o → Means S (last_path (kept_by o)) (answer_of m.depth o)
            → Means S (path_in n (area_after n o area) (kept_said (answer_of m.depth o))) (answer_of m.depth o)
        by (ends_reached w) e h = subst (λ (p : List ℕ). SaysReached S p (length (last_path w.kept)))
            (sym (ending_path (ends_reached w) e tt)) h
        by (ends_never w) e h = h
        by (ends_open w) e h = h
        by (ends_refused x) e h = tt

  -- the answer and the area of the ending
  module _ (before : List ℤ) (big : record_size n ≤ length before) where
    abbrev ending : Ending
    ending = ending_of m before

    walks_by : (v : Judged) (after : List ℤ) → answer_by v ≡ answer_of m.depth ending
        → after ≡ area_after n ending before → WalksModel m before v after
    walks_by v after e f = record {
      rule = unfold walked_of in rw (le-ltb (length before) (record_size n) big, e, f);
      means = rw (e, f) (shown_means (room_of n before) before ending refl);
    }

    -- it was not refused
    pub walks_found : (v : Judged) (after : List ℤ) → Finds n 0 m.depth ending before v after → is_err v ≡ false
        → WalksModel m before v after
    unfolding answer_of area_after
    walks_found (Err x) after f h = absurd (false≢true (sym h))
    walks_found (Ok v) after f h = walks_by (Ok v) after f.is (by ending f.is f.left)
      where
        by : (o : Ending) → answer_by (Ok v) ≡ answer_of m.depth o → LeftBy n 0 o before after
            → after ≡ area_after n o before
        by (ends_reached w) e l = l.is
        by (ends_never w) e l = l.is
        by (ends_open w) e l = l.is
        by (ends_refused x) e l = absurd (let z : Ok v ≡ Err x = verdict_settled (Ok v) (Err x) e in
            let u : ◌≡◌ {A = ℕ} 0 1 = cc in omega arith)

    -- it was, and every word is 0
    pub walks_stopped : (v : Judged) (after : List ℤ) → Finds n 0 m.depth ending before v after → is_err v ≡ true
        → (last : List ℤ) → last ≡ replicate (length after) (pos 0) → length after ≡ length before
        → WalksModel m before v last
    unfolding answer_of area_after
    walks_stopped (Ok v) after f h last z long = absurd (false≢true h)
    walks_stopped (Err x) after f h last z long = walks_by (Err x) last f.is
        (z ∙ (ap (λ (k : ℕ). replicate k (pos 0)) long ∙ by ending f.is))
      where
        by : (o : Ending) → answer_by (Err x) ≡ answer_of m.depth o
            → replicate (length before) (pos 0) ≡ area_after n o before
        by (ends_reached w) e = absurd (let z : ◌≡◌ {A = ℕ} 0 1 = cc in omega arith)
        by (ends_never w) e = absurd (let z : ◌≡◌ {A = ℕ} 0 1 = cc in omega arith)
        by (ends_open w) e = absurd (let z : ◌≡◌ {A = ℕ} 0 1 = cc in omega arith)
        by (ends_refused y) e = refl
