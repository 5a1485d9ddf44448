use Rattle.std.proofs.Common.{Err, Ok}
-- The contracts of printing: of a model that is walked, and of bytes.
use mathlib.Core.List.{List, [], ◌++◌, append-nil}
use mathlib.Core.Path.{◌≡◌, refl, sym, ap, ◌∙◌, subst}
use Prim.Native.Nat.{ℕ, ◌-◌, ◌≤◌}
use native.Mathlib.Omega.{arith}
use lib.IntN.{ℤ}
use lib.ListN.{length}
use Rattle.numbers.specs.Refusals.{refusal_number}
use Rattle.numbers.specs.declared.Refusal.{Refusal}
use Rattle.numbers.proofs.RefusalLaws.{number_range}
use Rattle.codec.specs.Answers.{Writes, Room}
use Rattle.codec.specs.Arrays.{each, AreBytes}
use Rattle.codec.proofs.WriteLaws.{put_start, wrote_then, room_first, room_next}
use Rattle.runs.specs.Verdicts.{Answer, reached, refused, answer_by}
use Rattle.runs.specs.Verdicts.{Judged}
use Rattle.runs.specs.declared.Verdict.TheVariants.{Reached, Never, Open}
use Rattle.model.specs.declared.Model.{Model}
use Rattle.model.specs.Answers.{Said, value, read_of}
use Rattle.model.specs.Outlines.{ReadsOutline}
use Rattle.model.specs.Limits.{ModelLimits}
use Rattle.model.specs.Plain.{plain}
use Rattle.walk.specs.Walks.{Walked, walked_of, kept_said, path_in, WalksModel}
use Rattle.printing.specs.Text.{Stop, head_of, line_of, lines_of, text_of}
use Rattle.printing.proofs.TextSize.{head_long}
use Rattle.answer.specs.Printed.{stops_of, text_for, text_over, printed_of, Prints}
use Rattle.answer.specs.Shown.{Printable, Lines, PrintsModel}
use Rattle.answer.proofs.Saying.{text_says}
use Rattle.answer.proofs.WalkedText.{ShownBy, Legible, refused_long, walked_legible}

-- ---- a model that is walked
module _ (m : Model) (limits : ModelLimits m) (before : List ℤ) (v : Judged) (after : List ℤ)
    (h : WalksModel m before v after) where
  abbrev n : ℕ
  n = m.clocks

  abbrev stops_by : Answer → List Stop
  stops_by a = stops_of (plain m).system (path_in n after (kept_said a))

  legible : Legible m (record { answer = answer_by v; area = after })
  legible = subst (Legible m) (sym h.rule) (walked_legible m limits before)

  whole : {text : List ℕ} → 397 ≤ length text
      → Room 0 (head_of (answer_by v) ++ lines_of (stops_by (answer_by v)) (answer_by v)) text
  unfolding text_of
  whole r = record { fits = omega (arith, legible.fits) }

  -- there is room for the first line
  pub head_fits : {text : List ℕ} → 397 ≤ length text → Room 0 (head_of (answer_by v)) text
  head_fits r = room_first (head_of (answer_by v)) (lines_of (stops_by (answer_by v)) (answer_by v)) (whole r)

  prints : {text text' : List ℕ} {end : ℕ}
      → Writes text 0 (head_of (answer_by v) ++ lines_of (stops_by (answer_by v)) (answer_by v)) text' end
      → PrintsModel m before text after text' end
  unfolding text_of
  prints {text} {text'} {end} w = record {
    left = ap (λ (x : Walked). x.area) h.rule;
    wrote = subst (λ (x : Walked). Writes text 0 (text_for (value m) x) text' end) h.rule w;
  }

  -- the first line is all, where the answer is not REACHED
  abbrev Alone : Judged → Type 0
  Alone (Ok (Reached d k t)) = ⊥
  Alone (Ok (Never k t)) = Unit {0}
  Alone (Ok (Open d k t)) = Unit {0}
  Alone (Err e) = Unit {0}

  pub prints_head : {text text' : List ℕ} {end : ℕ} {u : Judged} → v ≡ u → Alone u
      → Writes text 0 (head_of (answer_by v)) text' end → PrintsModel m before text after text' end
  prints_head {text} {text'} {end} {u} e a w = prints (subst (λ (b : List ℕ). Writes text 0 b text' end)
      (sym (ap (λ (l : List ℕ). head_of (answer_by v) ++ l) none ∙ append-nil (head_of (answer_by v)))) w)
    where
      alone : (u : Judged) → Alone u → lines_of (stops_by (answer_by v)) (answer_by u) ≡ []
      alone (Ok (Reached d k t)) q = absurd q
      alone (Ok (Never k t)) q = refl
      alone (Ok (Open d k t)) q = refl
      alone (Err e) q = refl

      none : lines_of (stops_by (answer_by v)) (answer_by v) ≡ []
      none = ap (λ (x : Judged). lines_of (stops_by (answer_by v)) (answer_by x)) e ∙ alone u a

  -- REACHED: the lines of the path follow
  module _ {d k t : ℕ} (e : v ≡ Ok (Reached d k t)) where
    shown : ShownBy m after (reached d k t)
    shown = subst (λ (u : Judged). ShownBy m after (answer_by u)) e legible.shown

    -- under REACHED some state was kept
    pub some_kept : 1 ≤ k
    some_kept = shown.0

    lines_are : lines_of (stops_by (answer_by v)) (answer_by v) ≡ each line_of (stops_by (reached d k t))
    lines_are = ap (λ (u : Judged). lines_of (stops_by (answer_by u)) (answer_by u)) e

    module _ {text text' : List ℕ} {at : ℕ} (w : Writes text 0 (head_of (answer_by v)) text' at) where
      -- there is room for the lines to the state kept last
      pub lines_printable : 397 ≤ length text → Printable n after (k - 1) text' at
      lines_printable r = record {
        clocks = limits.numbers.clocks;
        stops = stops_by (reached d k t);
        shows = shown.1;
        room = subst (λ (b : List ℕ). Room at b text') lines_are
            (room_next (head_of (answer_by v)) (lines_of (stops_by (answer_by v)) (answer_by v)) w (whole r));
      }

      -- the first line and those lines are the text
      pub prints_lines : {text'' : List ℕ} {end : ℕ} → Lines n after (k - 1) text' at text'' end
          → PrintsModel m before text after text'' end
      prints_lines {text''} {end} l = prints (wrote_then w (subst (λ (b : List ℕ). Writes text' at b text'' end)
          (sym lines_are) (l.wrote (stops_by (reached d k t)) shown.1)))

-- ---- bytes
pub refused_fits : {text : List ℕ} (e : Refusal) → 397 ≤ length text → Room 0 (head_of (answer_by (Err e))) text
refused_fits e r = record { fits = omega (arith, head_long (refused (refusal_number e)) (number_range e).1) }

module _ (bytes : List ℕ) (are : AreBytes bytes) (area : List ℤ) (text : List ℕ) where
  -- what is said, by what was read
  prints_said : {o : Said Model} {area' : List ℤ} {text' : List ℕ} {end : ℕ} → 397 ≤ length text → read_of bytes ≡ o
      → length (text_for o (walked_of o area)) ≤ 397 → area' ≡ (walked_of o area).area
      → Writes text 0 (text_for o (walked_of o area)) text' end → Prints bytes area text end area' text'
  unfolding printed_of text_over
  prints_said {o} {end = end} r e f a w =
      let said : end ≡ length (text_for o (walked_of o area)) = omega (arith, w.ends) in
      let stored = w.stored ∙ put_start (text_for o (walked_of o area)) text (omega arith) in
      record { is = rw (e, a, said, stored); means = text_says bytes are area }

  -- the bytes are refused
  pub prints_unread : (e : Refusal) {text' : List ℕ} {end : ℕ} → 397 ≤ length text → ReadsOutline bytes (Err e)
      → Writes text 0 (head_of (answer_by (Err e))) text' end → Prints bytes area text end area text'
  unfolding walked_of text_of
  prints_unread e {text' = text'} {end = end} r s w =
      prints_said r (sym s.said) (refused_long [] (refusal_number e) (number_range e).1) refl
      (subst (λ (b : List ℕ). Writes text 0 b text' end) (sym (append-nil (head_of (refused (refusal_number e))))) w)

  -- the bytes are those of a model
  pub prints_read : {m : Model} {area' : List ℤ} {text' : List ℕ} {end : ℕ} → 397 ≤ length text → read_of bytes ≡ value m
      → ModelLimits m → PrintsModel m area text area' text' end → Prints bytes area text end area' text'
  prints_read {m} r e l p = prints_said r e (walked_legible m l area).fits p.left p.wrote
