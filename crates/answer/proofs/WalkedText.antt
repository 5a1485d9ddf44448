-- The text of a walk: it fits 397 bytes, and under REACHED the records show the stops of its lines.
use mathlib.Core.List.{List, []}
use mathlib.Core.Path.{◌≡◌, sym, ap, ◌∙◌, subst}
use Prim.Native.Nat.{ℕ, ◌-◌, ◌≤◌}
use native.Mathlib.Nat.{mul-le-mul_right}
use native.Mathlib.Omega.{arith}
use lib.Dec.{ltb}
use lib.IntN.{ℤ}
use lib.ListN.{length, length-map}
use Rattle.numbers.specs.Refusals.{refusal_number}
use Rattle.numbers.specs.declared.Refusal.{Refusal}
use Rattle.numbers.specs.declared.Refusal.TheVariants.{Shape}
use Rattle.numbers.proofs.RefusalLaws.{number_range}
use Rattle.runs.specs.Models.{System}
use Rattle.runs.specs.Rule.{Ending, ends_reached, ends_never, ends_open, ends_refused, Walk, last_path, kept_by}
use Rattle.runs.specs.Rule.{walk_of, answer_of}
use Rattle.runs.specs.Verdicts.{Answer, reached, never, open_to, refused}
use Rattle.runs.proofs.Counts.{Orderly, EndsOrderly, walk_orderly}
use Rattle.runs.proofs.Located.{Arrived, EndsLocated, walk_located}
use Rattle.runs.proofs.Loops.{cond_case}
use Rattle.runs.proofs.Meaning.{walk_sound}
use Rattle.model.specs.declared.Model.{Model}
use Rattle.model.specs.Answers.{value}
use Rattle.model.specs.Limits.{ModelLimits}
use Rattle.model.specs.Plain.{plain}
use Rattle.model.proofs.PlainLimits.{model_plain}
use Rattle.area.specs.Area.{record_size, holding, room_of, area_after}
use Rattle.area.proofs.HoldingLaws.{AllWhole}
use Rattle.area.proofs.RecordLaws.{room_cap}
use Rattle.walk.specs.Walks.{Walked, ending_of, walked_of, path_in}
use Rattle.walk.proofs.Trails.{path_shown}
use Rattle.printing.specs.Text.{Stop, text_of}
use Rattle.printing.proofs.TextSize.{text_long}
use Rattle.answer.specs.Printed.{stops_of, text_for}
use Rattle.answer.specs.Shown.{Shows}
use Rattle.answer.proofs.ShownStops.{shows_few, shows_limits, shows_path}

-- under REACHED a state is kept, and its record shows the stops of the path
abbrev pub ShownBy : Model → List ℤ → Answer → Type 0
ShownBy m area (reached edges kept tried) = (1 ≤ kept)
    × Shows m.clocks area (kept - 1) (stops_of (plain m).system (path_in m.clocks area kept))
ShownBy m area (never kept tried) = Unit {0}
ShownBy m area (open_to depth kept tried) = Unit {0}
ShownBy m area (refused number) = Unit {0}

-- a walk's text fits, and its records show the stops
pub record Legible (m : Model) (w : Walked) : Type 0 where
  pub fits : length (text_for (value m) w) ≤ 397
  pub shown : ShownBy m w.area w.answer

-- REFUSED has one line
pub refused_long : (stops : List Stop) (number : ℕ) → number ≤ 8 → length (text_of stops (refused number)) ≤ 397
unfolding text_of
refused_long stops number h = text_long [] (refused number) (omega arith) tt h

module _ (m : Model) (limits : ModelLimits m) (before : List ℤ) where
  abbrev n : ℕ
  n = m.clocks

  abbrev S : System
  S = (plain m).system

  -- the counts of an orderly walk
  few_kept : {w : Walk} → Orderly S (room_of n before) w → length w.kept ≤ 64
  few_kept q = omega (arith, q.fits, room_cap n before)

  few_tried : {w : Walk} → Orderly S (room_of n before) w → w.tried ≤ 4096
  few_tried {w} q =
      let most = mul-le-mul_right (length S.edges) (few_kept q) in
      omega (arith, q.tried, most, (model_plain m limits).system.few_edges)

  refused_legible : (e : Refusal) (area : List ℤ) → Legible m (record { answer = refused (refusal_number e); area = area })
  refused_legible e area = record {
    fits = refused_long _ (refusal_number e) (number_range e).1;
    shown = tt;
  }

  reached_legible : (w : Walk) → Orderly S (room_of n before) w → Arrived S w → AllWhole n w.kept
      → Legible m (record {
        answer = reached (length (last_path w.kept)) (length w.kept) w.tried;
        area = holding n w.kept before;
      })
  reached_legible w q a u = record {
    fits = text_long (stops_of S path) _ (omega (arith, few)) (shows_limits shows)
        (omega (arith, few, many), few_kept q, few_tried q);
    shown = (a.some, shows);
  }
    where
      path : List ℕ
      path = path_in n (holding n w.kept before) (length w.kept)

      is : path ≡ last_path w.kept
      is = path_shown n w.kept q.linked u before

      shows : Shows n (holding n w.kept before) (length w.kept - 1) (stops_of S path)
      shows = subst (λ (p : List ℕ). Shows n (holding n w.kept before) (length w.kept - 1) (stops_of S p)) (sym is)
          (unfold last_path in shows_path S (model_plain m limits).system n w.kept q.linked a.located u before
          (length w.kept) (length w.kept - 1) (omega (arith, a.some)) (omega (arith, a.some)))

      few : length (stops_of S path) ≤ 63
      few = omega (arith, shows_few shows, few_kept q)

      many : length (stops_of S path) ≡ length (last_path w.kept)
      many = length-map path _ ∙ ap length is

  ending_legible : (o : Ending) → EndsOrderly S (room_of n before) o → EndsLocated S o → AllWhole n (kept_by o)
      → Legible m (record { answer = answer_of m.depth o; area = area_after n o before })
  unfolding answer_of area_after
  ending_legible (ends_reached w) q a u = reached_legible w q a u
  ending_legible (ends_never w) q a u = record {
    fits = unfold text_of in text_long [] (never _ _) (omega arith) tt (few_kept q, few_tried q);
    shown = tt;
  }
  ending_legible (ends_open w) q a u = record {
    fits = unfold text_of in text_long [] (open_to _ _ _) (omega arith) tt (limits.numbers.depth, few_kept q, few_tried q);
    shown = tt;
  }
  ending_legible (ends_refused e) q a u = refused_legible e _

  -- so it is with the rule's walk
  pub walked_legible : Legible m (walked_of (value m) before)
  unfolding walked_of walk_of
  walked_legible = cond_case (Legible m) (ltb (length before) (record_size n)) (λ e. refused_legible Shape before)
      (λ e. ending_legible (ending_of m before) (walk_orderly S (room_of n before) m.depth)
      (walk_located S (room_of n before) m.depth)
      (λ i l. (walk_sound (plain m) (model_plain m limits) (room_of n before) i l).proper.whole))
