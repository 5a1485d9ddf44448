-- The text for an input: with 14,592 words there is room for 64 states over any number of clocks, and the text is the
-- rule's in that room.
use mathlib.Core.List.{List}
use mathlib.Core.Path.{◌≡◌, refl, sym, ap, ◌∙◌}
use Prim.Native.Nat.{ℕ, ◌≤◌}
use native.Mathlib.Nat.{le-div_iff_mul-le}
use native.Mathlib.Omega.{arith}
use lib.IntN.{ℤ}
use lib.ListN.{length, take}
use Rattle.codec.specs.Arrays.{AreBytes}
use Rattle.runs.specs.Rule.{Ending, ends_reached, ends_never, ends_open, ends_refused, walk_of, answer_of, kept_by, last_path}
use Rattle.model.specs.declared.Model.{Model}
use Rattle.model.specs.Answers.{Said, value, refusal, read_of}
use Rattle.model.specs.Limits.{ModelLimits}
use Rattle.model.specs.Plain.{plain}
use Rattle.model.proofs.Theorems.{read_written_lem, first_many}
use Rattle.area.specs.Area.{record_size, room_of, area_after}
use Rattle.area.proofs.RecordLaws.{size_is, room_many, room_some}
use Rattle.walk.specs.Walks.{ending_of, walked_of, kept_said, path_in}
use Rattle.walk.proofs.Theorems.{big_walk}
use Rattle.walk.proofs.WalkLaws.{ending_path}
use Rattle.printing.specs.Text.{text_of}
use Rattle.answer.specs.Printed.{stops_of, text_for, text_over, report_for, report_of}

-- 14,592 words have room for 64 states, whatever the number of clocks
pub room_full : (n : ℕ) → n ≤ 6 → (area : List ℤ) → 14592 ≤ length area → room_of n area ≡ 64
room_full n h area long = sym (room_many n area (record_size n) refl
    ((le-div_iff_mul-le {k = record_size n} {x = 64} {y = length area} (omega (arith, size_is n))).1
    (omega (arith, size_is n))))

-- the path is read off the area only under REACHED, and there it is the rule's
text_path : (m : Model) → ModelLimits m → (room : ℕ) (area : List ℤ) (o : Ending) → walk_of (plain m) room ≡ o
    → text_of (stops_of (plain m).system (path_in m.clocks (area_after m.clocks o area) (kept_said (answer_of m.depth o))))
    (answer_of m.depth o)
    ≡ text_of (stops_of (plain m).system (last_path (kept_by o))) (answer_of m.depth o)
unfolding text_of answer_of
text_path m limits room area (ends_reached w) e =
    ap (λ (p : List ℕ). text_of (stops_of (plain m).system p) (answer_of m.depth (ends_reached w)))
    (ending_path m limits room area (ends_reached w) e tt)
text_path m limits room area (ends_never w) e = refl
text_path m limits room area (ends_open w) e = refl
text_path m limits room area (ends_refused x) e = refl

-- a model's text in 14,592 words is that of the rule with room 64
model_report : (m : Model) → ModelLimits m → (area : List ℤ) → 14592 ≤ length area
    → text_for (value m) (walked_of (value m) area) ≡ report_for (value m)
model_report m limits area long =
    let room : room_of m.clocks area ≡ 64 = room_full m.clocks limits.numbers.clocks area long in
    let big = room_some m.clocks area (omega (arith, room)) in
    rw (big_walk m area big) (text_path m limits (room_of m.clocks area) area (ending_of m area) refl
    ∙ ap (λ (r : ℕ). text_of (stops_of (plain m).system (last_path (kept_by (walk_of (plain m) r)))) (answer_of m.depth (walk_of (plain m) r))) room)

-- the text in 14,592 words is that for the input
pub report_is : (bytes : List ℕ) → AreBytes bytes → (area : List ℤ) → 14592 ≤ length area
    → text_over bytes area ≡ report_of bytes
unfolding text_over report_of
report_is bytes are area long = by (read_of bytes) refl
  where
    by : (o : Said Model) → read_of bytes ≡ o → text_for o (walked_of o area) ≡ report_for o
    by (value m) e = model_report m (read_written_lem bytes m are e).limits area long
    by (refusal e) q = refl

-- the first bytes of an input have the text of all of it
pub report_first_lem : (s : List ℕ) (k : ℕ) → 33665 ≤ k → report_of (take k s) ≡ report_of s
unfolding report_of
report_first_lem s k h = rw (first_many s k h)
