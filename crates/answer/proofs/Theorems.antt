-- What holds of printing an answer.
use mathlib.Core.List.{List, [], ◌∷◌, ◌++◌}
use mathlib.Core.Path.{◌≡◌, refl, sym, ap, ◌∙◌}
use Prim.Native.Nat.{ℕ, ◌≤◌}
use native.Mathlib.Omega.{arith}
use lib.IntN.{ℤ}
use lib.ListN.{length, take, drop, length-append}
use Rattle.numbers.specs.Refusals.{refusal_number}
use Rattle.numbers.specs.declared.Refusal.TheVariants.{Bytes}
use Rattle.codec.specs.Arrays.{AreBytes}
use Rattle.codec.specs.Form.{read_in}
use Rattle.codec.specs.Number.{Got, got, refused}
use Rattle.codec.proofs.RefusalNumbers.{Numbered, numbered, form_numbered}
use Rattle.codec.proofs.Settled.{writes_settled}
use Rattle.model.specs.declared.Model.{Model}
use Rattle.model.specs.Answers.{value, wholly, read_of}
use Rattle.model.specs.Models.{model_form}
use Rattle.model.proofs.Theorems.{read_written_lem, first_many}
use Rattle.walk.specs.Walks.{walked_of}
use Rattle.answer.specs.Printed.{text_for, text_over, Answered, printed_of, Prints}
use Rattle.answer.specs.Shown.{Printable, Lines, PrintsModel}
use Rattle.answer.proofs.WalkedText.{refused_long, walked_legible}

-- the text of every walk over bytes takes at most 397 bytes
pub text_fits : (bytes : List ℕ) → AreBytes bytes → (area : List ℤ) → length (text_over bytes area) ≤ 397
unfolding text_over read_of
text_fits bytes are area = by (read_in model_form bytes) (form_numbered model_form bytes)
    (λ m e. (walked_legible m (read_written_lem bytes m are e).limits area).fits)
  where
    by : (g : Got Model) → Numbered g
        → ((m : Model) → wholly g ≡ value m → length (text_for (value m) (walked_of (value m) area)) ≤ 397)
        → length (text_for (wholly g) (walked_of (wholly g) area)) ≤ 397
    by (got m []) h f = f m refl
    by (got m (b ∷ s)) h f = refused_long [] (refusal_number Bytes) (omega arith)
    by (refused e) (numbered h) f = refused_long [] e h

-- the text that was written lies in its area
pub text_within : (bytes : List ℕ) (area : List ℤ) (text : List ℕ) (r : ℕ) (area' : List ℤ) (text' : List ℕ)
    → Prints bytes area text r area' text' → r ≤ length text'
unfolding printed_of
text_within bytes area text r area' text' v =
    let answer = text_over bytes area in
    let c : r ≡ length answer = ap (λ (x : Answered). x.length) v.is in
    let t : length text' ≡ length (answer ++ drop (length answer) text) = ap (λ (x : Answered). length x.text) v.is in
    omega (arith, c, t, length-append answer (drop (length answer) text))

-- ---- the contracts settle the answers
-- two answers to the same bytes and areas, and both areas after them, are equal
pub answer_settled : (bytes : List ℕ) (area : List ℤ) (text : List ℕ) (r q : ℕ) (after last : List ℤ)
    (text' text'' : List ℕ) → Prints bytes area text r after text' → Prints bytes area text q last text''
    → (r ≡ q) × (after ≡ last) × (text' ≡ text'')
answer_settled bytes area text r q after last text' text'' v w =
    let e = v.is ∙ sym w.is in (
      ap (λ (x : Answered). x.length) e,
      ap (λ (x : Answered). x.area) e,
      ap (λ (x : Answered). x.text) e,
    )

-- so are two of the lines, where there are stops, and two of a model
pub lines_settled : (n : ℕ) (area : List ℤ) (i : ℕ) (text : List ℕ) (at : ℕ) (text' text'' : List ℕ) (end stop : ℕ)
    → Printable n area i text at → Lines n area i text at text' end → Lines n area i text at text'' stop
    → (end ≡ stop) × (text' ≡ text'')
lines_settled n area i text at text' text'' end stop h v w =
    writes_settled text at _ text' text'' end stop (v.wrote h.stops h.shows) (w.wrote h.stops h.shows)

-- the contract of printing a model's answer settles text and areas
pub model_settled : (m : Model) (area : List ℤ) (text : List ℕ) (after last : List ℤ) (text' text'' : List ℕ)
    (end stop : ℕ) → PrintsModel m area text after text' end → PrintsModel m area text last text'' stop
    → (end ≡ stop) × (after ≡ last) × (text' ≡ text'')
model_settled m area text after last text' text'' end stop v w =
    let both = writes_settled text 0 _ text' text'' end stop v.wrote w.wrote in
    (both.0, v.left ∙ sym w.left, both.1)

-- ---- a long input
-- the first bytes of an input are answered as all of it
pub answer_first : (s : List ℕ) (k : ℕ) (area : List ℤ) (text : List ℕ) → 33665 ≤ k
    → printed_of (take k s) area text ≡ printed_of s area text
unfolding printed_of text_over
answer_first s k area text h = rw (first_many s k h)
