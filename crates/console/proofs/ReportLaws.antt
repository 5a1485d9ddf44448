-- The program's text is that of the whole input.
use mathlib.Core.List.{List, [], ◌∷◌, ◌++◌}
use mathlib.Core.Path.{◌≡◌, sym, ap, ◌∙◌, subst}
use Prim.Native.Nat.{ℕ, zero, suc, ◌≤◌}
use native.Mathlib.Omega.{arith}
use lib.IntN.{ℤ}
use lib.ListN.{length, take, drop, length-take}
use lib.Seq.{take_all}
use Rattle.codec.specs.Arrays.{AreBytes}
use Rattle.model.specs.Answers.{read_of}
use Rattle.model.proofs.Theorems.{first_many}
use Rattle.answer.specs.Says.{Says}
use Rattle.answer.proofs.Saying.{says_alike}
use Rattle.answer.specs.Printed.{Answered, text_over, report_of, printed_of, Prints}
use Rattle.answer.proofs.Reported.{report_is, report_first_lem}
use Rattle.answer.proofs.Theorems.{text_within}
use Rattle.console.specs.Reports.{Begins, Reported, Reports}

-- the first bytes of bytes
take_bytes : (n : ℕ) (s : List ℕ) → AreBytes s → AreBytes (take n s)
take_bytes zero s h = tt
take_bytes (suc n) [] h = tt
take_bytes (suc n) (b ∷ s) h = (h.0, take_bytes n s h.1)

module _ (buffer : List ℕ) (n : ℕ) (part : List ℕ) (area : List ℤ) (text : List ℕ) (r : ℕ) (area' : List ℤ)
    (text' : List ℕ) where
  -- the text that `answer` prints for the bytes in the buffer is that for every input that it begins
  pub reports : length buffer ≡ 65536 → AreBytes buffer → part ≡ take n buffer → 14592 ≤ length area
      → Prints part area text r area' text' → Reports buffer n text r text'
  unfolding printed_of
  reports long are is big p = record {
    of = λ input begins. record {
      long = ap (λ (x : Answered). x.length) p.is ∙ ap length (same input begins);
      is = ap (λ (x : Answered). x.text) p.is
          ∙ (ap (λ (k : ℕ). text_over part area ++ drop k text) (sym (ap (λ (x : Answered). x.length) p.is))
          ∙ ap (λ (l : List ℕ). l ++ drop r text) (same input begins));
      means = subst (Says input) (same input begins) (says_alike (text_over part area) (alike input begins) p.means);
    };
    within = text_within part area text r area' text' p;
  }
    where
      alike : (input : List ℕ) → Begins buffer n input → read_of part ≡ read_of input
      alike input begins = ap read_of (is ∙ begins) ∙ first_many input (length buffer) (omega (arith, long))

      same : (input : List ℕ) → Begins buffer n input → text_over part area ≡ report_of input
      same input begins = report_is part (subst AreBytes (sym is) (take_bytes n buffer are)) area big ∙ (ap report_of (is ∙ begins)
          ∙ report_first_lem input (length buffer) (omega (arith, long)))

-- two texts that the contract allows, and their lengths, are equal
pub report_settled : (buffer : List ℕ) (n : ℕ) (text : List ℕ) (r q : ℕ) (text' text'' : List ℕ)
    → Reports buffer n text r text' → Reports buffer n text q text'' → (r ≡ q) × (text' ≡ text'')
report_settled buffer n text r q text' text'' v w = (
  many,
  x.is ∙ (ap (λ (k : ℕ). report_of (take n buffer) ++ drop k text) many
      ∙ sym y.is),
)
  where
    begins : Begins buffer n (take n buffer)
    begins = sym (take_all (length buffer) (take n buffer) (omega (arith, length-take n buffer)))

    x : Reported (take n buffer) text r text'
    x = v.of (take n buffer) begins

    y : Reported (take n buffer) text q text''
    y = w.of (take n buffer) begins

    many : r ≡ q
    many = x.long ∙ sym y.long
