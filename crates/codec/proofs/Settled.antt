-- The contracts of the codec settle its answers.
use mathlib.Core.List.{List}
use mathlib.Core.Path.{◌≡◌, sym, ◌∙◌}
use Prim.Native.Nat.{ℕ}
use native.Mathlib.Omega.{arith}
use Rattle.std.specs.Prelude.{Ok, Err}
use Rattle.numbers.proofs.RefusalLaws.{number_inj}
use Rattle.codec.specs.Number.{Got, got, refused}
use Rattle.codec.specs.Answers.{Reading, reading_said, Writes}
use Rattle.codec.proofs.FormTrip.{same_got}

same_number : {A : Type 0} {a b : ℕ} → ◌≡◌ {A = Got A} (refused a) (refused b) → a ≡ b
same_number q = cc

apart : {A : Type 0} {a : A} {s : List ℕ} {n : ℕ} → ◌≡◌ {A = Got A} (got a s) (refused n) → ⊥
apart q = let z : ◌≡◌ {A = ℕ} 0 1 = cc in omega arith

-- two answers say the same: the same refusal, or the same value and the same bytes left
abbrev pub SameReading : {A : Type 0} → Reading A → Reading A → Type 0
SameReading (Ok a) (Ok b) = (a.0 ≡ b.0) × (a.1.now ≡ b.1.now)
SameReading (Err e) (Err f) = e ≡ f
SameReading (Ok a) (Err f) = ⊥
SameReading (Err e) (Ok b) = ⊥

-- two answers to one reading say the same
pub reads_settled : {A : Type 0} (g : Got A) (p q : Reading A) → reading_said p ≡ g → reading_said q ≡ g
    → SameReading p q
reads_settled g (Ok a) (Ok b) v w = same_got (v ∙ sym w)
reads_settled g (Err e) (Err f) v w = number_inj e f (same_number (v ∙ sym w))
reads_settled g (Ok a) (Err f) v w = absurd (apart (v ∙ sym w))
reads_settled g (Err e) (Ok b) v w = absurd (apart (w ∙ sym v))

-- and so do two answers to reading a number
pub number_settled : (g : Got ℕ) (p q : Reading ℕ) → reading_said p ≡ g → reading_said q ≡ g → SameReading p q
number_settled = reads_settled

-- two answers to writing, and the areas after them, are equal
pub writes_settled : (before : List ℕ) (at : ℕ) (bytes after last : List ℕ) (end stop : ℕ)
    → Writes before at bytes after end → Writes before at bytes last stop → (end ≡ stop) × (after ≡ last)
writes_settled before at bytes after last end stop v w = (v.ends ∙ sym w.ends, v.stored ∙ sym w.stored)
