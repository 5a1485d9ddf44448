-- What the codec's answers say, as the rules' numbers and values.
use Rattle.std.specs.Prelude.{List, [], ◌∷◌, ◌≡◌, ℕ, ◌+◌, ◌≤◌, length, Result, Ok, Err}
use Rattle.std.specs.Borrow.{Bor}
use Rattle.numbers.specs.Refusals.{refusal_number}
use Rattle.numbers.specs.declared.Refusal.{Refusal}
use Rattle.codec.specs.Form.{Form, read_in, many}
use Rattle.codec.specs.Number.{Got, got, refused, put}

-- the answer of a reading: the value and the bytes behind it, or the refusal
abbrev pub Reading : Type 0 → Type 0
Reading A = Result (A × Bor (List ℕ)) Refusal

-- what it says: the value and what stands behind it, or the refusal's number
abbrev pub reading_said : {A : Type 0} → Reading A → Got A
reading_said (Ok r) = got r.0 r.1.now
reading_said (Err e) = refused (refusal_number e)

-- the answer to reading s by a form
abbrev pub Reads : {A : Type 0} → Form A → List ℕ → Reading A → Type 0
Reads F s r = reading_said r ≡ read_in F s

-- a reader whose answers are as `post` says reads by a form
abbrev pub ReadsBy : {A : Type 0} → Form A → (Bor (List ℕ) → Reading A → Type 0) → Type 0
ReadsBy {A} F post = (s : Bor (List ℕ)) (r : Reading A) → post s r → Reads F s.now r

-- items read one behind the other into a list: the items and what stands behind them, or the refusal's number
abbrev pub items_said : {A : Type 0} → List A → Result (Bor (List ℕ)) Refusal → Got (List A)
items_said xs (Ok rest) = got xs rest.now
items_said xs (Err e) = refused (refusal_number e)

-- the answer to reading s by a form n times, where `after` is read
abbrev pub ReadsItems : {A : Type 0} → Form A → ℕ → List ℕ → List A → Result (Bor (List ℕ)) Refusal → Type 0
ReadsItems F n s after r = items_said after r ≡ read_in (many n F) s

-- what stands behind items that were read, or the refusal
abbrev pub left_said : Result (Bor (List ℕ)) Refusal → Result (List ℕ) Refusal
left_said (Ok rest) = Ok rest.now
left_said (Err e) = Err e

-- items that a reader gives one behind the other from s on: all of them, or those before the one that it refuses
pub data Each {T : Type 0} (post : Bor (List ℕ) → Reading T → Type 0) :
    List ℕ → List T → Result (List ℕ) Refusal → Type 0 where
  none : {s : List ℕ} → Each post s [] (Ok s)
  next : {s t : Bor (List ℕ)} {x : T} {xs : List T} {r : Result (List ℕ) Refusal} → post s (Ok (x, t))
      → Each post t.now xs r → Each post s.now (x ∷ xs) r
  stop : {s : Bor (List ℕ)} {x : T} {xs : List T} {e : Refusal} → post s (Err e) → Each post s.now (x ∷ xs) (Err e)

-- the same of what the value stands for
abbrev pub said_as : {T A : Type 0} → (T → A) → Reading T → Got A
said_as f (Ok r) = got (f r.0) r.1.now
said_as f (Err e) = refused (refusal_number e)

abbrev pub ReadsAs : {T A : Type 0} → (T → A) → Form A → List ℕ → Reading T → Type 0
ReadsAs f F s r = said_as f r ≡ read_in F s

-- bytes stored from `at` on, and where they end
pub record Writes (before : List ℕ) (at : ℕ) (bytes : List ℕ) (after : List ℕ) (end : ℕ) : Type 0 where
  pub ends : end ≡ at + length bytes
  pub stored : after ≡ put before at bytes

-- there is room for bytes from `at` on
pub record Room (at : ℕ) (bytes area : List ℕ) : Type 0 where
  pub fits : at + length bytes ≤ length area
