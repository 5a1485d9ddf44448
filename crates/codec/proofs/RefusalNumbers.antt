-- What reading refuses with: a number of the rules, at most 8.
use mathlib.Core.Bool.{Bool, true, false, cond}
use mathlib.Core.List.{List, [], ◌∷◌}
use Prim.Native.Nat.{ℕ, ◌+◌, ◌-◌, ◌*◌, ◌≤◌}
use lib.Dec.{eqb, ltb}
use Rattle.numbers.specs.Refusals.{refusal_number}
use Rattle.numbers.specs.declared.Refusal.{Refusal}
use Rattle.numbers.specs.declared.Refusal.TheVariants.{Bytes, Model}
use Rattle.numbers.proofs.RefusalLaws.{number_range}
use Rattle.codec.specs.Form.{Form, done, ask, fault, below, read_in}
use Rattle.codec.specs.Number.{Got, got, refused, third, second, number_in}

-- a value, or a refusal with a number of the rules
pub data Numbered {A : Type 0} : Got A → Type 0 where
  found : {a : A} {s : List ℕ} → Numbered (got a s)
  numbered : {e : ℕ} → e ≤ 8 → Numbered (refused e)

of : {A : Type 0} (e : Refusal) → Numbered {A = A} (refused (refusal_number e))
of e = numbered (number_range e).1

either : {A : Type 0} (b : Bool) {x y : Got A} → Numbered x → Numbered y → Numbered (cond b x y)
either true h k = h
either false h k = k

third_numbered : (low : ℕ) (s : List ℕ) → Numbered (third low s)
third_numbered low [] = of Bytes
third_numbered low (c ∷ s) =
    either (eqb c 0) (of Bytes) (either (ltb c 128) found (of Bytes))

second_numbered : (low : ℕ) (s : List ℕ) → Numbered (second low s)
second_numbered low [] = of Bytes
second_numbered low (b ∷ s) =
    either (eqb b 0) (of Bytes) (either (ltb b 128) found (third_numbered (low + (b - 128) * 128) s))

number_numbered : (s : List ℕ) → Numbered (number_in s)
unfolding number_in
number_numbered [] = of Bytes
number_numbered (a ∷ s) = either (ltb a 128) found (second_numbered (a - 128) s)

-- reading by a form gives one of the two
pub form_numbered : {A : Type 0} (F : Form A) (s : List ℕ) → Numbered (read_in F s)
unfolding read_in
form_numbered (done a) s = found
form_numbered {A} (ask m k) s = by (number_in s) (number_numbered s) (λ v t. form_numbered (k v) t)
  where
    by : (g : Got ℕ) → Numbered g → ((v : ℕ) (t : List ℕ) → Numbered (read_in (k v) t))
        → Numbered (below m g (λ v t. read_in (k v) t))
    by (got v t) h f = either (ltb v m) (f v t) (of Model)
    by (refused e) (numbered h) f = numbered h
form_numbered fault s = of Model
