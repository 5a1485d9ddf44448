-- A form: which number comes next, below which limit, and what follows it. Reading by a form ends at the first fault.
use Rattle.std.specs.Prelude.{cond, List, [], ◌∷◌, ◌++◌, ℕ, zero, suc, ◌-◌, ltb, length, replicate}
use Rattle.numbers.specs.Refusals.{refusal_number}
use Rattle.numbers.specs.declared.Refusal.TheVariants.{Model}
use Rattle.codec.specs.Number.{Got, got, refused, number_in}

pub data Form (A : Type 0) : Type 0 where
  -- nothing more: the value
  done : A → Form A
  -- a number below a limit, and then what depends on it
  ask : ℕ → (ℕ → Form A) → Form A
  -- the number just read is outside the limits
  fault : Form A

-- a number that is read: below the limit it is used, else it is refused MODEL; one that is no number is refused first
abbrev pub below : {A : Type 0} → ℕ → Got ℕ → (ℕ → List ℕ → Got A) → Got A
below m (got v s) f = cond (ltb v m) (f v s) (refused (refusal_number Model))
below m (refused e) f = refused e

-- reading by a form
unfoldable pub read_in : {A : Type 0} → Form A → List ℕ → Got A
read_in (done a) s = got a s
read_in (ask m k) s = below m (number_in s) (λ v t. read_in (k v) t)
read_in fault s = refused (refusal_number Model)

-- one form, and then another that depends on what it gave
infixl 20 ◌>>=◌
unfoldable pub ◌>>=◌ : {A B : Type 0} → Form A → (A → Form B) → Form B
done a >>= k = k a
ask m j >>= k = ask m (λ v. j v >>= k)
fault >>= k = fault

-- a form n times
unfoldable pub many : {A : Type 0} → ℕ → Form A → Form (List A)
many zero F = done []
many (suc n) F = F >>= λ a. many n F >>= λ rest. done (a ∷ rest)

-- a list in an array of a fixed size: the rest is blank
abbrev pub padded : {A : Type 0} → ℕ → A → List A → List A
padded size blank xs = xs ++ replicate (size - length xs) blank

-- an array of `size` items, of which n are read and the rest are blank
abbrev pub array : {A : Type 0} → ℕ → A → ℕ → Form A → Form (List A)
array size blank n F = many n F >>= λ xs. done (padded size blank xs)
