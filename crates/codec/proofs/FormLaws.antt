-- Laws of reading by a form.
use mathlib.Core.Bool.{Bool, true, false, cond}
use mathlib.Core.List.{List}
use mathlib.Core.Path.{◌≡◌, refl, sym, ap, ◌∙◌, subst}
use Prim.Native.Nat.{ℕ, ◌<◌}
use native.Mathlib.Omega.{arith}
use lib.Dec.{ltb}
use borrow.Author.Tests.{ltb-true}
use Rattle.numbers.specs.Refusals.{refusal_number}
use Rattle.numbers.specs.declared.Refusal.TheVariants.{Model}
use Rattle.codec.specs.Number.{Got, got, refused, number_in}
use Rattle.codec.specs.Form.{Form, done, ask, fault, below, read_in, ◌>>=◌}

-- ---- what reading by a form finds
pub record Finds {A : Type 0} (F : Form A) (s : List ℕ) (g : Got A) : Type 0 where
  pub is : read_in F s ≡ g

-- what is done with a value that was read, and a refusal passed on
abbrev pub onto : {A B : Type 0} → (A → List ℕ → Got B) → Got A → Got B
onto f (got a t) = f a t
onto f (refused e) = refused e

limited : {A B : Type 0} (m : ℕ) (j : ℕ → Form A) (k : A → Form B)
    → ((v : ℕ) (t : List ℕ) → read_in (j v >>= k) t ≡ onto (λ a u. read_in (k a) u) (read_in (j v) t))
    → (g : Got ℕ)
    → below m g (λ v t. read_in (j v >>= k) t) ≡ onto (λ a u. read_in (k a) u) (below m g (λ v t. read_in (j v) t))
limited m j k h (refused e) = refl
limited {A} {B} m j k h (got v t) = by_test (ltb v m)
  where
    by_test : (b : Bool)
        → ◌≡◌ {A = Got B} (cond b (read_in (j v >>= k) t) (refused (refusal_number Model)))
        (onto (λ a u. read_in (k a) u) (cond b (read_in (j v) t) (refused (refusal_number Model))))
    by_test true = h v t
    by_test false = refl

-- one form after another is read by the first, and what is left by the second
pub read_then : {A B : Type 0} (F : Form A) (k : A → Form B) (s : List ℕ)
    → read_in (F >>= k) s ≡ onto (λ a t. read_in (k a) t) (read_in F s)
unfolding read_in ◌>>=◌
read_then (done a) k s = refl
read_then fault k s = refl
read_then (ask m j) k s = limited m j k (λ v t. read_then (j v) k t) (number_in s)

-- a form that asks nothing finds its value
pub finished : {A : Type 0} {a : A} {s : List ℕ} → Finds (done a) s (got a s)
unfolding read_in
finished = record { is = refl }

-- a form that gave a value goes on with it; one that was refused is refused
pub after : {A B : Type 0} (F : Form A) (k : A → Form B) {s t : List ℕ} {a : A} {g : Got B}
    → Finds F s (got a t) → Finds (k a) t g → Finds (F >>= k) s g
after F k {s} e f = record { is = read_then F k s ∙ ap (onto (λ a t. read_in (k a) t)) e.is ∙ f.is }

-- ---- what the first part of a form gave
module _ {A B : Type 0} (F : Form A) (k : A → Form B) (s : List ℕ) where
  -- a value: reading goes on with what follows it
  pub first_gave : {a : A} {t : List ℕ} → got a t ≡ read_in F s → read_in (F >>= k) s ≡ read_in (k a) t
  first_gave e = read_then F k s ∙ ap (onto (λ a t. read_in (k a) t)) (sym e)

  -- a refusal: it is that of both
  pub first_refused : {e : ℕ} → refused e ≡ read_in F s → read_in (F >>= k) s ≡ refused e
  first_refused e = read_then F k s ∙ ap (onto (λ a t. read_in (k a) t)) (sym e)

-- the same where a number is asked for
module _ {A : Type 0} (m : ℕ) (k : ℕ → Form A) (s : List ℕ) where
  pub ask_gave : {v : ℕ} {t : List ℕ} → got v t ≡ read_in (ask m (λ v. done v)) s
      → read_in (ask m k) s ≡ read_in (k v) t
  unfolding ◌>>=◌
  ask_gave e = first_gave (ask m (λ v. done v)) k s e

  pub ask_refused : {e : ℕ} → refused e ≡ read_in (ask m (λ v. done v)) s → read_in (ask m k) s ≡ refused e
  unfolding ◌>>=◌
  ask_refused e = first_refused (ask m (λ v. done v)) k s e

-- what is so of every value that a number below the limit can give, is so of the one that was found
pub told_of : {A : Type 0} (P : A → Type 0) (m : ℕ) (a : ℕ → A) (s : List ℕ) → ((v : ℕ) → v < m → P (a v))
    → {b : A} {t : List ℕ} → got b t ≡ read_in (ask m (λ v. done (a v))) s → P b
unfolding read_in
told_of {A} P m a s h {b} {t} e = by_number (number_in s) (sym e)
  where
    by_test : (v : ℕ) (u : List ℕ) (p : Bool) → ltb v m ≡ p
        → cond p (got (a v) u) (refused (refusal_number Model)) ≡ got b t → P b
    by_test v u true l q = let same : a v ≡ b = cc in subst P same (h v (ltb-true v m l))
    by_test v u false l q = absurd (let z : ◌≡◌ {A = ℕ} 0 1 = cc in omega arith)

    by_number : (g : Got ℕ) → below m g (λ v u. got (a v) u) ≡ got b t → P b
    by_number (got v u) q = by_test v u (ltb v m) refl q
    by_number (refused e') q = absurd (let z : ◌≡◌ {A = ℕ} 0 1 = cc in omega arith)

-- a number that was read is below its limit
pub gave_below : {v : ℕ} {t : List ℕ} (m : ℕ) (s : List ℕ) → got v t ≡ read_in (ask m (λ v. done v)) s → v < m
gave_below m s e = told_of (λ v. v < m) m (λ v. v) s (λ v l. l) e

-- ---- each form's reading, for code that reads its parts
pub read_ask : {A : Type 0} (m : ℕ) (k : ℕ → Form A) (s : List ℕ)
    → read_in (ask m k) s ≡ onto (λ v t. read_in (k v) t) (read_in (ask m (λ v. done v)) s)
unfolding ◌>>=◌
read_ask m k s = read_then (ask m (λ v. done v)) k s

pub read_done : {A : Type 0} (a : A) (s : List ℕ) → read_in (done a) s ≡ got a s
read_done a s = finished.is

pub ruleset reading = (read_ask, read_then, read_done)
