-- How many bytes a form takes at most; and that it looks no further than they reach.
use mathlib.Core.Bool.{Bool, true, false, cond}
use mathlib.Core.List.{List, [], ◌∷◌, ◌++◌}
use mathlib.Core.Logic.{◌⊎◌, inl, inr}
use mathlib.Core.Path.{◌≡◌, refl, sym, ap, ◌∙◌, subst}
use Prim.Native.Nat.{ℕ, zero, suc, ◌+◌, ◌-◌, ◌*◌, ◌≤◌, ◌<◌}
use native.Mathlib.Decide.{dec_lt, dec_le}
use native.Mathlib.Nat.{suc-mul}
use native.Mathlib.Omega.{arith}
use lib.Dec.{ltb, leb, eqb}
use lib.ListN.{length}
use borrow.Author.Tests.{lt-ltb, le-ltb, le-leb, lt-leb, ltb-true, ltb-false, eqb-false, ne_eqb}
use Rattle.numbers.specs.Refusals.{refusal_number}
use Rattle.numbers.specs.declared.Refusal.TheVariants.{Bytes, Model}
use Rattle.codec.specs.Number.{Got, got, refused, number_in, second, third}
use Rattle.codec.specs.Form.{Form, done, ask, fault, below, read_in, ◌>>=◌, many, array}
use Rattle.codec.proofs.FormLaws.{Finds}
use Rattle.codec.proofs.NumberTrip.{refusal_no}
use Rattle.codec.proofs.FormTrip.{same_got}

-- the most bytes that a number below m has
unfoldable pub most_bytes : ℕ → ℕ
most_bytes m = cond (leb m 128) 1 (cond (leb m 16384) 2 3)

-- a number below a limit of at most 128 takes one byte
pub most_one : (m : ℕ) → m ≤ 128 → most_bytes m ≡ 1
unfolding most_bytes
most_one m h = rw (le-leb m 128 h) refl

-- a number v below m took w bytes
abbrev Took : ℕ → ℕ → Type 0
Took v w = (w ≤ 3) × (2 ≤ w → 128 ≤ v) × (3 ≤ w → 16384 ≤ v)

took_most : (m v w : ℕ) → Took v w → v < m → w ≤ most_bytes m
unfolding most_bytes
took_most m v w h l = by_tests (dec_le m 128) (dec_le m 16384)
  where
    below_two : ¬ (128 ≤ v) → w ≤ 1
    below_two n = by_size (dec_le 2 w)
      where
        by_size : Dec (2 ≤ w) → w ≤ 1
        by_size (yes p) = absurd (n (h.1 p))
        by_size (no p) = omega arith

    below_three : ¬ (16384 ≤ v) → w ≤ 2
    below_three n = by_size (dec_le 3 w)
      where
        by_size : Dec (3 ≤ w) → w ≤ 2
        by_size (yes p) = absurd (n (h.2 p))
        by_size (no p) = omega arith

    by_tests : Dec (m ≤ 128) → Dec (m ≤ 16384) → w ≤ most_bytes m
    by_tests (yes p) d = rw (le-leb m 128 p) (below_two (λ q. omega arith))
    by_tests (no p) (yes q) = rw (lt-leb m 128 (omega arith), le-leb m 16384 q) (below_three (λ r. omega arith))
    by_tests (no p) (no q) = rw (lt-leb m 128 (omega arith), lt-leb m 16384 (omega arith)) h.0

-- a number was read from s, and t is left
record Read (s : List ℕ) (v : ℕ) (t : List ℕ) : Type 0 where
  took : ℕ
  right : Took v took
  long : length s ≡ took + length t

module _ (v : ℕ) (t : List ℕ) where
  read_third : (low c : ℕ) (s : List ℕ) → third low (c ∷ s) ≡ got v t → (16384 ≤ v) × (length s ≡ length t)
  read_third low c s e = by_tests (eqb c 0) (ltb c 128) refl refl e
    where
      by_tests : (x y : Bool) → eqb c 0 ≡ x → ltb c 128 ≡ y
          → cond x (refused (refusal_number Bytes))
          (cond y (got (low + c * 16384) s) (refused (refusal_number Bytes))) ≡ got v t
          → (16384 ≤ v) × (length s ≡ length t)
      by_tests true y hx hy e = absurd (refusal_no e)
      by_tests false true hx hy e =
          let some : c ≡ 0 → ⊥ = eqb-false c 0 hx in
          let same = same_got e in
          (omega (arith, same.0), ap length same.1)
      by_tests false false hx hy e = absurd (refusal_no e)

  read_second : (low b : ℕ) (s : List ℕ) → second low (b ∷ s) ≡ got v t
      → (128 ≤ v) × ((length s ≡ length t) ⊎ ((16384 ≤ v) × (length s ≡ suc (length t))))
  read_second low b s e = by_tests (eqb b 0) (ltb b 128) refl refl e
    where
      more : (s : List ℕ) → third (low + (b - 128) * 128) s ≡ got v t
          → (128 ≤ v) × ((length s ≡ length t) ⊎ ((16384 ≤ v) × (length s ≡ suc (length t))))
      more [] e = absurd (refusal_no e)
      more (c ∷ s) e =
          let w = read_third (low + (b - 128) * 128) c s e in
          (omega (arith, w.0), inr (w.0, ap suc w.1))

      by_tests : (x y : Bool) → eqb b 0 ≡ x → ltb b 128 ≡ y
          → cond x (refused (refusal_number Bytes))
          (cond y (got (low + b * 128) s) (third (low + (b - 128) * 128) s)) ≡ got v t
          → (128 ≤ v) × ((length s ≡ length t) ⊎ ((16384 ≤ v) × (length s ≡ suc (length t))))
      by_tests true y hx hy e = absurd (refusal_no e)
      by_tests false true hx hy e =
          let some : b ≡ 0 → ⊥ = eqb-false b 0 hx in
          let same = same_got e in
          (omega (arith, same.0), inl (ap length same.1))
      by_tests false false hx hy e = more s e

  read_number : (s : List ℕ) → number_in s ≡ got v t → Read s v t
  unfolding number_in
  read_number [] e = absurd (refusal_no e)
  read_number (a ∷ s) e = by_test (ltb a 128) e
    where
      two : {b : ℕ} {s : List ℕ} → 128 ≤ v → (length s ≡ length t) ⊎ ((16384 ≤ v) × (length s ≡ suc (length t)))
          → Read (a ∷ b ∷ s) v t
      two l (inl q) =
          record { took = 2; right = (omega arith, (λ h. l), λ h. absurd (omega arith)); long = omega (arith, q) }
      two l (inr q) = record { took = 3; right = (omega arith, (λ h. l), λ h. q.0); long = omega (arith, q.1) }

      more : (s : List ℕ) → second (a - 128) s ≡ got v t → Read (a ∷ s) v t
      more [] e = absurd (refusal_no e)
      more (b ∷ s) e = let w = read_second (a - 128) b s e in two w.0 w.1

      by_test : (x : Bool) → cond x (got a s) (second (a - 128) s) ≡ got v t → Read (a ∷ s) v t
      by_test true e =
          let same = same_got e in
          record {
            took = 1;
            right = (omega arith, (λ h. absurd (omega arith)), λ h. absurd (omega arith));
            long = omega (arith, ap length same.1);
          }
      by_test false e = more s e

-- a form takes at most c bytes, and gives only values with Q; with σ bytes more there are three bytes at each number
pub data Takes {A : Type 0} (Q : A → Type 0) (σ : ℕ) : ℕ → Form A → Type 0 where
  gives : {c : ℕ} {a : A} → Q a → Takes Q σ c (done a)
  asks : {c m : ℕ} {k : ℕ → Form A} (d : ℕ) → most_bytes m + d ≤ c → 3 ≤ c + σ → ((v : ℕ) → v < m → Takes Q σ d (k v))
      → Takes Q σ c (ask m k)
  faults : {c : ℕ} → Takes Q σ c fault

-- `asks` with its numbers written out
pub takes_ask : {A : Type 0} {Q : A → Type 0} {σ : ℕ} (c m d : ℕ) {k : ℕ → Form A} → most_bytes m + d ≤ c → 3 ≤ c + σ
    → ((v : ℕ) → v < m → Takes Q σ d (k v)) → Takes Q σ c (ask m k)
takes_ask c m d h r w = asks d h r w

-- a form that is at fault where a test passes
pub takes_either : {A : Type 0} {Q : A → Type 0} {σ c : ℕ} {F : Form A} (b : Bool) → Takes Q σ c F
    → Takes Q σ c (cond b fault F)
takes_either true w = faults
takes_either false w = w

-- what takes at most c bytes takes at most d, if c is at most d
pub takes_more : {A : Type 0} {Q : A → Type 0} {σ : ℕ} {F : Form A} {c d : ℕ} → c ≤ d → Takes Q σ c F → Takes Q σ d F
takes_more l (gives q) = gives q
takes_more {σ = σ} {d = d} l (asks {m = m} e h r w) = takes_ask d m e (omega arith) (omega arith) w
takes_more l faults = faults

-- one form after another
pub takes_then : {A B : Type 0} {Q : A → Type 0} {R : B → Type 0} {σ τ : ℕ} {F : Form A} {k : A → Form B} {c : ℕ}
    (d : ℕ)
    → σ ≤ d + τ → Takes Q σ c F → ((a : A) → Q a → Takes R τ d (k a)) → Takes R τ (c + d) (F >>= k)
unfolding ◌>>=◌
takes_then d l (gives q) h = takes_more (omega arith) (h _ q)
takes_then {c = c} d l (asks {m = m} e r s w) h =
    takes_ask (c + d) m (e + d) (omega arith) (omega arith) (λ v x. takes_then d l (w v x) h)
takes_then d l faults h = faults

-- anything
abbrev pub Any : {A : Type 0} → A → Type 0
Any a = Unit {0}

-- n times the same form
pub takes_many : {A : Type 0} {Q : A → Type 0} {F : Form A} {c : ℕ} (n : ℕ) → Takes Q 2 c F → Takes Any 2 (n * c)
    (many n F)
unfolding many
takes_many zero w = gives tt
takes_many {c = c} (suc n) w =
    let e : c + (n * c + 0) ≤ suc n * c = omega (arith, suc-mul n c) in
    takes_more e
    (takes_then (n * c + 0) (omega arith) w
    (λ a q. takes_then 0 (omega arith) (takes_many n w) (λ xs r. gives tt)))

-- an array of n items
pub takes_array : {A : Type 0} {Q : A → Type 0} {F : Form A} {c : ℕ} (size : ℕ) (blank : A) (n : ℕ) → Takes Q 2 c F
    → Takes Any 2 (n * c) (array size blank n F)
takes_array {c = c} size blank n w =
    let e : n * c + 0 ≤ n * c = omega arith in
    takes_more e (takes_then 0 (omega arith) (takes_many n w) (λ xs r. gives tt))

-- what a form reads is no longer than it takes
pub takes_length : {A : Type 0} {Q : A → Type 0} {σ : ℕ} {F : Form A} {c : ℕ} → Takes Q σ c F → {s t : List ℕ} {a : A}
    → Finds F s (got a t) → length s ≤ c + length t
unfolding read_in
takes_length (gives q) f = let e = same_got f.is in omega (arith, ap length e.1)
takes_length {A} {c = c} (asks {m = m} {k = k} d l h w) {s} {t} {a} f =
    by_number (number_in s) refl (λ v r u g. takes_length (w v r) {s = u} {t = t} {a = a} g) f.is
  where
    by_limit : (v : ℕ) (u : List ℕ) → Dec (v < m) → number_in s ≡ got v u
        → ((v : ℕ) → v < m → (u : List ℕ) → Finds (k v) u (got a t) → length u ≤ d + length t)
        → cond (ltb v m) (read_in (k v) u) (refused (refusal_number Model)) ≡ got a t → length s ≤ c + length t
    by_limit v u (yes r) e g q =
        let here = read_number v u s e in
        let rest = g v r u (record { is = sym (rw (lt-ltb v m r) refl) ∙ q }) in
        omega (arith, rest, here.long, took_most m v here.took here.right r)
    by_limit v u (no r) e g q =
        let q' : refused (refusal_number Model) ≡ got a t = sym (rw (le-ltb v m (omega arith)) refl) ∙ q in
        absurd (let z : ◌≡◌ {A = ℕ} 0 1 = cc in omega arith)

    by_number : (g : Got ℕ) → number_in s ≡ g
        → ((v : ℕ) → v < m → (u : List ℕ) → Finds (k v) u (got a t) → length u ≤ d + length t)
        → below m g (λ v u. read_in (k v) u) ≡ got a t → length s ≤ c + length t
    by_number (got v u) e g q = by_limit v u (dec_lt v m) e g q
    by_number (refused n) e g q = absurd (let z : ◌≡◌ {A = ℕ} 0 1 = cc in omega arith)
takes_length faults f = absurd (let g = f.is in let z : ◌≡◌ {A = ℕ} 0 1 = cc in omega arith)

-- ---- a form looks no further than it reaches
-- a number that stands in the first bytes is read from them, whatever is behind
data Seen (p : List ℕ) : Type 0 where
  cut : ((t : List ℕ) → number_in (p ++ t) ≡ refused (refusal_number Bytes)) → Seen p
  seen : (v w : ℕ) (q : List ℕ) → Took v w → length p ≡ w + length q
      → ((t : List ℕ) → number_in (p ++ t) ≡ got v (q ++ t)) → Seen p

seen_third : (a b c : ℕ) (p : List ℕ) → 128 ≤ a → 128 ≤ b → Seen (a ∷ b ∷ c ∷ p)
unfolding number_in
seen_third a b c p la lb = by_tests (eqb c 0) (ltb c 128) refl refl
  where
    by_tests : (x y : Bool) → eqb c 0 ≡ x → ltb c 128 ≡ y → Seen (a ∷ b ∷ c ∷ p)
    by_tests true y hx hy = cut (λ t. rw (le-ltb a 128 la, ne_eqb b 0 (λ e. omega arith), le-ltb b 128 lb, hx) refl)
    by_tests false true hx hy =
        let some : c ≡ 0 → ⊥ = eqb-false c 0 hx in
        seen (a - 128 + (b - 128) * 128 + c * 16384) 3 p (omega arith, (λ h. omega arith), λ h. omega arith)
        (omega arith)
        (λ t. rw (le-ltb a 128 la, ne_eqb b 0 (λ e. omega arith), le-ltb b 128 lb, hx, hy) refl)
    by_tests false false hx hy =
        cut (λ t. rw (le-ltb a 128 la, ne_eqb b 0 (λ e. omega arith), le-ltb b 128 lb, hx, hy) refl)

seen_second : (a b c : ℕ) (p : List ℕ) → 128 ≤ a → Seen (a ∷ b ∷ c ∷ p)
unfolding number_in
seen_second a b c p la = by_tests (eqb b 0) (ltb b 128) refl refl
  where
    by_tests : (x y : Bool) → eqb b 0 ≡ x → ltb b 128 ≡ y → Seen (a ∷ b ∷ c ∷ p)
    by_tests true y hx hy = cut (λ t. rw (le-ltb a 128 la, hx) refl)
    by_tests false true hx hy =
        let some : b ≡ 0 → ⊥ = eqb-false b 0 hx in
        seen (a - 128 + b * 128) 2 (c ∷ p) (omega arith, (λ h. omega arith), λ h. absurd (omega arith)) (omega arith)
        (λ t. rw (le-ltb a 128 la, hx, hy) refl)
    by_tests false false hx hy = seen_third a b c p la (ltb-false b 128 hy)

seen_in : (p : List ℕ) → 3 ≤ length p → Seen p
unfolding number_in
seen_in [] h = absurd (omega arith)
seen_in (a ∷ []) h = absurd (omega arith)
seen_in (a ∷ b ∷ []) h = absurd (omega arith)
seen_in (a ∷ b ∷ c ∷ p) h = by_test (ltb a 128) refl
  where
    by_test : (x : Bool) → ltb a 128 ≡ x → Seen (a ∷ b ∷ c ∷ p)
    by_test true hx =
        seen a 1 (b ∷ c ∷ p) (omega arith, (λ h. absurd (omega arith)), λ h. absurd (omega arith)) (omega arith)
        (λ t. rw hx refl)
    by_test false hx = seen_second a b c p (ltb-false a 128 hx)

-- what is found in the first bytes is found whatever is behind them
pub data Early {A : Type 0} (Q : A → Type 0) (c : ℕ) (F : Form A) (p : List ℕ) : Type 0 where
  halts : (e : ℕ) → ((t : List ℕ) → Finds F (p ++ t) (refused e)) → Early Q c F p
  goes : (a : A) (q : List ℕ) → Q a → length p ≤ c + length q → ((t : List ℕ) → Finds F (p ++ t) (got a (q ++ t)))
      → Early Q c F p

-- a form that takes at most c bytes looks no further than c + σ
pub early : {A : Type 0} {Q : A → Type 0} {σ : ℕ} {F : Form A} {c : ℕ} → Takes Q σ c F → (p : List ℕ) → c + σ ≤
    length p
    → Early Q c F p
unfolding read_in
early (gives {a = a} q) p l = goes a p q (omega arith) (λ t. record { is = refl })
early faults p l = halts (refusal_number Model) (λ t. record { is = refl })
early {A} {Q} {σ} {c = c} (asks {m = m} {k = k} d h s w) p l =
    by_number (seen_in p (omega arith)) (λ v r q s. early (w v r) q s)
  where
    Rest : Type 0
    Rest = (v : ℕ) → v < m → (q : List ℕ) → d + σ ≤ length q → Early Q d (k v) q

    by_rest : (v : ℕ) (q : List ℕ) → v < m → length p ≤ most_bytes m + length q
        → ((t : List ℕ) → number_in (p ++ t) ≡ got v (q ++ t)) → Early Q d (k v) q → Early Q c (ask m k) p
    by_rest v q r s f (halts e g) = halts e (λ t. record { is = rw (f t, lt-ltb v m r) (g t).is })
    by_rest v q r s f (goes a u x y g) =
        goes a u x (omega arith) (λ t. record { is = rw (f t, lt-ltb v m r) (g t).is })

    by_limit : (v w : ℕ) (q : List ℕ) → Took v w → length p ≡ w + length q
        → ((t : List ℕ) → number_in (p ++ t) ≡ got v (q ++ t)) → Rest → Dec (v < m) → Early Q c (ask m k) p
    by_limit v w q x s f g (yes r) =
        let most = took_most m v w x r in
        by_rest v q r (omega (arith, most)) f (g v r q (omega (arith, most)))
    by_limit v w q x s f g (no r) =
        halts (refusal_number Model) (λ t. record { is = rw (f t, le-ltb v m (omega arith)) refl })

    by_number : Seen p → Rest → Early Q c (ask m k) p
    by_number (cut f) g = halts (refusal_number Bytes) (λ t. record { is = rw (f t) refl })
    by_number (seen v w q x s f) g = by_limit v w q x s f g (dec_lt v m)

-- what a form finds has what the form gives
pub takes_gives : {A : Type 0} {Q : A → Type 0} {σ : ℕ} {F : Form A} {c : ℕ} → Takes Q σ c F → {s t : List ℕ} {a : A}
    → Finds F s (got a t) → Q a
unfolding read_in
takes_gives {Q = Q} (gives q) f = subst Q (same_got f.is).0 q
takes_gives {A} {Q} (asks {m = m} {k = k} d l h w) {s} {t} {a} f =
    by_number (number_in s) (λ v r u g. takes_gives (w v r) {s = u} {t = t} {a = a} g) f.is
  where
    by_test : (v : ℕ) (u : List ℕ) (b : Bool) → ltb v m ≡ b
        → ((v : ℕ) → v < m → (u : List ℕ) → Finds (k v) u (got a t) → Q a)
        → cond b (read_in (k v) u) (refused (refusal_number Model)) ≡ got a t → Q a
    by_test v u true h g e = g v (ltb-true v m h) u (record { is = e })
    by_test v u false h g e = absurd (let z : ◌≡◌ {A = ℕ} 0 1 = cc in omega arith)

    by_number : (n : Got ℕ) → ((v : ℕ) → v < m → (u : List ℕ) → Finds (k v) u (got a t) → Q a)
        → below m n (λ v u. read_in (k v) u) ≡ got a t → Q a
    by_number (got v u) g e = by_test v u (ltb v m) refl g e
    by_number (refused n) g e = absurd (let z : ◌≡◌ {A = ℕ} 0 1 = cc in omega arith)
takes_gives faults f = absurd (let g = f.is in let z : ◌≡◌ {A = ℕ} 0 1 = cc in omega arith)
