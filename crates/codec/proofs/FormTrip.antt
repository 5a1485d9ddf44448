-- The round trip of what is read by a form.
use mathlib.Core.Bool.{Bool, true, false, cond}
use mathlib.Core.List.{List, [], ◌∷◌, ◌++◌, append_assoc}
use mathlib.Core.Path.{◌≡◌, refl, sym, ap, ◌∙◌, subst}
use Prim.Native.Nat.{ℕ, zero, suc, ◌-◌, ◌≤◌, ◌<◌}
use native.Mathlib.Omega.{arith}
use lib.Dec.{ltb}
use lib.ListN.{length, take, drop, replicate, length-append, length-replicate, take-append-drop}
use lib.Seq.{take_at, drop_at, length-take-le}
use borrow.Author.Tests.{lt-ltb, ltb-true}
use Rattle.numbers.specs.Refusals.{refusal_number}
use Rattle.numbers.specs.declared.Refusal.TheVariants.{Model}
use Rattle.codec.specs.Number.{Got, got, refused, number_in, bytes_of}
use Rattle.codec.specs.Form.{Form, ask, below, read_in, ◌>>=◌, many, padded, array}
use Rattle.codec.specs.Arrays.{All, each, Packed, AreBytes}
use Rattle.codec.proofs.FormLaws.{Finds, onto, read_then, after, finished}
use Rattle.codec.proofs.NumberTrip.{Stood, number_there, number_back}

-- two values read from one place are the same, and so is what is left
pub same_got : {A : Type 0} {a b : A} {s t : List ℕ} → got a s ≡ got b t → (a ≡ b) × (s ≡ t)
same_got e = (cc, cc)

-- a value was found by two forms, one after the other
pub record Parted {A B : Type 0} (F : Form A) (k : A → Form B) (s : List ℕ) (b : B) (t : List ℕ) : Type 0 where
  pub part : A
  pub rest : List ℕ
  pub first : Finds F s (got part rest)
  pub second : Finds (k part) rest (got b t)

-- what two forms one after the other find, each finds in its part
pub parted : {A B : Type 0} (F : Form A) (k : A → Form B) {s t : List ℕ} {b : B} → Finds (F >>= k) s (got b t)
    → Parted F k s b t
parted {A} {B} F k {s} {t} {b} f = by_first (read_in F s) refl (sym (read_then F k s) ∙ f.is)
  where
    by_first : (g : Got A) → read_in F s ≡ g → onto (λ a u. read_in (k a) u) g ≡ got b t → Parted F k s b t
    by_first (got a u) e q = record { part = a; rest = u; first = record { is = e }; second = record { is = q } }
    by_first (refused n) e q = absurd (let z : ◌≡◌ {A = ℕ} 0 1 = cc in omega arith)

-- a number was asked for and found: its bytes stand there
pub record Numbered {A : Type 0} (m : ℕ) (k : ℕ → Form A) (s : List ℕ) (a : A) (t : List ℕ) : Type 0 where
  pub number : ℕ
  pub rest : List ℕ
  pub limit : number < m
  pub stood : Stood s number rest
  pub then : Finds (k number) rest (got a t)

-- what a form that asks finds begins with a number below the limit
pub numbered : {A : Type 0} {m : ℕ} {k : ℕ → Form A} {s t : List ℕ} {a : A} → AreBytes s → Finds (ask m k) s (got a t)
    → Numbered m k s a t
unfolding read_in
numbered {A} {m} {k} {s} {t} {a} hs f = by_number (number_in s) refl f.is
  where
    by_test : (v : ℕ) (u : List ℕ) (p : Bool) → number_in s ≡ got v u → ltb v m ≡ p
        → cond p (read_in (k v) u) (refused (refusal_number Model)) ≡ got a t → Numbered m k s a t
    by_test v u true e h q =
        record {
          number = v;
          rest = u;
          limit = ltb-true v m h;
          stood = number_back v u s hs e;
          then = record { is = q };
        }
    by_test v u false e h q = absurd (let z : ◌≡◌ {A = ℕ} 0 1 = cc in omega arith)

    by_number : (g : Got ℕ) → number_in s ≡ g → below m g (λ v u. read_in (k v) u) ≡ got a t → Numbered m k s a t
    by_number (got v u) e q = by_test v u (ltb v m) e refl q
    by_number (refused n) e q = absurd (let z : ◌≡◌ {A = ℕ} 0 1 = cc in omega arith)

-- the bytes of a number below the limit are read as it
pub ask_there : {A : Type 0} {m : ℕ} {k : ℕ → Form A} {t : List ℕ} {g : Got A} (v : ℕ) → v < m → v < 2097152
    → Finds (k v) t g → Finds (ask m k) (bytes_of v ++ t) g
unfolding read_in
ask_there v l h f = record { is = rw (number_there v _ h, lt-ltb _ _ l) f.is }

-- bytes behind bytes are bytes
pub bytes_behind : (xs : List ℕ) {s : List ℕ} (t : List ℕ) → AreBytes s → s ≡ xs ++ t → AreBytes t
bytes_behind xs t hs e = go xs (subst AreBytes e hs)
  where
    go : (xs : List ℕ) → AreBytes (xs ++ t) → AreBytes t
    go [] h = h
    go (x ∷ xs) (p, h) = go xs h

-- a form reads back just what is written: the values with P, by their bytes p
pub record Codes {A : Type 0} (F : Form A) (P : A → Type 0) (p : A → List ℕ) : Type 0 where
  pub there : (a : A) (t : List ℕ) → P a → Finds F (p a ++ t) (got a t)
  pub back : (a : A) (s t : List ℕ) → AreBytes s → Finds F s (got a t) → P a × (s ≡ p a ++ t)

-- ---- a form several times
module _ {A : Type 0} {F : Form A} {P : A → Type 0} {p : A → List ℕ} (w : Codes F P p) where
  many_there : (xs : List A) (t : List ℕ) → All P xs → Finds (many (length xs) F) (each p xs ++ t) (got xs t)
  unfolding many
  many_there [] t h = finished
  many_there (x ∷ xs) t (px, h) =
      rw append_assoc
      (after F _ (w.there x (each p xs ++ t) px) (after (many (length xs) F) _ (many_there xs t h) finished))

  moved : (n : ℕ) (s : List ℕ) {xs ys : List A} {t u : List ℕ} → ys ≡ xs → u ≡ t
      → (length ys ≡ n) × All P ys × (s ≡ each p ys ++ u) → (length xs ≡ n) × All P xs × (s ≡ each p xs ++ t)
  moved n s {xs} {ys} {t} {u} e q h =
      subst (λ (zs : List A). (length zs ≡ n) × All P zs × (s ≡ each p zs ++ t)) e
      (h.0, h.1, h.2 ∙ ap (◌++◌ (each p ys)) q)

  many_back : (n : ℕ) (xs : List A) (s t : List ℕ) → AreBytes s → Finds (many n F) s (got xs t)
      → (length xs ≡ n) × All P xs × (s ≡ each p xs ++ t)
  unfolding many read_in
  many_back zero xs s t hs f =
      let same = same_got f.is in
      moved zero s same.0 same.1 (refl, tt, refl)
  many_back (suc n) xs s t hs f =
      let first = parted F _ f in
      let a = first.part in
      let here = w.back a s first.rest hs first.first in
      let others = parted (many n F) _ first.second in
      let behind = bytes_behind (p a) first.rest hs here.1 in
      let back = many_back n others.part first.rest others.rest behind others.first in
      let same = same_got others.second.is in
      let whole =
      here.1 ∙ ap (◌++◌ (p a)) back.2 ∙ sym (append_assoc (p a) (each p others.part) others.rest) in
      moved (suc n) s same.0 same.1 (ap suc back.0, (here.0, back.1), whole)

  -- an array's bytes are those of its items
  pub codes_array : (size n : ℕ) (blank : A) → n ≤ size
      → Codes (array size blank n F) (Packed P blank size n) (λ xs. each p (take n xs))
  unfolding read_in
  codes_array size n blank l = record { there = to; back = from }
    where
      to : (xs : List A) (t : List ℕ) → Packed P blank size n xs
          → Finds (array size blank n F) (each p (take n xs) ++ t) (got xs t)
      to xs t h =
          let long : length (take n xs) ≡ n = length-take-le n xs (omega (arith, h.few, h.long)) in
          let whole : padded size blank (take n xs) ≡ xs =
          ap (λ (k : ℕ). take n xs ++ replicate (size - k) blank) long
          ∙ ap (◌++◌ (take n xs)) (sym h.unused) ∙ take-append-drop n xs in
          let read : Finds (many n F) (each p (take n xs) ++ t) (got (take n xs) t) =
          subst (λ (k : ℕ). Finds (many k F) (each p (take n xs) ++ t) (got (take n xs) t)) long
          (many_there (take n xs) t h.used) in
          subst (λ (ys : List A). Finds (array size blank n F) (each p (take n xs) ++ t) (got ys t)) whole
          (after (many n F) _ read finished)

      from : (xs : List A) (s t : List ℕ) → AreBytes s → Finds (array size blank n F) s (got xs t)
          → Packed P blank size n xs × (s ≡ each p (take n xs) ++ t)
      from xs s t hs f =
          let two = parted (many n F) _ f in
          let ys = two.part in
          let back = many_back n ys s two.rest hs two.first in
          let same = same_got two.second.is in
          let first : take n (padded size blank ys) ≡ ys = take_at ys _ n back.0 in
          let rest : drop n (padded size blank ys) ≡ replicate (size - n) blank =
          drop_at ys _ n back.0 ∙ ap (λ (k : ℕ). replicate (size - k) blank) back.0 in
          let filled = length-append ys (replicate (size - length ys) blank) in
          let free = length-replicate (size - length ys) blank in
          let packed : Packed P blank size n (padded size blank ys) =
          record {
            few = l;
            long = omega (arith, filled, free, back.0);
            used = rw first back.1;
            unused = rest;
          } in
          let bytes : s ≡ each p (take n (padded size blank ys)) ++ t =
          back.2 ∙ ap (λ (zs : List A). each p zs ++ two.rest) (sym first)
          ∙ ap (◌++◌ (each p (take n (padded size blank ys)))) same.1 in
          subst (λ (zs : List A). Packed P blank size n zs × (s ≡ each p (take n zs) ++ t)) same.0 (packed, bytes)
