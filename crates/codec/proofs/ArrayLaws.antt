-- Reading into an array, item by item.
use mathlib.Core.List.{List, [], ◌∷◌, ◌++◌}
use mathlib.Core.Path.{◌≡◌, sym, ap, ◌∙◌}
use Prim.Native.Nat.{ℕ, zero, suc, ◌-◌, ◌≤◌}
use native.Mathlib.Omega.{arith}
use lib.ListN.{length, take, drop, replicate, length-replicate}
use lib.Seq.{length-take-le}
use Rattle.codec.specs.Number.{Got, got, refused}
use Rattle.codec.specs.Form.{Form, done, read_in, many, padded, array}
use Rattle.std.proofs.lemmas.List.{drop-replicate}
use Rattle.codec.proofs.FormLaws.{onto, read_then, finished, first_gave, first_refused}
use Rattle.codec.proofs.FormTrip.{same_got, parted}

-- items put before those that are read
abbrev pub behind : {A : Type 0} → List A → Got (List A) → Got (List A)
behind xs g = onto (λ ys t. got (xs ++ ys) t) g

module _ {A : Type 0} where
  pub many_next : (F : Form A) (l : ℕ) (s : List ℕ) {t : List ℕ} {a : A} → got a t ≡ read_in F s
      → read_in (many (suc l) F) s ≡ behind (a ∷ []) (read_in (many l F) t)
  unfolding many read_in
  many_next F l s {t} {a} e = first_gave F _ s e ∙ read_then (many l F) (λ rest. done (a ∷ rest)) t

  pub many_stop : (F : Form A) (l : ℕ) (s : List ℕ) {e : ℕ} → refused e ≡ read_in F s
      → read_in (many (suc l) F) s ≡ refused e
  unfolding many
  many_stop F l s e = first_refused F _ s e

-- as many items are read as are asked for
pub many_long : {A : Type 0} (F : Form A) (n : ℕ) (s : List ℕ) {xs : List A} {t : List ℕ}
    → read_in (many n F) s ≡ got xs t → length xs ≡ n
unfolding many read_in
many_long F zero s e = sym (ap length (same_got e).0)
many_long {A} F (suc n) s {xs} {t} e =
    let first = parted F _ (record { is = e }) in
    let others = parted (many n F) _ first.second in
    sym (ap length (same_got others.second.is).0) ∙ ap suc (many_long F n first.rest others.first.is)

-- the first places of an array
pub taken : {A : Type 0} (size count : ℕ) (blank : A) → count ≤ size
    → length (take count (replicate size blank)) ≡ count
taken size count blank few = length-take-le count (replicate size blank) (omega (arith, length-replicate size blank))

-- as many items read as there are first places, the rest of the array being blank
module _ {A : Type 0} (F : Form A) (size count : ℕ) (blank : A) (s : List ℕ) where
  -- they were read
  pub array_gave : {n : ℕ} {xs : List A} {t : List ℕ} → n ≡ count → got xs t ≡ read_in (many n F) s
      → got (padded size blank xs) t ≡ read_in (array size blank count F) s
  array_gave {n} {xs} {t} same e =
      let all : got xs t ≡ read_in (many count F) s = e ∙ ap (λ (n : ℕ). read_in (many n F) s) same in
      sym (first_gave (many count F) (λ ys. done (padded size blank ys)) s all ∙ finished.is)

  -- one of them was refused
  pub array_refused : {n e : ℕ} → n ≡ count → refused e ≡ read_in (many n F) s
      → refused e ≡ read_in (array size blank count F) s
  array_refused {n} {e} same r =
      let one : refused e ≡ read_in (many count F) s = r ∙ ap (λ (n : ℕ). read_in (many n F) s) same in
      sym (first_refused (many count F) (λ ys. done (padded size blank ys)) s one)

  -- items read into the array itself
  module _ (few : count ≤ size) where
    pub items_gave : {xs : List A} {t : List ℕ}
        → got xs t ≡ read_in (many (length (take count (replicate size blank))) F) s
        → got (xs ++ drop count (replicate size blank)) t ≡ read_in (array size blank count F) s
    items_gave {xs} {t} e =
        let long : length xs ≡ count = many_long F _ s (sym e) ∙ taken size count blank few in
        let whole : padded size blank xs ≡ xs ++ drop count (replicate size blank) =
        ap (λ (n : ℕ). xs ++ replicate (size - n) blank) long ∙ ap (◌++◌ xs) (sym (drop-replicate count size blank)) in
        ap (λ (ys : List A). got ys t) (sym whole) ∙ array_gave (taken size count blank few) e

    pub items_refused : {e : ℕ} → refused e ≡ read_in (many (length (take count (replicate size blank))) F) s
        → refused e ≡ read_in (array size blank count F) s
    items_refused r = array_refused (taken size count blank few) r
