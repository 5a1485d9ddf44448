-- Forms that ask alike: for the same numbers, below the same limits, and their values belong together. What the one
-- reads tells what the other reads.
use mathlib.Core.Bool.{Bool, true, false, cond}
use mathlib.Core.List.{List, [], ◌∷◌, ◌++◌, map}
use mathlib.Core.Path.{◌≡◌, refl, sym, ap, ap₂, ◌∙◌, subst, subst₂, fun_ext}
use Prim.Native.Nat.{ℕ, zero, suc, ◌+◌, ◌-◌, ◌<◌}
use native.Mathlib.Omega.{arith}
use lib.Dec.{ltb}
use lib.ListN.{length, take, replicate}
use lib.Seq.{take_at}
use borrow.Author.Tests.{ltb-true}
use Rattle.numbers.specs.Refusals.{refusal_number}
use Rattle.numbers.specs.declared.Refusal.TheVariants.{Model}
use Rattle.codec.specs.Number.{Got, got, refused, number_in}
use Rattle.codec.specs.Form.{Form, done, ask, fault, below, read_in, ◌>>=◌, many, padded, array}
use Rattle.codec.proofs.FormLaws.{onto}

-- the same numbers are asked for, and R holds of the two values
pub data Alike {A B : Type 0} (R : A → B → Type 0) : Form A → Form B → Type 0 where
  both_done : {a : A} {b : B} → R a b → Alike R (done a) (done b)
  both_ask : {m : ℕ} {j : ℕ → Form A} {k : ℕ → Form B} → ((v : ℕ) → v < m → Alike R (j v) (k v))
      → Alike R (ask m j) (ask m k)
  both_fault : Alike R fault fault

-- ---- one form after another
-- three forms in a row
pub then_then : {A B C : Type 0} (F : Form A) (j : A → Form B) (k : B → Form C)
    → (F >>= j) >>= k ≡ F >>= λ a. j a >>= k
unfolding ◌>>=◌
then_then (done a) j k = refl
then_then fault j k = refl
then_then (ask m h) j k = ap (ask m) (fun_ext (λ v. then_then (h v) j k))

-- the first of several, then the others, and then what is done with all
many_then : {A B : Type 0} (n : ℕ) (F : Form A) (k : List A → Form B)
    → many (suc n) F >>= k ≡ F >>= λ a. many n F >>= λ rest. k (a ∷ rest)
unfolding ◌>>=◌ many
many_then n F k = then_then F _ k ∙ ap (λ j. F >>= j) (fun_ext (λ a. then_then (many n F) _ k))

module _ {A B C D : Type 0} {R : A → B → Type 0} {Q : C → D → Type 0} where
  -- forms that ask alike, and behind them forms that do
  pub alike_then : {F : Form A} {G : Form B} {j : A → Form C} {k : B → Form D} → Alike R F G
      → ((a : A) (b : B) → R a b → Alike Q (j a) (k b)) → Alike Q (F >>= j) (G >>= k)
  unfolding ◌>>=◌
  alike_then (both_done r) h = h _ _ r
  alike_then (both_ask f) h = both_ask (λ v l. alike_then (f v l) h)
  alike_then both_fault h = both_fault

module _ {A B C : Type 0} {R : A → B → Type 0} {Q : C → B → Type 0} where
  -- a value that is changed when it is read
  pub alike_done : {F : Form A} {G : Form B} (g : A → C) → Alike R F G → ((a : A) (b : B) → R a b → Q (g a) b)
      → Alike Q (F >>= λ a. done (g a)) G
  unfolding ◌>>=◌
  alike_done g (both_done r) h = both_done (h _ _ r)
  alike_done g (both_ask f) h = both_ask (λ v l. alike_done g (f v l) h)
  alike_done g both_fault h = both_fault

-- ---- what is read
module _ {A B : Type 0} (f : A → B) where
  -- f of the one value is the other
  abbrev pub Gives : A → B → Type 0
  Gives a b = f a ≡ b

  -- then f of what the one form reads is what the other reads
  pub reads_alike : {F : Form A} {G : Form B} → Alike Gives F G → (s : List ℕ)
      → read_in G s ≡ onto (λ a t. got (f a) t) (read_in F s)
  unfolding read_in
  reads_alike (both_done r) s = ap (λ b. got b s) (sym r)
  reads_alike both_fault s = refl
  reads_alike (both_ask {m} {j} {k} h) s = by_number (λ v l t. reads_alike (h v l) t) (number_in s)
    where
      Then : Type 0
      Then = (v : ℕ) → v < m → (t : List ℕ) → read_in (k v) t ≡ onto (λ a t. got (f a) t) (read_in (j v) t)

      by_test : Then → (v : ℕ) (t : List ℕ) (b : Bool) → ltb v m ≡ b
          → ◌≡◌ {A = Got B} (cond b (read_in (k v) t) (refused (refusal_number Model)))
          (onto (λ a t. got (f a) t) (cond b (read_in (j v) t) (refused (refusal_number Model))))
      by_test h v t true e = h v (ltb-true v m e) t
      by_test h v t false e = refl

      by_number : Then → (g : Got ℕ) → below m g (λ v t. read_in (k v) t)
          ≡ onto (λ a t. got (f a) t) (below m g (λ v t. read_in (j v) t))
      by_number h (refused e) = refl
      by_number h (got v t) = by_test h v t (ltb v m) refl

  -- several such forms one behind the other
  abbrev pub GivesEach : ℕ → List A → List B → Type 0
  GivesEach n xs ys = (map f xs ≡ ys) × (length xs ≡ n)

  pub alike_many : {F : Form A} {G : Form B} → Alike Gives F G → (n : ℕ) → Alike (GivesEach n) (many n F) (many n G)
  unfolding many
  alike_many h zero = both_done (refl, refl)
  alike_many h (suc n) =
      alike_then h (λ a b p. alike_then (alike_many h n) (λ xs ys q.
      both_done (ap₂ (λ y ys. y ∷ ys) p q.0, ap suc q.1)))

  -- an array with blanks behind them
  pub alike_array : {F : Form A} {G : Form B} → Alike Gives F G → (size : ℕ) (blank : A) (n : ℕ)
      → Alike (λ xs ys. map f (take n xs) ≡ ys) (array size blank n F) (many n G)
  alike_array h size blank n = alike_done (padded size blank) (alike_many h n) (λ xs ys q.
      ap (map f) (take_at xs (replicate (size - length xs) blank) n q.1) ∙ q.0)

  -- `both` items at once, or m and then n of them
  pub alike_split : {C D : Type 0} {Q : C → D → Type 0} {F : Form A} {G : Form B} → Alike Gives F G
      → (m n both : ℕ) → both ≡ m + n → (j : List A → Form C) {k : List B → Form D}
      → ((xs : List A) (ys : List B) → GivesEach m xs ys → Alike Q (many n F >>= λ more. j (xs ++ more)) (k ys))
      → Alike Q (many both F >>= j) (many m G >>= k)
  unfolding many ◌>>=◌
  alike_split {Q = Q} {F = F} h zero n both e j {k} t =
      let same : n ≡ both = omega arith in
      subst (λ (i : ℕ). Alike Q (many i F >>= j) (k [])) same (t [] [] (refl, refl))
  alike_split {Q = Q} {F = F} {G = G} h (suc m) n both e j {k} t =
      let same : suc (m + n) ≡ both = omega arith in
      subst (λ (i : ℕ). Alike Q (many i F >>= j) (many (suc m) G >>= k)) same
      (subst₂ (λ F G. Alike Q F G) (sym (many_then (m + n) F j)) (sym (many_then m G k))
      (alike_then h (λ a b p. alike_split h m n (m + n) refl (λ rest. j (a ∷ rest)) (λ xs ys q.
      t (a ∷ xs) (b ∷ ys) (ap₂ (λ y ys. y ∷ ys) p q.0, ap suc q.1)))))
