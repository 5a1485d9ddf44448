-- Two strictly rising sequences with the same members are the same sequence.
use mathlib.Core.Path.{◌≡◌, refl, subst}
use Prim.Native.Nat.{ℕ, zero, suc, ◌≤◌, ◌<◌}
use native.Mathlib.Nat.{le_antisymm}
use native.Mathlib.Omega.{arith}
use native.Mathlib.Decide.{ℕ_discrete, dec_lt}

-- R is a strict order of things that are the same by E
pub record Strict {A : Type 0} (E R : A → A → Type 0) : Type 0 where
  pub flip : {a b : A} → E a b → E b a
  pub irr : {a b : A} → R a b → E a b → ⊥
  pub chain : {a b c : A} → R a b → R b c → R a c
  pub left : {a b c : A} → E a b → R b c → R a c
  pub right : {a b c : A} → R a b → E b c → R a c

-- a strictly rising map of indices never falls behind
rises : (m : ℕ) (f : (i : ℕ) → i < m → ℕ) → ((i k : ℕ) (p : i < m) (q : k < m) → i < k → f i p < f k q)
    → (i : ℕ) (p : i < m) → i ≤ f i p
rises m f mono zero p = omega arith
rises m f mono (suc i) p =
    let q : i < m = omega arith in
    omega (arith, rises m f mono i q, mono i (suc i) q p (omega arith))

module _ {A : Type 0} {E R : A → A → Type 0} (S : Strict E R) where
  -- each of the m things of the sequence is before the next
  abbrev pub Rising : ℕ → (ℕ → A) → Type 0
  Rising m a = (i : ℕ) → suc i < m → R (a i) (a (suc i))

  -- each of the m things of a is one of the p things of b
  abbrev pub Into : ℕ → (ℕ → A) → ℕ → (ℕ → A) → Type 0
  Into m a p b = (i : ℕ) → i < m → (k : ℕ) × (k < p) × E (a i) (b k)

  -- of two of them the one with the lower index is before the other
  pub far : (m : ℕ) (a : ℕ → A) → Rising m a → (i k : ℕ) → i < k → k < m → R (a i) (a k)
  far m a s i zero l h = absurd (omega arith)
  far m a s i (suc k) l h = go (ℕ_discrete i k) (far m a s i k)
    where
      go : Dec (i ≡ k) → (i < k → k < m → R (a i) (a k)) → R (a i) (a (suc k))
      go (yes e) r = rw e (s k h)
      go (no n) r = S.chain (r (omega arith) (omega arith)) (s k h)

  keeps : (m p : ℕ) (a b : ℕ → A) → Rising m a → Rising p b → (f : Into m a p b)
      → (i k : ℕ) (u : i < m) (v : k < m) → i < k → (f i u).0 < (f k v).0
  keeps m p a b s t f i k u v l = go (dec_lt (f i u).0 (f k v).0) (ℕ_discrete (f i u).0 (f k v).0)
    where
      here : R (a i) (a k)
      here = far m a s i k l v

      go : Dec ((f i u).0 < (f k v).0) → Dec ((f i u).0 ≡ (f k v).0) → (f i u).0 < (f k v).0
      go (yes h) d = h
      go (no h) (yes e) =
          absurd (S.irr (S.right here (f k v).2) (subst (λ z. E (a i) (b z)) e (f i u).2))
      go (no h) (no e) =
          let down : R (b (f k v).0) (b (f i u).0) = far p b t (f k v).0 (f i u).0 (omega arith) (f i u).1 in
          absurd (S.irr (S.chain here (S.left (f k v).2 down)) (f i u).2)

  module _ (m p : ℕ) (a b : ℕ → A) (s : Rising m a) (t : Rising p b) (f : Into m a p b) (g : Into p b m a) where
    -- no member of either stands earlier in the other
    ahead : (i : ℕ) (u : i < m) → i ≤ (f i u).0
    ahead = rises m (λ i u. (f i u).0) (keeps m p a b s t f)

    behind : (k : ℕ) (v : k < p) → k ≤ (g k v).0
    behind = rises p (λ k v. (g k v).0) (keeps p m b a t s g)

    fits : m ≤ p
    fits = go m refl
      where
        go : (k : ℕ) → k ≡ m → m ≤ p
        go zero e = omega arith
        go (suc k) e = let l : k < m = omega arith in omega (arith, ahead k l, (f k l).1)

    -- each member has the same index in both
    pub stays : (i : ℕ) (u : i < m) → E (a i) (b i)
    stays i u = let (k, v, e) = f i u in go k v e (ahead i u) (g k v) (behind k v)
      where
        go : (k : ℕ) → k < p → E (a i) (b k) → i ≤ k → (r : (j : ℕ) × (j < m) × E (b k) (a j)) → k ≤ r.0
            → E (a i) (b i)
        go k v e h (j, w, q) h' = eq (dec_lt i j)
          where
            eq : Dec (i < j) → E (a i) (b i)
            eq (yes c) = absurd (S.irr (S.right (far m a s i j c w) (S.flip q)) e)
            eq (no c) = subst (λ z. E (a i) (b z)) (omega arith) e

  -- both are equally long
  pub as_long : (m p : ℕ) (a b : ℕ → A) → Rising m a → Rising p b → Into m a p b → Into p b m a → m ≡ p
  as_long m p a b s t f g = le_antisymm (fits m p a b s t f g) (fits p m b a t s g f)
