-- Laws of numbers: the order, shifts, the product, the larger of two, the largest of several, limits.
use mathlib.Core.Path.{◌≡◌, refl, sym, ◌∙◌, ap, subst}
use mathlib.Core.Logic.{◌⊎◌, inl, inr}
use mathlib.Core.Bool.{Bool, true, false, cond}
use Prim.Native.Nat.{ℕ, zero, suc, ◌+◌, ◌≤◌, ◌<◌}
use native.Mathlib.Omega.{arith}
use native.Mathlib.Decide.{ℕ_discrete}
use lib.IntN.{ℤ, pos, neg_ℤ, ◌+ℤ◌, +ℤ_assoc, +ℤ_comm, +ℤ_idl, +ℤ_idr, ℤ_discrete}
use Rattle.numbers.specs.Integers.{hi, lo, ◌⊑◌}
use Rattle.numbers.specs.Numbers.{Num, −∞, fin, ◌≼◌, at_most, ◌⊕◌, ◌▷◌, ◌⊗◌, ⨁, IsFin, Near, Within, nought}
use Rattle.numbers.proofs.IntegerLaws.{same, sum, neg, hi_le, lo_le, zarith}
use Rattle.numbers.proofs.Tells.{Tells, always, never, decided}

-- ---- the order
-- −∞ is below every number
pub low_≼ : {x : Num} → −∞ ≼ x
low_≼ = record { le = tt }

-- every number is at most itself
pub ≼_refl : (x : Num) → x ≼ x
≼_refl −∞ = low_≼
≼_refl (fin a) = omega arith

-- the order passes on
pub ≼_trans : {x y z : Num} → x ≼ y → y ≼ z → x ≼ z
≼_trans {x = −∞} {y} {z} h k = low_≼
≼_trans {x = fin a} {y = −∞} {z} h k = absurd h.le
≼_trans {x = fin a} {y = fin b} {z = −∞} h k = absurd k.le
≼_trans {x = fin a} {y = fin b} {z = fin c} h k = omega arith

-- numbers at most each other are equal
pub ≼_antisym : {x y : Num} → x ≼ y → y ≼ x → x ≡ y
≼_antisym {x = −∞} {y = −∞} h k = refl
≼_antisym {x = −∞} {y = fin b} h k = absurd k.le
≼_antisym {x = fin a} {y = −∞} h k = absurd h.le
≼_antisym {x = fin a} {y = fin b} h k = ap fin (same a b (omega arith))

-- equal numbers are at most each other
pub ≼_of_eq : {x y : Num} → x ≡ y → x ≼ y
≼_of_eq {x} {y} p = subst (λ z. x ≼ z) p (≼_refl x)

-- the test of the order tells it
pub tells_at_most : (x y : Num) → Tells (at_most x y) (x ≼ y)
tells_at_most −∞ y = always low_≼
tells_at_most (fin a) −∞ = never (λ h. h.le)
tells_at_most (fin a) (fin b) = record { yes = λ e. omega zarith; no = λ e h. omega zarith }

-- the order can be decided
pub dec_≼ : (x y : Num) → Dec (x ≼ y)
dec_≼ x y = decided (at_most x y) (tells_at_most x y)

-- if the first is not at most the second, the second is at most the first
pub ≼_total : (x y : Num) → ¬ (x ≼ y) → y ≼ x
≼_total −∞ y h = absurd (h low_≼)
≼_total (fin a) −∞ h = low_≼
≼_total (fin a) (fin b) h = go (dec_≼ (fin b) (fin a))
  where
    go : Dec (fin b ≼ fin a) → fin b ≼ fin a
    go (yes k) = k
    go (no k) = absurd (h (record { le = omega (arith, over a b k) }))
      where
        over : (a b : ℤ) → ¬ (fin b ≼ fin a) → ¬ (hi b + lo a ≤ hi a + lo b)
        over a b k l = k (record { le = l })

-- an integer is not −∞
pub fin_low : {z : ℤ} → fin z ≡ −∞ → ⊥
fin_low e = (≼_of_eq e).le

-- a number stands for one integer
pub fin_inj : {a b : ℤ} → fin a ≡ fin b → a ≡ b
fin_inj h = cc

-- whether two numbers are equal can be decided
pub Num-discrete : Discrete Num
Num-discrete −∞ −∞ = yes refl
Num-discrete −∞ (fin a) = no (λ e. fin_low (sym e))
Num-discrete (fin a) −∞ = no fin_low
Num-discrete (fin a) (fin b) = go (ℤ_discrete a b)
  where
    go : Dec (a ≡ b) → Dec (fin a ≡ fin b)
    go (yes e) = yes (ap fin e)
    go (no n) = no (λ e. n (fin_inj e))

-- ---- finite numbers
-- whether a number is finite can be decided
pub dec_fin : (x : Num) → Dec (IsFin x)
dec_fin −∞ = no (λ f. f)
dec_fin (fin a) = yes tt

-- what is not finite is below everything
pub not_fin : (x : Num) → ¬ IsFin x → {y : Num} → x ≼ y
not_fin −∞ n = low_≼
not_fin (fin a) n = absurd (n tt)

-- what is not below some number is finite
pub not_≼ : {x y : Num} → ¬ (x ≼ y) → IsFin x
not_≼ {x = −∞} h = h low_≼
not_≼ {x = fin a} h = tt

-- what is above a finite number is finite
pub fin_up : {x y : Num} → IsFin x → x ≼ y → IsFin y
fin_up {x = −∞} {y} f h = absurd f
fin_up {x = fin a} {y = −∞} f h = absurd h.le
fin_up {x = fin a} {y = fin b} f h = tt

-- ---- shifts
-- a shift keeps the order
pub ▷_mono : (c : ℤ) {x y : Num} → x ≼ y → c ▷ x ≼ c ▷ y
▷_mono c {x = −∞} {y} h = low_≼
▷_mono c {x = fin a} {y = −∞} h = absurd h.le
▷_mono c {x = fin a} {y = fin b} h = omega (arith, sum c a, sum c b)

-- a shift can be taken off both sides of an order
pub ▷_cancel : (c : ℤ) (x y : Num) → c ▷ x ≼ c ▷ y → x ≼ y
▷_cancel c −∞ y h = low_≼
▷_cancel c (fin a) −∞ h = absurd h.le
▷_cancel c (fin a) (fin b) h = omega (arith, sum c a, sum c b)

-- a shift by a sum is two shifts
pub ▷_assoc : (c d : ℤ) (x : Num) → (c +ℤ d) ▷ x ≡ c ▷ d ▷ x
▷_assoc c d −∞ = refl
▷_assoc c d (fin a) = ap fin (+ℤ_assoc c d a)

-- a shift by 0 changes nothing
pub ▷_zero : (x : Num) → pos 0 ▷ x ≡ x
▷_zero −∞ = refl
▷_zero (fin a) = ap fin (+ℤ_idl a)

-- a number is finite if its shift is
pub ▷_fin : (c : ℤ) (x : Num) → IsFin (c ▷ x) → IsFin x
▷_fin c −∞ f = f
▷_fin c (fin a) f = tt

-- the shift of a finite number is finite
pub ▷_fin' : (c : ℤ) (x : Num) → IsFin x → IsFin (c ▷ x)
▷_fin' c −∞ f = f
▷_fin' c (fin a) f = tt

-- ---- the product
-- a product keeps the order of its right factor
pub ⊗_mono : (a : Num) {x y : Num} → x ≼ y → a ⊗ x ≼ a ⊗ y
⊗_mono −∞ h = low_≼
⊗_mono (fin c) h = ▷_mono c h

-- −∞ absorbs as the right factor too
pub ⊗_low : (a : Num) → a ⊗ −∞ ≡ −∞
⊗_low −∞ = refl
⊗_low (fin c) = refl

-- 0 as the right factor changes nothing
pub ⊗_nought : (c : Num) → c ⊗ nought ≡ c
⊗_nought −∞ = refl
⊗_nought (fin z) = ap fin (+ℤ_idr z)

-- a shift of a product shifts its right factor
pub ▷_⊗ : (c : ℤ) (a x : Num) → c ▷ (a ⊗ x) ≡ a ⊗ (c ▷ x)
▷_⊗ c −∞ x = refl
▷_⊗ c (fin b) −∞ = refl
▷_⊗ c (fin b) (fin z) = ap fin (same (c +ℤ (b +ℤ z)) (b +ℤ (c +ℤ z)) regroup)
  where
    regroup : hi (c +ℤ (b +ℤ z)) + lo (b +ℤ (c +ℤ z)) ≡ hi (b +ℤ (c +ℤ z)) + lo (c +ℤ (b +ℤ z))
    regroup = omega (arith, sum c (b +ℤ z), sum b z, sum b (c +ℤ z), sum c z)

-- the first two of three factors change places
pub ⊗_left_comm : (a b x : Num) → a ⊗ b ⊗ x ≡ b ⊗ a ⊗ x
⊗_left_comm a −∞ x = ⊗_low a
⊗_left_comm a (fin c) x = sym (▷_⊗ c a x)

-- two factors change places
pub ⊗_comm : (a b : Num) → a ⊗ b ≡ b ⊗ a
⊗_comm −∞ b = sym (⊗_low b)
⊗_comm (fin c) −∞ = refl
⊗_comm (fin c) (fin e) = ap fin (+ℤ_comm c e)

-- a product keeps the order of its left factor
pub ⊗_mono_l : {a b : Num} (x : Num) → a ≼ b → a ⊗ x ≼ b ⊗ x
⊗_mono_l {a} {b} x h = rw (⊗_comm a x, ⊗_comm b x) (⊗_mono x h)

-- the right factor of a finite product is finite
pub ⊗_fin_r : (a x : Num) → IsFin (a ⊗ x) → IsFin x
⊗_fin_r −∞ x f = absurd f
⊗_fin_r (fin c) x f = ▷_fin c x f

-- the left factor of a finite product is finite
pub ⊗_fin_l : (a x : Num) → IsFin (a ⊗ x) → IsFin a
⊗_fin_l −∞ x f = f
⊗_fin_l (fin c) x f = tt

-- ---- the larger of two: one of the two, above both, below what is above both
-- it is one of the two, and the other is at most it
pub ⊕_by : (x y : Num) → ((x ⊕ y ≡ x) × (y ≼ x)) ⊎ ((x ⊕ y ≡ y) × (x ≼ y))
unfolding ◌⊕◌
⊕_by x y = go (at_most x y) refl
  where
    go : (t : Bool) → at_most x y ≡ t → ((cond t y x ≡ x) × (y ≼ x)) ⊎ ((cond t y x ≡ y) × (x ≼ y))
    go true e = inr (refl, (tells_at_most x y).yes e)
    go false e = inl (refl, ≼_total x y ((tells_at_most x y).no e))

-- it is one of the two
pub ⊕_or : (x y : Num) → (x ⊕ y ≡ x) ⊎ (x ⊕ y ≡ y)
⊕_or x y = go (⊕_by x y)
  where
    go : ((x ⊕ y ≡ x) × (y ≼ x)) ⊎ ((x ⊕ y ≡ y) × (x ≼ y)) → (x ⊕ y ≡ x) ⊎ (x ⊕ y ≡ y)
    go (inl h) = inl h.0
    go (inr h) = inr h.0

-- it is above the first
pub ⊕_l : (x y : Num) → x ≼ x ⊕ y
⊕_l x y = go (⊕_by x y)
  where
    go : ((x ⊕ y ≡ x) × (y ≼ x)) ⊎ ((x ⊕ y ≡ y) × (x ≼ y)) → x ≼ x ⊕ y
    go (inl h) = rw h.0 (≼_refl x)
    go (inr h) = rw h.0 h.1

-- it is above the second
pub ⊕_r : (x y : Num) → y ≼ x ⊕ y
⊕_r x y = go (⊕_by x y)
  where
    go : ((x ⊕ y ≡ x) × (y ≼ x)) ⊎ ((x ⊕ y ≡ y) × (x ≼ y)) → y ≼ x ⊕ y
    go (inl h) = rw h.0 h.1
    go (inr h) = rw h.0 (≼_refl y)

-- it is below what is above both
pub ⊕_least : {x y z : Num} → x ≼ z → y ≼ z → x ⊕ y ≼ z
⊕_least {x} {y} {z} h k = go (⊕_or x y)
  where
    go : (x ⊕ y ≡ x) ⊎ (x ⊕ y ≡ y) → x ⊕ y ≼ z
    go (inl e) = rw e h
    go (inr e) = rw e k

-- of two numbers in order it is the second
pub ≼_⊕ : {x y : Num} → x ≼ y → x ⊕ y ≡ y
≼_⊕ {x} {y} h = ≼_antisym (⊕_least h (≼_refl y)) (⊕_r x y)

-- the two change places
pub ⊕_comm : (x y : Num) → x ⊕ y ≡ y ⊕ x
⊕_comm x y = ≼_antisym (⊕_least (⊕_r y x) (⊕_l y x)) (⊕_least (⊕_r x y) (⊕_l x y))

-- −∞ changes nothing
pub ⊕_low : (x : Num) → x ⊕ −∞ ≡ x
⊕_low x = ⊕_comm x −∞ ∙ ≼_⊕ low_≼

-- a factor of the larger is a factor of both
pub ⊗_⊕ : (a x y : Num) → a ⊗ (x ⊕ y) ≡ (a ⊗ x) ⊕ (a ⊗ y)
⊗_⊕ a x y = ≼_antisym (go (⊕_or x y)) (⊕_least (⊗_mono a (⊕_l x y)) (⊗_mono a (⊕_r x y)))
  where
    go : (x ⊕ y ≡ x) ⊎ (x ⊕ y ≡ y) → a ⊗ (x ⊕ y) ≼ (a ⊗ x) ⊕ (a ⊗ y)
    go (inl e) = rw e (⊕_l (a ⊗ x) (a ⊗ y))
    go (inr e) = rw e (⊕_r (a ⊗ x) (a ⊗ y))

-- ---- the largest of several
-- the largest is above each term
pub ⨁_le : (m : ℕ) (f : ℕ → Num) (i : ℕ) → i < m → f i ≼ ⨁ m f
unfolding ⨁
⨁_le zero f i h = absurd (omega arith)
⨁_le (suc m) f i h = go (⨁_le m f i) (ℕ_discrete i m)
  where
    go : (i < m → f i ≼ ⨁ m f) → Dec (i ≡ m) → f i ≼ ⨁ m f ⊕ f m
    go r (yes e) = rw e (⊕_r (⨁ m f) (f m))
    go r (no n) = ≼_trans (r (omega arith)) (⊕_l (⨁ m f) (f m))

-- what is above each shifted term is above the shifted largest
pub ⨁_least : (c : ℤ) (m : ℕ) (f : ℕ → Num) (z : Num) → ((i : ℕ) → i < m → c ▷ f i ≼ z) → c ▷ ⨁ m f ≼ z
unfolding ⨁
⨁_least c zero f z h = low_≼
⨁_least c (suc m) f z h = go (⨁_least c m f z (λ i k. h i (omega arith))) (⊕_or (⨁ m f) (f m))
  where
    go : c ▷ ⨁ m f ≼ z → (⨁ m f ⊕ f m ≡ ⨁ m f) ⊎ (⨁ m f ⊕ f m ≡ f m) → c ▷ (⨁ m f ⊕ f m) ≼ z
    go r (inl e) = rw e r
    go r (inr e) = rw e (h m (omega arith))

-- what is above each term is above the largest
pub ⨁_sup : (m : ℕ) (f : ℕ → Num) (z : Num) → ((i : ℕ) → i < m → f i ≼ z) → ⨁ m f ≼ z
⨁_sup m f z h = rw (▷_zero (⨁ m f)) at (⨁_least (pos 0) m f z (λ i l. rw ▷_zero (h i l)))

-- a finite largest is one of the terms
pub ⨁_at : (m : ℕ) (f : ℕ → Num) → IsFin (⨁ m f) → (i : ℕ) × (i < m) × (⨁ m f ≡ f i)
unfolding ⨁
⨁_at zero f h = absurd h
⨁_at (suc m) f h = go (⨁_at m f) (⊕_or (⨁ m f) (f m))
  where
    go : (IsFin (⨁ m f) → (i : ℕ) × (i < m) × (⨁ m f ≡ f i))
        → (⨁ m f ⊕ f m ≡ ⨁ m f) ⊎ (⨁ m f ⊕ f m ≡ f m)
        → (i : ℕ) × (i < suc m) × (⨁ m f ⊕ f m ≡ f i)
    go s (inl e) = let r = s (rw e at h) in (r.0, omega arith, e ∙ r.2)
    go s (inr e) = (m, omega arith, e)

-- equal terms have one largest
pub ⨁_ext : (m : ℕ) (f g : ℕ → Num) → ((i : ℕ) → i < m → f i ≡ g i) → ⨁ m f ≡ ⨁ m g
unfolding ⨁
⨁_ext zero f g h = refl
⨁_ext (suc m) f g h = rw (⨁_ext m f g (λ i l. h i (omega arith)), h m (omega arith))

-- a factor of the largest is a factor of each term
pub ⨁_⊗ : (a : Num) (m : ℕ) (f : ℕ → Num) → a ⊗ ⨁ m f ≡ ⨁ m (λ i. a ⊗ f i)
unfolding ⨁
⨁_⊗ a zero f = ⊗_low a
⨁_⊗ a (suc m) f = ⊗_⊕ a (⨁ m f) (f m) ∙ ap (λ x. x ⊕ (a ⊗ f m)) (⨁_⊗ a m f)

-- ---- limits
near_more : (k l : ℕ) (x : Num) → k ≤ l → Near k x → Near l x
near_more k l −∞ h n = tt
near_more k l (fin z) h n = omega arith

-- what is within k is within more
pub wider : {k l : ℕ} {x : Num} → k ≤ l → Within k x → Within l x
wider {k} {l} {x} h w = record { near = near_more k l x h w.near }

-- a product is within the sum of its factors' limits
pub ⊗_within : {k l : ℕ} {x y : Num} → Within k x → Within l y → Within (k + l) (x ⊗ y)
⊗_within {x = −∞} {y} h n = record { near = tt }
⊗_within {x = fin a} {y = −∞} h n = record { near = tt }
⊗_within {k} {l} {x = fin a} {y = fin b} h n =
    record { near = (hi_le (a +ℤ b) (k + l) (omega (arith, sum a b)), lo_le (a +ℤ b) (k + l) (omega (arith, sum a b))) }

-- the larger of two is within their limit
pub ⊕_within : {k : ℕ} {x y : Num} → Within k x → Within k y → Within k (x ⊕ y)
⊕_within {k} {x} {y} h n = go (⊕_or x y)
  where
    go : (x ⊕ y ≡ x) ⊎ (x ⊕ y ≡ y) → Within k (x ⊕ y)
    go (inl e) = rw e h
    go (inr e) = rw e n

-- the largest of several is within their limit
pub ⨁_within : {k : ℕ} (m : ℕ) (f : ℕ → Num) → ((i : ℕ) → i < m → Within k (f i)) → Within k (⨁ m f)
unfolding ⨁
⨁_within zero f h = record { near = tt }
⨁_within (suc m) f h = ⊕_within (⨁_within m f (λ i l. h i (omega arith))) (h m (omega arith))

-- ---- two shifts
-- a larger integer shifts a number higher
pub ▷_le : {c e : ℤ} → c ⊑ e → (x : Num) → c ▷ x ≼ e ▷ x
▷_le h −∞ = low_≼
▷_le {c} {e} h (fin z) = omega (arith, sum c z, sum e z)

-- a shift by 0 or more leaves no number lower
pub ▷_up : {c : ℤ} → pos 0 ⊑ c → (x : Num) → x ≼ c ▷ x
▷_up {c} h x = subst (λ z. z ≼ c ▷ x) (▷_zero x) (▷_le h x)

-- a shift, then back
pub ▷_undo : (c : ℤ) (x : Num) → neg_ℤ c ▷ c ▷ x ≡ x
▷_undo c −∞ = refl
▷_undo c (fin z) = ap fin (same (neg_ℤ c +ℤ (c +ℤ z)) z (omega (arith, sum (neg_ℤ c) (c +ℤ z), sum c z, neg c)))

-- back, then the shift
pub ▷_redo : (c : ℤ) (x : Num) → c ▷ neg_ℤ c ▷ x ≡ x
▷_redo c −∞ = refl
▷_redo c (fin z) = ap fin (same (c +ℤ (neg_ℤ c +ℤ z)) z (omega (arith, sum c (neg_ℤ c +ℤ z), sum (neg_ℤ c) z, neg c)))

-- a shift brought to the other side of an order
pub ▷_over : (c e : ℤ) (x y : Num) → c ▷ x ≼ e ▷ y → (c +ℤ neg_ℤ e) ▷ x ≼ y
▷_over c e −∞ y h = low_≼
▷_over c e (fin x) −∞ h = absurd h.le
▷_over c e (fin x) (fin y) h = omega (arith, sum c x, sum e y, sum (c +ℤ neg_ℤ e) x, sum c (neg_ℤ e), neg e)

-- the same, where the order goes the other way
pub ▷_under : (c e : ℤ) (x y : Num) → e ▷ y ≼ c ▷ x → y ≼ (c +ℤ neg_ℤ e) ▷ x
▷_under c e x −∞ h = low_≼
▷_under c e −∞ (fin y) h = absurd h.le
▷_under c e (fin x) (fin y) h = omega (arith, sum c x, sum e y, sum (c +ℤ neg_ℤ e) x, sum c (neg_ℤ e), neg e)
