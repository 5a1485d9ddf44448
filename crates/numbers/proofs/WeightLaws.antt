-- Laws of weights: weight_of is the largest weight at which one vector stays below another, and it stays within limits.
use mathlib.Core.Path.{◌≡◌, refl, ap, subst}
use mathlib.Core.Logic.{◌↔◌}
use mathlib.Core.Bool.{Bool, true, false, cond}
use Prim.Native.Nat.{ℕ, zero, suc, ◌+◌, ◌<◌}
use native.Mathlib.Omega.{arith}
use native.Mathlib.Decide.{ℕ_discrete}
use lib.IntN.{neg_ℤ, ◌+ℤ◌}
use Rattle.numbers.specs.Numbers.{Num, −∞, fin, ◌≼◌, at_most, ◌⊗◌, IsFin, Within}
use Rattle.numbers.specs.Places.{Vec}
use Rattle.numbers.specs.Weights.{Cap, free, cap, bound, lower, meet, allowed, value, weight_of}
use Rattle.numbers.proofs.IntegerLaws.{sum, neg, hi_le, lo_le}
use Rattle.numbers.proofs.NumberLaws.{low_≼, ≼_refl, ≼_trans, ≼_antisym, ≼_total, tells_at_most, dec_fin, not_fin}
use Rattle.numbers.proofs.NumberLaws.{⊗_low, ⊗_mono_l, ⊗_fin_r}

-- a number is at most a bound
abbrev pub Under : Num → Cap → Type 0
Under c free = Unit {0}
Under c (cap x) = c ≼ x

-- c ⊗ g is at most x exactly if c is at most their bound
bound_iff : (c g x : Num) → c ⊗ g ≼ x ↔ Under c (bound x g)
bound_iff c −∞ x = (λ h. tt, λ u. rw ⊗_low low_≼)
bound_iff −∞ (fin b) −∞ = (λ h. low_≼, λ u. low_≼)
bound_iff (fin c) (fin b) −∞ = (λ h. absurd h.le, λ u. absurd u.le)
bound_iff −∞ (fin b) (fin a) = (λ h. low_≼, λ u. low_≼)
bound_iff (fin c) (fin b) (fin a) = (
  λ h. omega (arith, sum c b, sum a (neg_ℤ b), neg b),
  λ u. omega (arith, sum c b, sum a (neg_ℤ b), neg b),
)

-- at most both is at most the smaller of the two
lower_iff : (c x y : Num) → ((c ≼ x) × (c ≼ y)) ↔ (c ≼ lower x y)
unfolding lower
lower_iff c x y = go (at_most x y) refl
  where
    go : (t : Bool) → at_most x y ≡ t → ((c ≼ x) × (c ≼ y)) ↔ (c ≼ cond t x y)
    go true e = (λ k. k.0, λ k. (k, ≼_trans k ((tells_at_most x y).yes e)))
    go false e = (λ k. k.1, λ k. (≼_trans k (≼_total x y ((tells_at_most x y).no e)), k))

-- the smaller of numbers is known by what is at most it
lower_by : {a b : Num} → ((c : Num) → (c ≼ a) ↔ (c ≼ b)) → a ≡ b
lower_by {a} {b} h = ≼_antisym ((h a).0 (≼_refl a)) ((h b).1 (≼_refl b))

lower_comm : (x y : Num) → lower x y ≡ lower y x
lower_comm x y = lower_by (λ c. (to c x y, to c y x))
  where
    to : (c x y : Num) → c ≼ lower x y → c ≼ lower y x
    to c x y k = let h = (lower_iff c x y).1 k in (lower_iff c y x).0 (h.1, h.0)

lower_turn : (x y z : Num) → lower (lower x y) z ≡ lower x (lower z y)
lower_turn x y z = lower_by (λ c. (to c, from c))
  where
    to : (c : Num) → c ≼ lower (lower x y) z → c ≼ lower x (lower z y)
    to c k =
        let h = (lower_iff c (lower x y) z).1 k in
        let l = (lower_iff c x y).1 h.0 in
        (lower_iff c x (lower z y)).0 (l.0, (lower_iff c z y).0 (h.1, l.1))

    from : (c : Num) → c ≼ lower x (lower z y) → c ≼ lower (lower x y) z
    from c k =
        let h = (lower_iff c x (lower z y)).1 k in
        let l = (lower_iff c z y).1 h.1 in
        (lower_iff c (lower x y) z).0 ((lower_iff c x y).0 (h.0, l.1), l.0)

-- no bound changes nothing
pub meet_free : (q : Cap) → q ≡ meet q free
unfolding meet
meet_free free = refl
meet_free (cap x) = refl

-- the second and the third of three bounds change places
pub meet_turn : (p q r : Cap) → meet (meet p q) r ≡ meet p (meet r q)
unfolding meet
meet_turn free free free = refl
meet_turn free free (cap z) = refl
meet_turn free (cap y) free = refl
meet_turn free (cap y) (cap z) = ap cap (lower_comm y z)
meet_turn (cap x) free free = refl
meet_turn (cap x) free (cap z) = refl
meet_turn (cap x) (cap y) free = refl
meet_turn (cap x) (cap y) (cap z) = ap cap (lower_turn x y z)

-- −∞ is the smaller of any two bounds
pub meet_low : (p : Cap) → meet p (cap −∞) ≡ cap −∞
unfolding meet
meet_low free = refl
meet_low (cap x) = ap cap (≼_antisym ((lower_iff (lower x −∞) x −∞).1 (≼_refl (lower x −∞))).1 low_≼)

meet_iff : (c : Num) (p q : Cap) → (Under c p × Under c q) ↔ Under c (meet p q)
unfolding meet
meet_iff c free q = (λ h. h.1, λ h. (tt, h))
meet_iff c (cap x) free = (λ h. h.0, λ h. (h, tt))
meet_iff c (cap x) (cap y) = lower_iff c x y

-- the weights that keep g below X at the first d places are those at most `allowed`
pub allowed_iff : (d : ℕ) (g X : Vec) (c : Num) → ((k : ℕ) → k < d → c ⊗ g k ≼ X k) ↔ Under c (allowed d g X)
unfolding allowed
allowed_iff zero g X c = (λ h. tt, λ u k l. absurd (omega arith))
allowed_iff (suc d) g X c = (to (allowed_iff d g X c).0, from (allowed_iff d g X c).1)
  where
    Fits : ℕ → Type 0
    Fits m = (k : ℕ) → k < m → c ⊗ g k ≼ X k

    here : Cap
    here = bound (X d) (g d)

    to : (Fits d → Under c (allowed d g X)) → Fits (suc d) → Under c (meet (allowed d g X) here)
    to r h = (meet_iff c (allowed d g X) here).0
        (r (λ k l. h k (omega arith)), (bound_iff c (g d) (X d)).0 (h d (omega arith)))

    from : (Under c (allowed d g X) → Fits d) → Under c (meet (allowed d g X) here) → Fits (suc d)
    from r u k l = go (ℕ_discrete k d)
      where
        both : Under c (allowed d g X) × Under c here
        both = (meet_iff c (allowed d g X) here).1 u

        go : Dec (k ≡ d) → c ⊗ g k ≼ X k
        go (yes e) = rw e ((bound_iff c (g d) (X d)).1 both.1)
        go (no n) = r both.0 k (omega arith)

under_value : (p : Cap) → Under (value p) p
under_value free = tt
under_value (cap x) = ≼_refl x

-- g, weighted by its weight, stays below X
pub weight_below : (d : ℕ) (g X : Vec) (k : ℕ) → k < d → weight_of d g X ⊗ g k ≼ X k
unfolding weight_of
weight_below d g X = (allowed_iff d g X (value (allowed d g X))).1 (under_value (allowed d g X))

-- ---- a vector with a finite entry is bounded
abbrev IsCap : Cap → Type 0
IsCap free = ⊥
IsCap (cap x) = Unit {0}

meet_cap_l : (p q : Cap) → IsCap p → IsCap (meet p q)
unfolding meet
meet_cap_l free q h = absurd h
meet_cap_l (cap x) free h = tt
meet_cap_l (cap x) (cap y) h = tt

meet_cap_r : (p q : Cap) → IsCap q → IsCap (meet p q)
unfolding meet
meet_cap_r free q h = h
meet_cap_r (cap x) free h = tt
meet_cap_r (cap x) (cap y) h = tt

bound_cap : (x g : Num) → IsFin g → IsCap (bound x g)
bound_cap x −∞ f = f
bound_cap −∞ (fin b) f = tt
bound_cap (fin a) (fin b) f = tt

allowed_cap : (d : ℕ) (g X : Vec) (k : ℕ) → k < d → IsFin (g k) → IsCap (allowed d g X)
unfolding allowed
allowed_cap zero g X k l f = absurd (omega arith)
allowed_cap (suc d) g X k l f = go (allowed_cap d g X k) (ℕ_discrete k d)
  where
    here : Cap
    here = bound (X d) (g d)

    go : (k < d → IsFin (g k) → IsCap (allowed d g X)) → Dec (k ≡ d) → IsCap (meet (allowed d g X) here)
    go r (yes e) = meet_cap_r (allowed d g X) here (bound_cap (X d) (g d) (subst (λ i. IsFin (g i)) e f))
    go r (no n) = meet_cap_l (allowed d g X) here (r (omega arith) f)

under_most : (p : Cap) (c : Num) → IsCap p → Under c p → c ≼ value p
under_most free c h u = absurd h
under_most (cap x) c h u = u

-- no weight that keeps g below X lifts an entry of g higher than its weight does
pub weight_most : (d : ℕ) (g X : Vec) (c : Num) → ((k : ℕ) → k < d → c ⊗ g k ≼ X k)
    → (j : ℕ) → j < d → c ⊗ g j ≼ weight_of d g X ⊗ g j
unfolding weight_of
weight_most d g X c h j l = go (dec_fin (c ⊗ g j))
  where
    go : Dec (IsFin (c ⊗ g j)) → c ⊗ g j ≼ value (allowed d g X) ⊗ g j
    go (yes f) = ⊗_mono_l (g j)
        (under_most (allowed d g X) c (allowed_cap d g X j l (⊗_fin_r c (g j) f)) ((allowed_iff d g X c).0 h))
    go (no n) = not_fin (c ⊗ g j) n

-- ---- limits

-- no bound, or one within k
abbrev Short : ℕ → Cap → Type 0
Short k free = Unit {0}
Short k (cap x) = Within k x

bound_within : (k : ℕ) (x g : Num) → Within k g → Within k x → Short (k + k) (bound x g)
bound_within k x −∞ h n = tt
bound_within k −∞ (fin b) h n = record { near = tt }
bound_within k (fin a) (fin b) h n = record {
  near = (
    hi_le (a +ℤ neg_ℤ b) (k + k) (omega (arith, sum a (neg_ℤ b), neg b)),
    lo_le (a +ℤ neg_ℤ b) (k + k) (omega (arith, sum a (neg_ℤ b), neg b)),
  );
}

lower_within : {k : ℕ} (x y : Num) → Within k x → Within k y → Within k (lower x y)
unfolding lower
lower_within {k} x y h n = go (at_most x y)
  where
    go : (t : Bool) → Within k (cond t x y)
    go true = h
    go false = n

meet_within : (k : ℕ) (p q : Cap) → Short k p → Short k q → Short k (meet p q)
unfolding meet
meet_within k free q h n = n
meet_within k (cap x) free h n = h
meet_within k (cap x) (cap y) h n = lower_within x y h n

allowed_within : (k d : ℕ) (g X : Vec) → ((j : ℕ) → j < d → Within k (g j)) → ((j : ℕ) → j < d → Within k (X j))
    → Short (k + k) (allowed d g X)
unfolding allowed
allowed_within k zero g X h n = tt
allowed_within k (suc d) g X h n = meet_within (k + k) (allowed d g X) (bound (X d) (g d))
    (allowed_within k d g X (λ j l. h j (omega arith)) (λ j l. n j (omega arith)))
    (bound_within k (X d) (g d) (h d (omega arith)) (n d (omega arith)))

value_within : (k : ℕ) (p : Cap) → Short k p → Within k (value p)
value_within k free h = record { near = tt }
value_within k (cap x) h = h

-- vectors within k have a weight within k + k
pub weight_within : {k : ℕ} (d : ℕ) (g X : Vec) → ((j : ℕ) → j < d → Within k (g j))
    → ((j : ℕ) → j < d → Within k (X j)) → Within (k + k) (weight_of d g X)
unfolding weight_of
weight_within {k} d g X h n = value_within (k + k) (allowed d g X) (allowed_within k d g X h n)

-- ---- only the first d places count
allowed_ext : (d : ℕ) (g h X Y : Vec) → ((j : ℕ) → j < d → g j ≡ h j) → ((j : ℕ) → j < d → X j ≡ Y j)
    → allowed d g X ≡ allowed d h Y
unfolding allowed
allowed_ext zero g h X Y e q = refl
allowed_ext (suc d) g h X Y e q =
    rw (
      allowed_ext d g h X Y (λ j l. e j (omega arith)) (λ j l. q j (omega arith)),
      e d (omega arith),
      q d (omega arith),
    )

-- vectors with the same entries have the same weight
pub weight_ext : (d : ℕ) (g h X Y : Vec) → ((j : ℕ) → j < d → g j ≡ h j) → ((j : ℕ) → j < d → X j ≡ Y j)
    → weight_of d g X ≡ weight_of d h Y
unfolding weight_of
weight_ext d g h X Y e q = ap value (allowed_ext d g h X Y e q)
