-- Words of the code and their numbers.
-- A local of the code holds bits, `of_z w32 a`; a test reads them back, `to_z w32 (of_z w32 a)`.
-- These laws take the facts as the code leaves them.
use mathlib.Core.Path.{◌≡◌, refl, sym, ◌∙◌, ap}
use mathlib.Core.Bool.{Bool, true, false, cond, true≢false}
use mathlib.Core.Logic.{◌≢◌, ◌⊎◌, inl, inr}
use borrow.Author.Tests.{eqb-false, ne_eqb, ltb-true}
use Prim.Native.Nat.{ℕ, ◌≤◌, ◌<◌}
use native.Mathlib.Omega.{arith}
use lib.Dec.{T, eqb→eq}
use lib.IntN.{ℤ, pos, negsuc, ◌+ℤ◌, ◌-ℤ◌}
use lib.Signed.{lt_z, mag, non_neg}
use mir.Syntax.{w32}
use mir.Val.{SFits, of_z, to_z}
use mir.Facts.{to_z-of_z, of_z-to_z, sfits_to_z}
use Rattle.numbers.specs.Integers.{hi, lo, ◌⊑◌}
use Rattle.std.specs.Int.{int_max, int_min}
use Rattle.numbers.specs.Numbers.{Num, −∞, fin, IsFin, at_most, ◌≼◌, ◌⊕◌, ◌⊗◌, Near, Within}
use Rattle.numbers.specs.Words.{mark, is_mark, number, word}
use Rattle.numbers.specs.Weights.{Cap, free, cap, bound, lower, meet, allowed, value, weight_of, is_free, cap_of}
use Rattle.numbers.specs.Places.{Vec}
use Rattle.numbers.proofs.IntegerLaws.{sum, diff, hi_le, lo_le, lt_z_true, zarith}
use Rattle.numbers.proofs.NumberLaws.{low_≼, ≼_antisym, tells_at_most, ≼_⊕, ⊕_comm}
use Rattle.numbers.proofs.WeightLaws.{meet_free, meet_low}
use Rattle.numbers.proofs.Tells.{passes}

-- a word that is the mark
pub record Marked (z : ℤ) : Type 0 where
  pub is : number z ≡ −∞
  pub mark : z ≡ mark

-- a word that is not the mark
pub record Finite (z : ℤ) : Type 0 where
  pub is : number z ≡ fin z
  pub above : lo z < 2147483648

-- the mark stands for −∞
pub number_mark : number mark ≡ −∞
unfolding number
number_mark = refl

marked : {z : ℤ} → z ≡ mark → Marked z
marked e = record { is = ap number e ∙ number_mark; mark = e }

seen_by : (z : ℤ) (t : Bool) → SFits w32 z → is_mark z ≡ t → Marked z ⊎ Finite z
unfolding number
seen_by (pos n) t f e = inr (record { is = refl; above = omega arith })
seen_by (negsuc n) true f e = inl (marked (ap negsuc (eqb→eq n 2147483647 (rw e tt))))
seen_by (negsuc n) false f e =
    inr (record { is = rw e; above = let ne : n ≢ 2147483647 = eqb-false n 2147483647 e in omega arith })

-- every word is one or the other
pub seen : {z : ℤ} → SFits w32 z → Marked z ⊎ Finite z
seen {z} f = seen_by z (is_mark z) f refl

-- the test `a == MARK` passed
pub is_mark_lem : {z : ℤ} → SFits w32 z → of_z w32 z ≡ 2147483648 → Marked z
is_mark_lem f e = marked (sym (to_z-of_z f) ∙ ap (λ (n : ℕ). to_z w32 n) e)

-- the test `a == MARK` failed
pub not_mark : {z : ℤ} → SFits w32 z → (of_z w32 z ≡ 2147483648 → ⊥) → Finite z
not_mark {z} f h = go (seen f)
  where
    go : Marked z ⊎ Finite z → Finite z
    go (inl m) = absurd (h (ap (λ (x : ℤ). of_z w32 x) m.mark))
    go (inr p) = p

fits_of : (z : ℤ) (t : Bool) → is_mark z ≡ t → Near 1000000000 (cond t −∞ (fin z)) → SFits w32 z
fits_of (pos n) true e w = absurd (true≢false (sym e))
fits_of (pos n) false e w = record { sfits = omega arith }
fits_of (negsuc n) true e w = record { sfits = omega (arith, eqb→eq n 2147483647 (rw e tt)) }
fits_of (negsuc n) false e w = record { sfits = omega arith }

-- a number within the bound is a word's
pub near_fits : {z : ℤ} → Within 1000000000 (number z) → SFits w32 z
unfolding number
near_fits {z} w = fits_of z (is_mark z) refl w.near

-- a word that is not below LEAST
pub not_low : {z : ℤ} → Within 1000000000 (number z) → negsuc 999999999 ⊑ to_z w32 (of_z w32 z) → Finite z
not_low {z} w h = go (seen (near_fits w))
  where
    go : Marked z ⊎ Finite z → Finite z
    go (inl m) = let l = rw (to_z-of_z (near_fits w), m.mark) at h in absurd (omega arith)
    go (inr p) = p

-- a word below LEAST
pub is_low : {z : ℤ} → Within 1000000000 (number z) → to_z w32 (of_z w32 z) ⊑ negsuc 1000000000 → Marked z
is_low {z} w h = go (seen (near_fits w))
  where
    go : Marked z ⊎ Finite z → Marked z
    go (inl m) = m
    go (inr p) =
        let l = rw (to_z-of_z (near_fits w)) at h in
        let n : (hi z ≤ 1000000000) × (lo z ≤ 1000000000) = rw p.is at w.near in
        absurd (omega (zarith, n.1))

-- a word whose number is not −∞
pub finite_word : {z : ℤ} → SFits w32 z → IsFin (number z) → Finite z
finite_word {z} f h = go (seen f)
  where
    go : Marked z ⊎ Finite z → Finite z
    go (inl m) = absurd (rw m.is at h)
    go (inr p) = p

-- what the code reads back from a word's bits is the word
pub back : {z : ℤ} → mag z < 2147483648 → to_z w32 (of_z w32 z) ≡ z
back h = to_z-of_z {w = w32} (record { sfits = h })

-- a number below 2,147,483,648 as a word
pub word_is : (x : ℕ) → x < 2147483648 → to_z w32 x ≡ pos x
word_is x h = to_z-of_z {w = w32} {z = pos x} (record { sfits = omega arith })

-- the test `a < b` failed
pub lt_no : {a b : ℤ} → SFits w32 a → SFits w32 b → lt_z (to_z w32 (of_z w32 a)) (to_z w32 (of_z w32 b)) ≡ false → b ⊑ a
lt_no {a} {b} f g e = let h : lt_z a b ≡ false = rw (to_z-of_z f, to_z-of_z g) at e in omega zarith

-- the words' order is the numbers'
pub number_mono : {a b : ℤ} → SFits w32 a → SFits w32 b → a ⊑ b → number a ≼ number b
number_mono {a} {b} f g h = go (seen f) (seen g)
  where
    go : Marked a ⊎ Finite a → Marked b ⊎ Finite b → number a ≼ number b
    go (inl m) q = rw m.is low_≼
    go (inr p) (inl m) = absurd (omega (zarith, rw m.mark at h))
    go (inr p) (inr q) = rw (p.is, q.is) (record { le = h.le })

-- the larger of two words stands for the larger of their numbers
pub number_max : {a b : ℤ} → SFits w32 a → SFits w32 b → number (int_max a b) ≡ number a ⊕ number b
number_max {a} {b} f g = go (lt_z b a) refl
  where
    go : (t : Bool) → lt_z b a ≡ t → number (cond t a b) ≡ number a ⊕ number b
    go true e = sym (⊕_comm _ _ ∙ ≼_⊕ (number_mono g f (omega zarith)))
    go false e = sym (≼_⊕ (number_mono f g (omega zarith)))

-- a word is the word of its number
pub word_number : {z : ℤ} → SFits w32 z → word (number z) ≡ z
word_number {z} f = go (seen f)
  where
    go : Marked z ⊎ Finite z → word (number z) ≡ z
    go (inl m) = rw m.is (sym m.mark)
    go (inr p) = rw p.is

-- ---- the sign of a word
-- the test `a < 0` failed
pub not_below : (z : ℤ) → lt_z z (pos 0) ≡ false → T (non_neg z)
not_below (pos k) e = tt
not_below (negsuc k) e = true≢false e

-- a finite word that is below 0 can be negated
pub negated : (z : ℤ) → lo z < 2147483648 → lt_z z (pos 0) ≡ true → SFits w32 (pos 0 -ℤ z) × T (non_neg (pos 0 -ℤ z))
negated (pos k) f e = absurd (omega (arith, ltb-true k 0 e))
negated (negsuc k) f e = (record { sfits = omega arith }, tt)

-- ---- a sum and a difference of two finite words
fits_by : (z : ℤ) → hi z ≤ 2000000000 → lo z ≤ 2000000000 → SFits w32 z × Finite z
unfolding number
fits_by (pos n) h k = (record { sfits = omega arith }, record { is = refl; above = omega arith })
fits_by (negsuc n) h k =
    (record { sfits = omega arith }, record { is = rw (ne_eqb n 2147483647 (omega arith)); above = omega arith })

-- z fits in a word, which stands for x
pub record Fine (z : ℤ) (x : Num) : Type 0 where
  pub fits : SFits w32 z
  pub is : number z ≡ x

module _ {a b : ℤ} (p : Finite a) (q : Finite b)
    (h : Within 1000000000 (number a)) (k : Within 1000000000 (number b)) where
  a_near : Within 1000000000 (fin a)
  a_near = rw p.is at h

  b_near : Within 1000000000 (fin b)
  b_near = rw q.is at k

  -- the sum stands for the product
  pub sum_of : Fine (a +ℤ b) (number a ⊗ number b)
  sum_of = record { fits = s.0; is = s.1.is ∙ rw (p.is, q.is) }
    where
      s : SFits w32 (a +ℤ b) × Finite (a +ℤ b)
      s = let u = a_near in let v = b_near in fits_by (a +ℤ b)
          (hi_le (a +ℤ b) 2000000000 (omega (arith, sum a b))) (lo_le (a +ℤ b) 2000000000 (omega (arith, sum a b)))

  -- the difference is within 2,000,000,000
  pub diff_near : (hi (a -ℤ b) ≤ 2000000000) × (lo (a -ℤ b) ≤ 2000000000)
  diff_near = let u = a_near in let v = b_near in
      (hi_le (a -ℤ b) 2000000000 (omega (arith, diff a b)), lo_le (a -ℤ b) 2000000000 (omega (arith, diff a b)))

  -- the difference fits in a word
  pub diff_of : Fine (a -ℤ b) (fin (a -ℤ b))
  diff_of = let s = fits_by (a -ℤ b) diff_near.0 diff_near.1 in record { fits = s.0; is = s.1.is }

-- ---- bounds as words
-- a bound's word stands for none, or for its number
pub data Bounds (z : ℤ) : Type 0 where
  none : z ≡ pos 2147483647 → cap_of z ≡ free → Bounds z
  some : hi z < 2147483647 → cap_of z ≡ cap (number z) → Bounds z

bounds_by : (z : ℤ) (t : Bool) → SFits w32 z → is_free z ≡ t → Bounds z
unfolding cap_of
bounds_by (pos k) true f e = none (ap pos (eqb→eq k 2147483647 (rw e tt))) (rw e)
bounds_by (pos k) false f e = let ne : k ≢ 2147483647 = eqb-false k 2147483647 e in some (omega arith) (rw e)
bounds_by (negsuc k) t f e = some (omega arith) refl

-- every word stands for no bound or for its number
pub bounds : {z : ℤ} → SFits w32 z → Bounds z
bounds {z} f = bounds_by z (is_free z) f refl

-- 2,147,483,647 stands for no bound
pub cap_free : cap_of (pos 2147483647) ≡ free
unfolding cap_of
cap_free = refl

-- the smaller of two numbers, where their order is known
lower_l : (x y : Num) → x ≼ y → lower x y ≡ x
unfolding lower
lower_l x y h = rw (passes (tells_at_most x y) h)

lower_r : (x y : Num) → y ≼ x → lower x y ≡ y
unfolding lower
lower_r x y h = go (at_most x y) refl
  where
    go : (t : Bool) → at_most x y ≡ t → cond t x y ≡ y
    go true e = ≼_antisym ((tells_at_most x y).yes e) h
    go false e = refl

-- the new bound y is the smaller one, or the old one stays
meet_new : (m : ℤ) (y : Num) → Bounds m → (cap_of m ≡ cap (number m) → y ≼ number m) → cap y ≡ meet (cap_of m) (cap y)
unfolding meet
meet_new m y (none e q) h = rw q
meet_new m y (some b q) h = rw (q, lower_r (number m) y (h q))

meet_old : (m : ℤ) (y : Num) → cap_of m ≡ cap (number m) → number m ≼ y → cap_of m ≡ meet (cap_of m) (cap y)
unfolding meet
meet_old m y q h = rw (q, lower_l (number m) y h)

-- one entry more of a weight: −∞ in g sets no bound
pub under_free : (m g : ℤ) (x : Num) → Marked g → cap_of m ≡ meet (cap_of m) (bound x (number g))
under_free m g x k = rw k.is (meet_free (cap_of m))

-- −∞ in x leaves no weight but −∞
pub under_low : (m x g : ℤ) → SFits w32 m → Marked x → Finite g → cap_of x ≡ meet (cap_of m) (bound (number x) (number g))
unfolding cap_of number
under_low m x g f k q = ap cap_of k.mark ∙ rw (k.is, q.is) (meet_new m −∞ (bounds f) (λ e. low_≼))

module _ (m x g : ℤ) (f : SFits w32 m) (p : Finite x) (q : Finite g)
    (h : Within 1000000000 (number x)) (k : Within 1000000000 (number g)) where
  d : ℤ
  d = x -ℤ g

  d_is : Fine d (fin d)
  unfolding d
  d_is = diff_of p q h k

  -- the new bound is the smaller one
  under_new : x -ℤ g ⊑ m → cap_of (x -ℤ g) ≡ meet (cap_of m) (bound (number x) (number g))
  unfolding d
  under_new l = rw (p.is, q.is) (small (bounds d_is.fits) ∙ meet_new m (fin d) (bounds f) (λ e. less))
    where
      near : hi d ≤ 2000000000
      near = (diff_near p q h k).0

      less : fin d ≼ number m
      less = rw d_is.is at (number_mono d_is.fits f l)

      small : Bounds d → cap_of d ≡ cap (fin d)
      small (none e c) = absurd (omega (arith, ap hi e, near))
      small (some b c) = c ∙ ap cap d_is.is

  -- the old bound is the smaller one
  under_old : m ⊑ x -ℤ g → cap_of m ≡ meet (cap_of m) (bound (number x) (number g))
  unfolding d
  under_old l = rw (p.is, q.is) (meet_old m (fin d) (some_of (bounds f)) more)
    where
      near : (hi d ≤ 2000000000) × (lo d ≤ 2000000000)
      near = diff_near p q h k

      more : number m ≼ fin d
      more = rw d_is.is at (number_mono f d_is.fits l)

      some_of : Bounds m → cap_of m ≡ cap (number m)
      some_of (none e c) = absurd (omega (arith, ap hi e, ap lo e, near.0))
      some_of (some b c) = c

  -- the smaller of the two
  pub under_min : cap_of (int_min m (x -ℤ g)) ≡ meet (cap_of m) (bound (number x) (number g))
  under_min = go (lt_z (x -ℤ g) m) refl
    where
      go : (t : Bool) → lt_z (x -ℤ g) m ≡ t
          → cap_of (cond t (x -ℤ g) m) ≡ meet (cap_of m) (bound (number x) (number g))
      go true e = under_new (omega zarith)
      go false e = under_old (omega zarith)

-- a bound of −∞ leaves no weight but −∞, whatever the others allow
pub weigh_low : (z : ℤ) (p : Cap) (d : ℕ) (g x : Vec) → Marked z → meet p (cap_of z) ≡ allowed d g x
    → number z ≡ weight_of d g x
unfolding weight_of cap_of number
weigh_low z p d g x k h =
    k.is ∙ ap value (sym (meet_low p) ∙ ap (λ (y : ℤ). meet p (cap_of y)) (sym k.mark) ∙ h)

-- the weight that a bound's word leaves, by the test `m == FREE` on its bits
module _ (m d : ℕ) (g x : Vec) (is : cap_of (to_z w32 m) ≡ allowed d g x) where
  -- without a bound the weight is −∞
  pub weigh_free : m ≡ 2147483647 → number mark ≡ weight_of d g x
  unfolding weight_of
  weigh_free e = number_mark ∙ ap value (sym cap_free ∙ ap (λ (k : ℕ). cap_of (to_z w32 k)) (sym e) ∙ is)

  -- otherwise it is the bound
  pub weigh_cap : m < 4294967296 → (m ≡ 2147483647 → ⊥) → number (to_z w32 m) ≡ weight_of d g x
  unfolding weight_of
  weigh_cap f ne = go (bounds (sfits_to_z (record { fits = f })))
    where
      go : Bounds (to_z w32 m) → number (to_z w32 m) ≡ value (allowed d g x)
      go (none e q) = absurd (ne (sym (of_z-to_z {w = w32} (record { fits = f })) ∙ ap (λ (z : ℤ). of_z w32 z) e))
      go (some b q) = ap value (sym q ∙ is)

-- the test `a < b` is strict on numbers too
pub number_strict : {a b : ℤ} → SFits w32 a → SFits w32 b → lt_z a b ≡ true → ¬ (number b ≼ number a)
number_strict {a} {b} f g e h = go (seen f) (seen g)
  where
    go : Marked a ⊎ Finite a → Marked b ⊎ Finite b → ⊥
    go p (inl m) = omega (zarith, lt_z_true a b e, ap hi m.mark, ap lo m.mark, f.sfits, above a f.sfits)
      where
        above : (z : ℤ) → mag z < 2147483648 → lo z ≤ 2147483648
        above (pos k) l = omega arith
        above (negsuc k) l = omega arith
    go (inl m) (inr q) = (rw (m.is, q.is) at h).le
    go (inr p) (inr q) = let k : fin b ≼ fin a = rw (p.is, q.is) at h in omega (zarith, lt_z_true a b e)
