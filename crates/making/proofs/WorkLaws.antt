-- Vectors put into working memory: what the shift is, and what the memory holds afterwards.
use mathlib.Core.List.{List}
use mathlib.Core.Logic.{◌≢◌}
use mathlib.Core.Path.{◌≡◌, refl, sym, ◌∙◌, ap, subst}
use Prim.Native.Nat.{ℕ, suc, ◌+◌, ◌≤◌, ◌<◌}
use native.Mathlib.Omega.{arith}
use borrow.Author.Count.{below_more}
use borrow.Author.Tests.{ne_eqb}
use lib.IntN.{ℤ, pos, negsuc, neg_ℤ, ◌-ℤ◌, +ℤ_idl}
use lib.ListN.{length, get_or, set, take, replicate, length-set, get_or-replicate}
use lib.Seq.{get_or-set_same, get_or-set_other, get_or-take, length-take-le}
use lib.Signed.{mag}
use mir.Syntax.{w32}
use mir.Val.{SFits, to_z, of_z}
use mir.Facts.{to_z-of_z}
use Rattle.numbers.specs.Integers.{hi, lo}
use Rattle.numbers.specs.Numbers.{−∞, fin, ◌⊗◌, ◌▷◌, ⨁, Within, nought}
use Rattle.numbers.specs.Words.{number}
use Rattle.numbers.specs.Places.{entries, Each, side_of}
use Rattle.numbers.proofs.IntegerLaws.{neg}
use Rattle.numbers.proofs.NumberLaws.{▷_zero, ⊕_low, ⨁_ext, ⨁_within}
use Rattle.numbers.proofs.WordLaws.{Marked, Finite, back}
use Rattle.making.specs.Work.{shift_of, Shifted}

-- a word within limits is not the mark
pub near_number : (z : ℤ) → Within 1000000000 (fin z) → number z ≡ fin z
unfolding number
near_number (pos k) h = refl
near_number (negsuc k) h = rw (ne_eqb k 2147483647 (omega (arith, h.near)))

-- the negation of a word within limits
pub negated : (z : ℤ) → Within 10000000 (fin z) → SFits w32 (pos 0 -ℤ z) × Within 10000000 (fin (neg_ℤ z))
negated z h = (fits (neg_ℤ z) (pos 0 -ℤ z) (+ℤ_idl (neg_ℤ z)) near.near.0 near.near.1, near)
  where
    near : Within 10000000 (fin (neg_ℤ z))
    near = record { near = (omega (arith, neg z, h.near), omega (arith, neg z, h.near)) }

    fits : (y x : ℤ) → x ≡ y → hi y ≤ 10000000 → lo y ≤ 10000000 → SFits w32 x
    fits (pos k) x e a b = rw e (record { sfits = omega arith })
    fits (negsuc k) x e a b = rw e (record { sfits = omega arith })

module _ (n : ℕ) (v : List ℤ) where
  -- the shift of a point brings its last entry to 0
  pub shift_point : (z : ℤ) → number z ≡ fin z → entries v n ≡ number z → pos 0 -ℤ z ≡ shift_of n v
  shift_point z f e = +ℤ_idl (neg_ℤ z) ∙ rw (e ∙ f)

  -- the shift of a ray, by its largest entry
  pub shift_none : entries v n ≡ −∞ → ⨁ n (entries v) ≡ −∞ → pos 0 ≡ shift_of n v
  shift_none e q = rw (e, q)

  -- the largest entry is an integer, and the shift brings it to 0
  pub shift_ray : (z : ℤ) → entries v n ≡ −∞ → ⨁ n (entries v) ≡ fin z → pos 0 -ℤ z ≡ shift_of n v
  shift_ray z e q = +ℤ_idl (neg_ℤ z) ∙ rw (e, q)

  -- the side of zeros at a ray is its largest entry
  pub largest : length v ≡ suc n → n ≤ 6 → entries v n ≡ −∞
      → side_of (length v) (entries (take (n + 1) (replicate 7 (pos 0)))) (entries v) ≡ ⨁ n (entries v)
  unfolding side_of ⨁
  largest e h q = rw (e, q, ⊗_low') (⊕_low _ ∙ ⨁_ext n _ (entries v) each)
    where
      ⊗_low' : entries (take (n + 1) (replicate 7 (pos 0))) n ⊗ −∞ ≡ −∞
      ⊗_low' = unfold number in rw (zero_at n (omega arith))
        where
          zero_at : (j : ℕ) → j < n + 1 → get_or (take (n + 1) (replicate 7 (pos 0))) j (pos 0) ≡ pos 0
          zero_at j l = get_or-take (n + 1) (replicate 7 (pos 0)) j (pos 0) l
              ∙ get_or-replicate 7 j (pos 0) (pos 0) (omega arith)

      each : (j : ℕ) → j < n → entries (take (n + 1) (replicate 7 (pos 0))) j ⊗ entries v j ≡ entries v j
      each j l = ap (λ x. x ⊗ entries v j) zero ∙ ▷_zero (entries v j)
        where
          zero : entries (take (n + 1) (replicate 7 (pos 0))) j ≡ nought
          zero = unfold number in ap number (get_or-take (n + 1) (replicate 7 (pos 0)) j (pos 0) (omega arith)
              ∙ get_or-replicate 7 j (pos 0) (pos 0) (omega arith))

-- ---- shifting word by word: the places before j are done
-- the first j words of `after` are those of v, shifted by c
pub record Shifting (v : List ℤ) (c : ℤ) (after : List ℤ) (j : ℕ) : Type 0 where
  pub inside : j ≤ length v
  pub long : length after ≡ length v
  pub done : (k : ℕ) → k < j → entries after k ≡ c ▷ entries v k

module _ (v : List ℤ) (c : ℤ) where
  -- at first no word is shifted
  pub shifting_start : (out : List ℤ) → length out ≡ length v → Shifting v c out 0
  shifting_start out e = record { inside = omega arith; long = e; done = λ k l. absurd (omega arith) }

  -- with word j shifted there is one more
  pub shifting_next : (out : List ℤ) (j : ℕ) (x : ℤ) → Shifting v c out j → j < length v → number x ≡ c ▷ entries v j
      → Shifting v c (set out j x) (j + 1)
  shifting_next out j x m l e = record {
    inside = omega arith;
    long = length-set out j x ∙ m.long;
    done = below_more (λ (k : ℕ). entries (set out j x) k ≡ c ▷ entries v k) j
        (λ k b. let ne : k ≢ j = omega arith in rw (get_or-set_other out j k x (pos 0) ne) (m.done k b))
        (rw (get_or-set_same out j x (pos 0) (omega (arith, m.long))) e);
  }

  -- when all words are, the vector is shifted
  pub shifting_done : (out : List ℤ) (j : ℕ) → Shifting v c out j → length v ≤ j → Shifted v c out
  shifting_done out j m l = record { long = m.long; right = λ k b. m.done k (omega arith) }

-- ---- seven zeros, of which as many are lent as a vector has words
-- as many zeros as words
pub zeros_long : (w : ℕ) → w ≤ 7 → length (take w (replicate 7 (pos 0))) ≡ w
zeros_long w h = length-take-le w (replicate 7 (pos 0)) h

-- they are within limits
pub zeros_each : (w : ℕ) → w ≤ 7 → Each 1000000000 (take w (replicate 7 (pos 0)))
zeros_each w h = record { each = λ j l. at j (subst (λ (k : ℕ). j < k) (zeros_long w h) l) }
  where
    at : (j : ℕ) → j < w → Within 1000000000 (entries (take w (replicate 7 (pos 0))) j)
    at j l = unfold number in rw (
      get_or-take w (replicate 7 (pos 0)) j (pos 0) l,
      get_or-replicate 7 j (pos 0) (pos 0) (omega arith),
    ) (record { near = omega arith })

-- what the largest entry's word says
pub most_none : (n : ℕ) (v : List ℤ) (m : ℤ) → Marked m → number m ≡ ⨁ n (entries v) → ⨁ n (entries v) ≡ −∞
most_none n v m k e = sym e ∙ k.is

-- it is not the mark: the largest entry is its number
pub most_some : (n : ℕ) (v : List ℤ) (m : ℤ) → Finite m → number m ≡ ⨁ n (entries v) → ⨁ n (entries v) ≡ fin m
most_some n v m f e = sym e ∙ f.is

-- and then within the limits of the entries
pub most_near : (n : ℕ) (v : List ℤ) (m : ℤ) → length v ≡ suc n → Each 10000000 v → Finite m
    → number m ≡ ⨁ n (entries v)
    → Within 10000000 (fin m)
most_near n v m e h f q =
    subst (λ x. Within 10000000 x) (most_some n v m f q) (⨁_within n (entries v) (λ j l. h.each j (omega arith)))

-- a negation as the code holds it
pub negated_back : (z : ℤ) → mag z < 2147483648 → SFits w32 (pos 0 -ℤ z)
    → to_z w32 (of_z w32 (pos 0 -ℤ to_z w32 (of_z w32 z))) ≡ pos 0 -ℤ z
negated_back z h f = ap (λ (x : ℤ). to_z w32 (of_z w32 (pos 0 -ℤ x))) (back {z = z} h)
    ∙ to_z-of_z {w = w32} {z = pos 0 -ℤ z} f
