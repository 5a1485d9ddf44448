-- Each test of the input tells its meaning.
use mathlib.Core.Bool.{Bool, true, false, ◌&&◌}
use mathlib.Core.List.{List}
use mathlib.Core.Logic.{◌⊎◌, inl, inr}
use mathlib.Core.Path.{◌≡◌, refl, sym, ◌∙◌, subst}
use Prim.Native.Nat.{ℕ, zero, suc, ◌*◌, ◌/◌, ◌%◌, ◌<◌}
use native.Mathlib.Nat.{div-add-mod', div-lt_iff_lt-mul, mod-lt, zero-lt-suc}
use native.Mathlib.Omega.{arith}
use lib.Dec.{eqb, leb}
use lib.IntN.{ℤ, pos, negsuc}
use lib.ListN.{length}
use Rattle.numbers.specs.Numbers.{Num, −∞, fin, at_most, Within, nought, million, minus_million}
use Rattle.numbers.specs.Places.{entries, Each}
use Rattle.numbers.proofs.Tells.{Tells, always, never, means, both, tells_every, tells_some, tells_leb, tells_eqb}
use Rattle.numbers.proofs.NumberLaws.{≼_trans, tells_at_most, fin_low, fin_inj}
use Rattle.numbers.proofs.IntegerLaws.{hi_le, lo_le}
use Rattle.algebra.proofs.Entries.{places}
use Rattle.algebra.specs.Vectors.{Vector, entry, vector, vectors, count}
use Rattle.sets.specs.Rules.{flat}
use Rattle.sets.proofs.FlatLaws.{part_flat, family_flat}
use Rattle.sets.specs.Limits.{Clocks, Whole, Between, Loose, PointLimits, RayLimits, ListLimits, TestedLimits}
use Rattle.sets.specs.Tests.{loose, finite, fits, words_ok, some_finite, ok_by, vector_ok, part}
use Rattle.sets.specs.Tests.{clocks_ok, whole_ok, list_ok}

-- ---- shape
-- the number of clocks
pub tells_clocks : (n : ℕ) → Tells (clocks_ok n) (Clocks n)
unfolding clocks_ok
tells_clocks n = means (λ h. record { some = h.0; few = h.1 }) (λ h. (h.some, h.few))
    (both (leb 1 n) (leb n 6) (tells_leb 1 n) (tells_leb n 6))

-- whole vectors, at most 32
pub tells_whole : (n : ℕ) (l : List ℤ) → Tells (whole_ok n (length l)) (Whole n l)
unfolding whole_ok
tells_whole n l = means (λ h. record { exact = sym h.0; few = h.1 }) (λ h. (sym h.exact, h.few))
    (both (eqb (count n l * suc n) (length l)) (leb (count n l) 32)
    (tells_eqb (count n l * suc n) (length l)) (tells_leb (count n l) 32))

-- ---- entries
tells_between : (a b x : Num) → Tells (at_most a x && at_most x b) (Between a b x)
tells_between a b x = means (λ h. record { low = h.0; high = h.1 }) (λ h. (h.low, h.high))
    (both (at_most a x) (at_most x b) (tells_at_most a x) (tells_at_most x b))

-- the limits of a ray's clocks, or of a point's
abbrev Limited : Bool → Num → Type 0
Limited true x = Loose x
Limited false x = Between nought million x

tells_loose : (x : Num) → Tells (loose x) (Loose x)
tells_loose −∞ = always (inl refl)
tells_loose (fin z) = means inr from (tells_between minus_million million (fin z))
  where
    from : Loose (fin z) → Between minus_million million (fin z)
    from (inl e) = absurd (fin_low e)
    from (inr h) = h

tells_fits : (ray : Bool) (x : Num) → Tells (fits ray x) (Limited ray x)
tells_fits true x = tells_loose x
tells_fits false x = tells_between nought million x

-- each of the first n words
pub tells_words : (ray : Bool) (n : ℕ) (v : List ℤ)
    → Tells (words_ok ray n v) ((j : ℕ) → j < n → Limited ray (entries v j))
unfolding words_ok
tells_words ray n v =
    tells_every (λ j. fits ray (entries v j)) (λ j. Limited ray (entries v j)) n (λ j l. tells_fits ray (entries v j))

-- a number that is not −∞
pub tells_finite : (x : Num) → Tells (finite x) (x ≡ −∞ → ⊥)
tells_finite −∞ = never (λ h. h refl)
tells_finite (fin z) = always fin_low

tells_some_finite : (n : ℕ) (v : List ℤ) → Tells (some_finite n v) ((j : ℕ) × (j < n) × (entries v j ≡ −∞ → ⊥))
unfolding some_finite
tells_some_finite n v =
    tells_some (λ j. finite (entries v j)) (λ j. entries v j ≡ −∞ → ⊥) n (λ j l. tells_finite (entries v j))

-- ---- vectors: u has the numbers of the words v
module _ (n : ℕ) (v : List ℤ) (u : Vector) (same : (j : ℕ) → j < suc n → entries v j ≡ entry u j) where
  clock_as : (P : Num → Type 0) → ((j : ℕ) → j < n → P (entries v j)) → (j : ℕ) → j < n → P (entry u j)
  clock_as P h j l = subst P (same j (omega arith)) (h j l)

  clock_of : (P : Num → Type 0) → ((j : ℕ) → j < n → P (entry u j)) → (j : ℕ) → j < n → P (entries v j)
  clock_of P h j l = subst P (sym (same j (omega arith))) (h j l)

  last_is : entries v n ≡ entry u n
  last_is = same n (omega arith)

  Fine : Type 0
  Fine = PointLimits n u ⊎ RayLimits n u

  as_ray : entries v n ≡ −∞ → Tells (words_ok true n v && some_finite n v) Fine
  unfolding Fine
  as_ray e = means to from (both (words_ok true n v) (some_finite n v) (tells_words true n v) (tells_some_finite n v))
    where
      to : ((j : ℕ) → j < n → Loose (entries v j)) × ((j : ℕ) × (j < n) × (entries v j ≡ −∞ → ⊥))
          → PointLimits n u ⊎ RayLimits n u
      to (a, s) = inr (record {
        last = sym last_is ∙ e;
        clocks = clock_as Loose a;
        some = (s.0, s.1, λ q. s.2 (same s.0 (omega (arith, s.1)) ∙ q));
      })

      from : PointLimits n u ⊎ RayLimits n u
          → ((j : ℕ) → j < n → Loose (entries v j)) × ((j : ℕ) × (j < n) × (entries v j ≡ −∞ → ⊥))
      from (inl p) = absurd (fin_low (sym p.last ∙ sym last_is ∙ e))
      from (inr p) = (
        clock_of Loose p.clocks,
        (p.some.0, p.some.1, λ q. p.some.2 (sym (same p.some.0 (omega (arith, p.some.1))) ∙ q)),
      )

  as_point : entries v n ≡ nought → Tells (words_ok false n v) Fine
  unfolding Fine
  as_point e = means to from (tells_words false n v)
    where
      to : ((j : ℕ) → j < n → Between nought million (entries v j)) → PointLimits n u ⊎ RayLimits n u
      to a = inl (record { last = sym last_is ∙ e; clocks = clock_as (Between nought million) a })

      from : PointLimits n u ⊎ RayLimits n u → (j : ℕ) → j < n → Between nought million (entries v j)
      from (inl p) = clock_of (Between nought million) p.clocks
      from (inr p) = absurd (fin_low (sym e ∙ last_is ∙ p.last))

  neither : (z : ℤ) → entries v n ≡ fin z → ¬ (z ≡ pos 0) → ¬ Fine
  unfolding Fine
  neither z e ne (inl p) = ne (fin_inj (sym e ∙ last_is ∙ p.last))
  neither z e ne (inr p) = fin_low (sym e ∙ last_is ∙ p.last)

  tells_by : (t : Num) → entries v n ≡ t → Tells (ok_by t n v) Fine
  tells_by −∞ e = as_ray e
  tells_by (fin (pos zero)) e = as_point e
  tells_by (fin (pos (suc k))) e = never (neither (pos (suc k)) e (λ q. apart q))
    where
      apart : pos (suc k) ≡ pos 0 → ⊥
      apart q = let z : suc k ≡ 0 = cc in omega arith
  tells_by (fin (negsuc k)) e = never (neither (negsuc k) e (λ q. apart q))
    where
      apart : negsuc k ≡ pos 0 → ⊥
      apart q = let z : ◌≡◌ {A = ℕ} 0 1 = cc in omega arith

  tells_vector : Tells (vector_ok n v) (PointLimits n u ⊎ RayLimits n u)
  unfolding vector_ok Fine
  tells_vector = tells_by (entries v n) refl

-- every vector of a list
pub tells_list : (n : ℕ) (l : List ℤ) → Tells (list_ok n l) (ListLimits n l)
unfolding list_ok
tells_list n l = tells_every (λ i. vector_ok n (part l (i * suc n) (suc n)))
    (λ i. PointLimits n (vector (vectors n l) i) ⊎ RayLimits n (vector (vectors n l) i)) (count n l)
    (λ i h. tells_vector n (part l (i * suc n) (suc n)) (vector (vectors n l) i)
    (λ j b. part_flat (suc n) l i j b ∙ sym (family_flat n l i j h b)))

-- ---- what limits say of the words
-- a number between −1,000,000 and 1,000,000 is within 1,000,000
between_within : {x : Num} → Between minus_million million x → Within 1000000 x
between_within {x = −∞} h = record { near = tt }
between_within {x = fin z} h = let l = h.low in let u = h.high in
    record { near = (hi_le z 1000000 (omega arith), lo_le z 1000000 (omega arith)) }

tight_within : {x : Num} → Between nought million x → Within 1000000 x
tight_within h = between_within (record { low = ≼_trans (record { le = omega arith }) h.low; high = h.high })

-- so is one that may be −∞
pub loose_within : {x : Num} → Loose x → Within 1000000 x
loose_within (inl e) = rw e (record { near = tt })
loose_within (inr h) = between_within h

-- the entries of a vector within its limits are within 1,000,000
vector_within : (n : ℕ) (v : Vector) → PointLimits n v ⊎ RayLimits n v
    → (j : ℕ) → j < suc n → Within 1000000 (entry v j)
vector_within n v (inl p) = places n (λ j. Within 1000000 (entry v j))
    (rw p.last (record { near = omega arith })) (λ j l. tight_within (p.clocks j l))
vector_within n v (inr p) = places n (λ j. Within 1000000 (entry v j))
    (rw p.last (record { near = tt })) (λ j l. loose_within (p.clocks j l))

-- so are all words of a list of whole vectors within their limits
pub list_each : (n : ℕ) (l : List ℤ) → Whole n l → ListLimits n l → Each 1000000 l
unfolding flat
list_each n l w h = record { each = at }
  where
    at : (k : ℕ) → k < length l → Within 1000000 (entries l k)
    at k b = subst (λ (i : ℕ). Within 1000000 (entries l i)) (div-add-mod' k (suc n))
        (subst (λ (x : Num). Within 1000000 x) (family_flat n l (k / suc n) (k % suc n) row (mod-lt k (zero-lt-suc n)))
        (vector_within n (vector (vectors n l) (k / suc n)) (h (k / suc n) row) (k % suc n) (mod-lt k (zero-lt-suc n))))
      where
        row : k / suc n < count n l
        row = (div-lt_iff_lt-mul (zero-lt-suc n)).1 (subst (λ (m : ℕ). k < m) w.exact b)

-- so are those of a tested point
pub tested_within : (n : ℕ) (p : List ℤ) → TestedLimits n p → (j : ℕ) → j < n → Within 1000000 (entries p j)
tested_within n p h j l = tight_within (h j l)
