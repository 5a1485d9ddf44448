-- The rules decide membership and inclusion.
use mathlib.Core.Bool.{Bool, true, false, cond}
use mathlib.Core.List.{List, [], ◌∷◌, ◌++◌, map}
use mathlib.Core.Logic.{◌⊎◌, inl, inr}
use mathlib.Core.Path.{◌≡◌, refl, sym, ◌∙◌, ap, subst}
use Prim.Native.Nat.{ℕ, zero, suc, ◌+◌, ◌/◌, ◌≤◌, ◌<◌}
use native.Mathlib.Numerals.{add-one}
use native.Mathlib.Omega.{arith}
use lib.IntN.{ℤ, pos}
use lib.ListN.{length, take, length-map, get_or-append}
use lib.Seq.{get_or_at, get_or-take, length-take-le}
use Rattle.numbers.specs.Numbers.{−∞, ◌≼◌, Within, nought}
use Rattle.numbers.specs.Words.{number}
use Rattle.numbers.specs.Places.{Vec, entries, Each, Ended}
use Rattle.numbers.specs.Tests.{every}
use Rattle.numbers.proofs.Tells.{Tells, always, means, tells_every, tells_some}
use Rattle.numbers.proofs.NumberLaws.{≼_antisym, ≼_of_eq, tells_at_most, fin_low}
use Rattle.algebra.specs.Vectors.{vector, vectors, count, IsPoint, IsRay, PointsAndRays}
use Rattle.algebra.specs.Sets.{set_of, Included}
use Rattle.algebra.specs.Reach.{reach}
use Rattle.algebra.proofs.Entries.{places}
use Rattle.algebra.proofs.Generation.{Span}
use Rattle.algebra.proofs.Residuation.{rows, reach_below, residuation, gen_iff_span, reach_ext}
use Rattle.algebra.proofs.Lists.{family, Spans, spot, spot_last, spot_clock, in_span, vectors_length}
use Rattle.algebra.proofs.Made.{Pointed, rays_only, included_iff}
use Rattle.sets.specs.Limits.{PointLimits, RayLimits, ListLimits, TestedLimits}
use Rattle.sets.specs.Rules.{flat, attained, generated, inside, has_point, covers, covered}
use Rattle.sets.proofs.FlatLaws.{family_flat, number_at}
use Rattle.sets.proofs.TestLaws.{tells_finite, tested_within}

-- a vector that is reached everywhere is generated
pub tells_attained : (d m : ℕ) (G : ℕ → Vec) (X : Vec) → Tells (attained d m G X) (Span d (rows m G) X)
unfolding attained
tells_attained d m G X = means to from
    (tells_every _ (λ j. X j ≼ reach d m G X j) d (λ j l. tells_at_most (X j) (reach d m G X j)))
  where
    to : ((j : ℕ) → j < d → X j ≼ reach d m G X j) → Span d (rows m G) X
    to h = (gen_iff_span d m G X).0 ((residuation d m G X).1 (λ j l. ≼_antisym (h j l) (reach_below d m G X j l)))

    from : Span d (rows m G) X → (j : ℕ) → j < d → X j ≼ reach d m G X j
    from s j l = ≼_of_eq ((residuation d m G X).0 ((gen_iff_span d m G X).1 s) j l)

-- families and vectors with the same entries attain the same
pub attained_ext : (d m : ℕ) (G H : ℕ → Vec) (X Y : Vec) → ((i j : ℕ) → i < m → j < d → G i j ≡ H i j)
    → ((j : ℕ) → j < d → X j ≡ Y j) → attained d m G X ≡ attained d m H Y
unfolding attained
attained_ext d m G H X Y e q = every_ext d (λ j l. rw (q j l, reach_ext d m G H X Y e q j l))
  where
    every_ext : {p r : ℕ → Bool} (k : ℕ) → ((j : ℕ) → j < k → p j ≡ r j) → every k p ≡ every k r
    every_ext zero h = refl
    every_ext (suc k) h = rw (every_ext k (λ j l. h j (omega arith)), h k (omega arith))

-- the vectors of a list within limits are points and rays
pub kinds : (n : ℕ) (l : List ℤ) → ListLimits n l → PointsAndRays n (vectors n l)
kinds n l h i b = by (h i (subst (λ k. i < k) (vectors_length n l) b))
  where
    by : PointLimits n (vector (vectors n l) i) ⊎ RayLimits n (vector (vectors n l) i)
        → IsPoint n (vector (vectors n l) i) ⊎ IsRay n (vector (vectors n l) i)
    by (inl p) = inl p.last
    by (inr p) = inr p.last

-- the entries of a tested point with 0 behind it
last_entry : (n : ℕ) (p : List ℤ) → length p ≡ n → entries (p ++ (pos 0 ∷ [])) n ≡ nought
unfolding number
last_entry n p e = ap number (get_or_at p (pos 0) [] (pos 0) n e)

clock_entry : (n : ℕ) (p : List ℤ) → length p ≡ n → (j : ℕ) → j < n → entries (p ++ (pos 0 ∷ [])) j ≡ entries p j
clock_entry n p e j b = ap number (get_or-append p (pos 0 ∷ []) (pos 0) j (omega arith))

-- generation by the vectors of a list of words is generation by its flat family
module _ (n : ℕ) (l : List ℤ) where
  -- the test of the words tells whether a vector is generated
  pub tells_spans : (X Y : Vec) → ((j : ℕ) → j < suc n → X j ≡ Y j)
      → Tells (attained (suc n) (count n l) (flat (suc n) l) X) (Spans n (vectors n l) Y)
  tells_spans X Y e = subst (λ b. Tells b (Spans n (vectors n l) Y)) same
      (tells_attained (suc n) (length (vectors n l)) (family (vectors n l)) Y)
    where
      same : attained (suc n) (length (vectors n l)) (family (vectors n l)) Y
          ≡ attained (suc n) (count n l) (flat (suc n) l) X
      same = ap (λ m. attained (suc n) m (family (vectors n l)) Y) (vectors_length n l)
          ∙ attained_ext (suc n) (count n l) (family (vectors n l)) (flat (suc n) l) Y X
          (λ i j b c. family_flat n l i j b c) (λ j b. sym (e j b))

  -- membership
  pub tells_inside : (p : List ℤ) → length p ≡ n → ListLimits n l → Tells (inside n l p) (set_of n l (map number p))
  unfolding inside
  tells_inside p e h = means to from (tells_spans (entries (p ++ (pos 0 ∷ []))) (spot n nought (map number p)) same)
    where
      clock : (j : ℕ) → j < n → entries (p ++ (pos 0 ∷ [])) j ≡ spot n nought (map number p) j
      clock j b = clock_entry n p e j b ∙ sym (number_at p j (omega arith))
          ∙ sym (spot_clock n nought (map number p) j b)

      same : (j : ℕ) → j < suc n → entries (p ++ (pos 0 ∷ [])) j ≡ spot n nought (map number p) j
      same = places n (λ j. entries (p ++ (pos 0 ∷ [])) j ≡ spot n nought (map number p) j)
          (last_entry n p e ∙ sym (spot_last n nought (map number p))) clock

      long : length (map number p) ≡ n
      long = length-map p number ∙ e

      to : Spans n (vectors n l) (spot n nought (map number p)) → set_of n l (map number p)
      to s = (in_span n (vectors n l) (kinds n l h) (map number p)).1 (long, s)

      from : set_of n l (map number p) → Spans n (vectors n l) (spot n nought (map number p))
      from s = ((in_span n (vectors n l) (kinds n l h) (map number p)).0 s).1

  -- whether the list has a point
  pub tells_point : ListLimits n l → Tells (has_point n l) (Pointed n (vectors n l))
  unfolding has_point
  tells_point h = means to from
      (tells_some _ (λ i. flat (suc n) l i n ≡ −∞ → ⊥) (count n l) (λ i b. tells_finite (flat (suc n) l i n)))
    where
      last : (i : ℕ) → i < count n l → family (vectors n l) i n ≡ flat (suc n) l i n
      last i b = family_flat n l i n b (omega arith)

      to : ((i : ℕ) × (i < count n l) × (flat (suc n) l i n ≡ −∞ → ⊥)) → Pointed n (vectors n l)
      to (i, b, f) = let c : i < length (vectors n l) = subst (λ k. i < k) (sym (vectors_length n l)) b in
          (i, c, by (kinds n l h i c))
        where
          by : IsPoint n (vector (vectors n l) i) ⊎ IsRay n (vector (vectors n l) i)
              → IsPoint n (vector (vectors n l) i)
          by (inl q) = q
          by (inr q) = absurd (f (sym (last i b) ∙ q))

      from : Pointed n (vectors n l) → (i : ℕ) × (i < count n l) × (flat (suc n) l i n ≡ −∞ → ⊥)
      from (i, b, q) = let c : i < count n l = subst (λ k. i < k) (vectors_length n l) b in
          (i, c, λ z. fin_low (sym q ∙ last i c ∙ z))

-- inclusion
module _ (n : ℕ) (inner outer : List ℤ) (hi : ListLimits n inner) (ho : ListLimits n outer) where
  -- vector i of the inner list is generated by the outer one
  abbrev Covers : ℕ → Type 0
  Covers i = Spans n (vectors n outer) (family (vectors n inner) i)

  tells_covered : Tells (covered n inner outer) ((i : ℕ) → i < length (vectors n inner) → Covers i)
  unfolding covered covers
  tells_covered = means to from (tells_every _ Covers (count n inner) covers_at)
    where
      covers_at : (i : ℕ) → i < count n inner → Tells (covers n inner outer i) (Covers i)
      covers_at i b = tells_spans n outer (flat (suc n) inner i) (family (vectors n inner) i)
          (λ j c. sym (family_flat n inner i j b c))

      to : ((i : ℕ) → i < count n inner → Covers i) → (i : ℕ) → i < length (vectors n inner) → Covers i
      to h i b = h i (subst (λ k. i < k) (vectors_length n inner) b)

      from : ((i : ℕ) → i < length (vectors n inner) → Covers i) → (i : ℕ) → i < count n inner → Covers i
      from h i b = h i (subst (λ k. i < k) (sym (vectors_length n inner)) b)

  -- the rule of `included` tells whether the sets are included
  pub tells_included : Tells (cond (has_point n inner) (covered n inner outer) true)
      (Included (set_of n inner) (set_of n outer))
  tells_included = go (has_point n inner) refl
    where
      only_rays : ¬ Pointed n (vectors n inner)
          → (i : ℕ) → i < length (vectors n inner) → IsRay n (vector (vectors n inner) i)
      only_rays no-point i b = by (kinds n inner hi i b)
        where
          by : IsPoint n (vector (vectors n inner) i) ⊎ IsRay n (vector (vectors n inner) i)
              → IsRay n (vector (vectors n inner) i)
          by (inl q) = absurd (no-point (i, b, q))
          by (inr q) = q

      go : (b : Bool) → has_point n inner ≡ b
          → Tells (cond b (covered n inner outer) true) (Included (set_of n inner) (set_of n outer))
      go true e =
          let p = (tells_point n inner hi).yes e in
          let iff = included_iff n (vectors n inner) (vectors n outer) (kinds n inner hi) (kinds n outer ho) p in
          means iff.1 iff.0 tells_covered
      go false e = always (λ x r. absurd (rays_only n (vectors n inner) (only_rays ((tells_point n inner hi).no e)) x r))

-- ---- the code's tests are the rule's
-- the test of a vector in words is that of its entries
pub generated_as : (l : List ℤ) (m : ℕ) (x : List ℤ) (w : ℕ) (X : Vec) → length x ≡ w
    → ((j : ℕ) → j < w → entries x j ≡ X j) → generated l m x ≡ attained w m (flat w l) X
unfolding generated
generated_as l m x w X e q = ap (λ d. attained d m (flat d l) (entries x)) e
    ∙ attained_ext w m (flat w l) (flat w l) (entries x) X (λ i j b c. refl) q

-- ---- a tested point p in words, with 0 behind it
module _ (n : ℕ) (p words : List ℤ) (e : length p ≡ n) (h : n ≤ 6) (v : Ended p (pos 0) words) where
  -- it has n + 1 words
  pub point_long : length (take (n + 1) words) ≡ n + 1
  point_long = length-take-le (n + 1) words (omega (arith, v.long))

  -- its entries are those of p with 0 behind
  pub point_entry : (j : ℕ) → j < n + 1 → entries (take (n + 1) words) j ≡ entries (p ++ (pos 0 ∷ [])) j
  point_entry j b = ap number (get_or-take (n + 1) words j (pos 0) b ∙ v.same j)

  -- they are within limits
  pub point_each : TestedLimits n p → Each 1000000 (take (n + 1) words)
  point_each t = record { each = λ j b. subst (λ x. Within 1000000 x) (sym (point_entry j (bound b))) (at j (bound b)) }
    where
      bound : {j : ℕ} → j < length (take (n + 1) words) → j < n + 1
      bound b = omega (arith, point_long)

      at : (j : ℕ) → j < n + 1 → Within 1000000 (entries (p ++ (pos 0 ∷ [])) j)
      at j b = places n (λ j. Within 1000000 (entries (p ++ (pos 0 ∷ [])) j))
          (subst (λ x. Within 1000000 x) (sym (last_entry n p e)) (record { near = omega arith }))
          (λ j b. subst (λ x. Within 1000000 x) (sym (clock_entry n p e j b)) (tested_within n p t j b)) j (omega arith)

  -- the code's test of it is the rule's
  pub inside_by : (l : List ℤ) → generated l (length l / (n + 1)) (take (n + 1) words) ≡ inside n l p
  unfolding inside
  inside_by l =
      generated_as l (length l / (n + 1)) (take (n + 1) words) (n + 1) (entries (p ++ (pos 0 ∷ []))) point_long
      point_entry
      ∙ rw (add-one n)
