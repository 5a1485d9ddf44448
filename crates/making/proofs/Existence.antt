-- Every list of vectors has a canonical list: its vectors shifted, cleaned and sorted.
use mathlib.Core.Bool.{Bool, true, false, cond}
use mathlib.Core.List.{List, [], map}
use mathlib.Core.Logic.{◌⊎◌, inl, inr, ◌≢◌, ◌↔◌}
use mathlib.Core.Path.{◌≡◌, refl, sym, ◌∙◌, ap, subst}
use Prim.Native.Nat.{ℕ, suc, ◌<◌}
use native.Mathlib.Omega.{arith}
use native.Mathlib.Fin
use native.Mathlib.Decide.{dec_lt}
use lib.ListN.{length, length-map}
use lib.Seq.{ext_get_or}
use Rattle.numbers.specs.Numbers.{Num, −∞, fin, IsFin, ⨁, nought}
use Rattle.numbers.specs.Places.{Vec}
use Rattle.numbers.proofs.Tells.{Tells, always, never, tells_some}
use Rattle.numbers.proofs.NumberLaws.{fin_low, fin_up, ⨁_le, ⨁_ext}
use Rattle.algebra.specs.Vectors.{Vector, entry, vector, family, IsPoint, IsRay, PointsAndRays}
use Rattle.algebra.specs.Sets.{In}
use Rattle.algebra.specs.Canonical.{Generated, Canonical}
use Rattle.algebra.specs.Working.{normal, is_point, some_point}
use Rattle.algebra.proofs.Entries.{Same, places}
use Rattle.algebra.proofs.Generation.{Span, meets_fin, others, span_self, span_same, span_trans}
use Rattle.algebra.proofs.Residuation.{Row}
use Rattle.algebra.proofs.Cleaning.{sel, Without, span_more, Cleaned}
use Rattle.algebra.proofs.Rising.{far, stays, as_long}
use Rattle.algebra.proofs.Canon.{Earlier, by_kind, by_clock, strict}
use Rattle.algebra.proofs.CanonicalLists.{to_earlier, generated_iff}
use Rattle.algebra.proofs.Lists.{listed, Spans, spot, in_span, own}
use Rattle.algebra.proofs.Made.{Long, Pointed, rays_only}
use Rattle.sorting.proofs.Order.{same_vector}
use Rattle.making.specs.Clean.{clean_flags, kept, sorted, cleaned, canonical_of}
use Rattle.making.proofs.Normal.{Shifted, point, ray, blank, shifted_kind, map_at, normal_point}
use Rattle.making.proofs.Normal.{normal_shifted, normal_each, normals_long, normals_shifted, normals_kinds}
use Rattle.making.proofs.Members.{no_place, Has, has_at, Kept, has_kept}
use Rattle.making.proofs.Cleaned.{On, flags_clean}
use Rattle.making.proofs.Sorted.{Fit, Fits, sorted_has, RisingList, sorted_rising}

-- ---- rising lists
rising_far : (n : ℕ) (R : List Vector) → RisingList n R → (i k : ℕ) → i < k → k < length R
    → Earlier n (family R i) (family R k)
rising_far n R r = far (strict n) (length R) (family R) (λ i l. to_earlier (r i l))

-- two places of a rising list hold different vectors
pub rising_apart : (n : ℕ) (R : List Vector) → RisingList n R → (i k : ℕ) → i < length R → k < length R
    → Same (suc n) (family R i) (family R k) → i ≡ k
rising_apart n R r i k l m e =
    let no_less : ¬ (i < k) = λ h. (strict n).irr (rising_far n R r i k h m) e in
    let no_more : ¬ (k < i) = λ h. (strict n).irr (rising_far n R r k i h l) (λ j b. sym (e j b)) in
    omega (arith, no_less, no_more)

-- each vector of A has the entries of one of B
abbrev pub Among : ℕ → List Vector → List Vector → Type 0
Among n A B = (i : ℕ) → i < length A → (k : ℕ) × (k < length B) × Same (suc n) (family A i) (family B k)

-- rising lists with the same members are equal
pub rising_same : (n : ℕ) (A B : List Vector) → Long n A → Long n B → RisingList n A → RisingList n B
    → Among n A B → Among n B A → A ≡ B
rising_same n A B a b r s f g = ext_get_or [] A B long (λ i l. same_vector n (vector A i) (vector B i) (a i l)
    (b i (subst (λ m. i < m) long l)) (stays (strict n) (length A) (length B) (family A) (family B) up up' f g i l))
  where
    up : (i : ℕ) → suc i < length A → Earlier n (family A i) (family A (suc i))
    up i l = to_earlier (r i l)

    up' : (i : ℕ) → suc i < length B → Earlier n (family B i) (family B (suc i))
    up' i l = to_earlier (s i l)

    long : length A ≡ length B
    long = as_long (strict n) (length A) (length B) (family A) (family B) up up' f g

-- ---- a rising list of the vectors that cleaning keeps

-- R is rising, of n + 1 entries each, and its vectors are exactly those of W whose index is kept
pub record Sorts (n : ℕ) (W : List Vector) (K : ℕ → Type 0) (R : List Vector) : Type 0 where
  pub long : Long n R
  pub rising : RisingList n R
  pub from : (i : ℕ) → i < length R → (k : ℕ) × K k × Same (suc n) (family R i) (family W k)
  pub all : (k : ℕ) → K k → (i : ℕ) × (i < length R) × Same (suc n) (family R i) (family W k)

module _ (n : ℕ) (W : List Vector) (K : ℕ → Type 0) (R : List Vector)
    (shifted : (i : ℕ) → i < length W → Shifted n (vector W i))
    (c : Cleaned (suc n) (length W) (length W) (family W) K) (r : Sorts n W K R) where
  -- the kept vectors generate X
  KeptSpan : Vec → Type 0
  KeptSpan X = Span (suc n) (sel (family W) K) X

  kinds_w : PointsAndRays n W
  kinds_w i l = shifted_kind (shifted i l)

  kinds_r : PointsAndRays n R
  kinds_r i l = let (k, h, e) = r.from i l in by (e n (omega arith)) (kinds_w k (c.part k h))
    where
      by : {x y : Num} → x ≡ y → (y ≡ nought) ⊎ (y ≡ −∞) → (x ≡ nought) ⊎ (x ≡ −∞)
      by e (inl q) = inl (e ∙ q)
      by e (inr q) = inr (e ∙ q)

  -- R generates what the kept vectors generate, and that is what W generates
  to_kept : (X : Vec) → Spans n R X → KeptSpan X
  unfolding KeptSpan
  to_kept X s = span_trans (suc n) (listed R) (sel (family W) K) s (λ i. one i.0 i.1)
    where
      one : (i : ℕ) → i < length R → Span (suc n) (sel (family W) K) (family R i)
      one i l = let (k, h, e) = r.from i l in
          span_same (suc n) (sel (family W) K) e (span_self (suc n) (sel (family W) K) (k, h))

  from_kept : (X : Vec) → KeptSpan X → Spans n R X
  unfolding KeptSpan
  from_kept X s = span_trans (suc n) (sel (family W) K) (listed R) s (λ k. one k.0 k.1)
    where
      one : (k : ℕ) → K k → Spans n R (family W k)
      one k h = let (i, l, e) = r.all k h in span_same (suc n) (listed R) (λ j m. sym (e j m)) (own n R i l)

  -- R has the set of W
  pub sorts_set : (x : Vector) → In n R x ↔ In n W x
  unfolding KeptSpan
  sorts_set x = (
    λ h. let (long, s) = (in_span n R kinds_r x).0 h in
        (in_span n W kinds_w x).1 (
          long,
          span_more (suc n) (family W) K (λ i. i < length W) c.part
              (spot n nought x) (to_kept (spot n nought x) s),
        ),
    λ h. let (long, s) = (in_span n W kinds_w x).0 h in
        (in_span n R kinds_r x).1 (long, from_kept (spot n nought x) (c.whole (spot n nought x) s)),
  )

  -- a kept vector is not generated by the other kept ones, so no vector of R by the others of R
  not_generated : (i : ℕ) → i < length R → ¬ Generated n R i
  not_generated i l g = let (k, h, e) = r.from i l in
      c.alone k (c.part k h) h (span_same (suc n) (sel (family W) (Without K k)) (λ j m. sym (e j m))
      (span_trans (suc n) (others (suc n) (listed R) (i, l)) (sel (family W) (Without K k))
      ((generated_iff n R i l kinds_r).0 g) (λ o. other k h e o)))
    where
      other : (k : ℕ) → K k → Same (suc n) (family R i) (family W k) → (o : (o : Row (length R)) × (o ≢ (i, l)))
          → Span (suc n) (sel (family W) (Without K k)) (family R o.0.0)
      other k h e ((o, m), ne) = let (p, q, d) = r.from o m in
          span_same (suc n) (sel (family W) (Without K k)) d
          (span_self (suc n) (sel (family W) (Without K k)) (p, (q, apart p d)))
        where
          apart : (p : ℕ) → Same (suc n) (family R o) (family W p) → p ≢ k
          apart p d z = ne (Fin.val_path (rising_apart n R r.rising o i m l
              (λ j b. d j b ∙ (ap (λ t. family W t j) z ∙ sym (e j b)))))

  -- a kept ray is not −∞ everywhere, so its largest clock is 0
  ray_shifted : (i : ℕ) → i < length R → IsRay n (vector R i) → ⨁ n (family R i) ≡ nought
  ray_shifted i l q = let (k, h, e) = r.from i l in by k h e (shifted k (c.part k h))
    where
      by : (k : ℕ) → K k → Same (suc n) (family R i) (family W k) → Shifted n (vector W k) → ⨁ n (family R i) ≡ nought
      by k h e (point p) = absurd (fin_low (sym p ∙ (sym (e n (omega arith)) ∙ q)))
      by k h e (ray p t) = ⨁_ext n (family R i) (family W k) (λ j m. e j (omega arith)) ∙ t
      by k h e (blank p t) = absurd (c.alone k (c.part k h) h (record { at = λ j m f. absurd (low j m f) }))
        where
          low : (j : ℕ) → j < suc n → ¬ IsFin (family W k j)
          low = places n (λ j. ¬ IsFin (family W k j)) (λ f. subst IsFin p f)
              (λ j m f. subst IsFin t (fin_up f (⨁_le n (family W k) j m)))

  module _ (pointed : Pointed n W) where
    has_point_lem : Pointed n R
    unfolding KeptSpan
    has_point_lem =
        let (p, l, e) = pointed in
        let f : IsFin (family W p n) = rw e tt in
        let (i, q) = (from_kept (family W p) (c.whole (family W p) (own n W p l))).at n (omega arith) f in
        (i.0, i.1, by (meets_fin q f) (kinds_r i.0 i.1))
      where
        by : {x : Num} → IsFin x → (x ≡ nought) ⊎ (x ≡ −∞) → x ≡ nought
        by f (inl e) = e
        by f (inr e) = absurd (subst IsFin e f)

    -- points come first
    first_point : 0 < length R → IsPoint n (vector R 0)
    first_point l = let (i, m, e) = has_point_lem in go i m e (dec_lt 0 i)
      where
        go : (i : ℕ) → i < length R → IsPoint n (vector R i) → Dec (0 < i) → IsPoint n (vector R 0)
        go i m e (no h) = subst (λ k. IsPoint n (vector R k)) (omega arith) e
        go i m e (yes h) = by (rising_far n R r.rising 0 i h m)
          where
            by : Earlier n (family R 0) (family R i) → IsPoint n (vector R 0)
            by (by_kind p q) = p
            by (by_clock q x) = q ∙ e

    sorts_canonical : Canonical n R
    sorts_canonical = record {
      long = r.long;
      kind = kinds_r;
      alone = not_generated;
      shifted = ray_shifted;
      rising = r.rising;
      pointed = first_point;
    }

-- a rising list of the vectors that cleaning keeps of a list with a point is canonical and has the list's set
pub canonical_by : (n : ℕ) (W : List Vector) (K : ℕ → Type 0) (R : List Vector)
    → ((i : ℕ) → i < length W → Shifted n (vector W i)) → Pointed n W
    → Cleaned (suc n) (length W) (length W) (family W) K → Sorts n W K R
    → Canonical n R × ((x : Vector) → In n R x ↔ In n W x)
canonical_by n W K R s p c r = (sorts_canonical n W K R s c r p, sorts_set n W K R s c r)

-- the kept vectors can be sorted in one way only
pub sorts_same : (n : ℕ) (W : List Vector) (K : ℕ → Type 0) (R S : List Vector) → Sorts n W K R → Sorts n W K S → R ≡ S
sorts_same n W K R S r s = rising_same n R S r.long s.long r.rising s.rising (among R S r s) (among S R s r)
  where
    among : (A B : List Vector) → Sorts n W K A → Sorts n W K B → Among n A B
    among A B a b i l =
        let (k, h, e) = a.from i l in
        let (j, m, d) = b.all k h in
        (j, m, λ p q. e p q ∙ sym (d p q))

-- the vectors whose flag is on, sorted
pub sorted_sorts : (n : ℕ) (W : List Vector) → Long n W → PointsAndRays n W → (flags : List Bool)
    → Sorts n W (On (length W) flags) (sorted n (kept flags W))
sorted_sorts n W long kind flags = record {
  long = λ i l. (fit (vector R i) ((members (vector R i)).0 (has_at R i l))).long;
  rising = sorted_rising n (kept flags W) fit;
  from = λ i l. source ((has_kept flags W (vector R i)).0 ((members (vector R i)).0 (has_at R i l)));
  all = λ k h. target k ((members (vector W k)).1 ((has_kept flags W (vector W k)).1
      (record { place = k; inside = h.0; flag = h.1; is = refl })));
}
  where
    R : List Vector
    R = sorted n (kept flags W)

    fit : Fits n (kept flags W)
    fit v h =
        let k = (has_kept flags W v).0 h in
        subst (Fit n) k.is (record { long = long k.place k.inside; kind = kind k.place k.inside })

    members : (v : Vector) → Has R v ↔ Has (kept flags W) v
    members = sorted_has n (kept flags W) fit

    source : {v : Vector} → Kept flags W v → (k : ℕ) × On (length W) flags k × Same (suc n) (entry v) (family W k)
    source k = (k.place, (k.inside, k.flag), λ j m. ap (λ u. entry u j) (sym k.is))

    target : (k : ℕ) → Has R (vector W k) → (i : ℕ) × (i < length R) × Same (suc n) (family R i) (family W k)
    target k h = (h.place, h.inside, λ j m. ap (λ u. entry u j) h.is)

-- ---- the canonical list of a list of vectors
tells_fin : (x : Num) → Tells (is_point x) (IsFin x)
tells_fin −∞ = never (λ f. f)
tells_fin (fin z) = always tt

-- the test tells whether some vector has a finite last entry
pub tells_some_point : (n : ℕ) (L : List Vector)
    → Tells (some_point n L) ((i : ℕ) × (i < length L) × IsFin (entry (vector L i) n))
unfolding some_point
tells_some_point n L = tells_some (λ i. is_point (entry (vector L i) n)) (λ i. IsFin (entry (vector L i) n)) (length L)
    (λ i l. tells_fin (entry (vector L i) n))

-- nothing at all is canonical, and has the empty set
empty_canonical : (n : ℕ) → Canonical n []
empty_canonical n = record {
  long = λ i l. absurd (no_place l);
  kind = λ i l. absurd (no_place l);
  alone = λ i l. absurd (no_place l);
  shifted = λ i l. absurd (no_place l);
  rising = λ i l. absurd (no_place l);
  pointed = λ l. absurd (no_place l);
}

module _ (n : ℕ) (L : List Vector) where
  Made : List Vector → Type 0
  Made R = Canonical n R × ((x : Vector) → In n R x ↔ In n (map (normal n) L) x)

  with_point_lem : (i : ℕ) × (i < length L) × IsFin (entry (vector L i) n)
      → Made (sorted n (cleaned n (map (normal n) L)))
  unfolding Made cleaned
  with_point_lem (i, l, f) = canonical_by n W (On (length W) flags) (sorted n (kept flags W)) (normals_shifted n L)
      (i, rw length-map l, rw (map_at (normal n) L i l) ((normal_point n (vector L i)).0 f))
      (flags_clean (suc n) (length W) (family W)).left
      (sorted_sorts n W (normals_long n L) (normals_kinds n L) flags)
    where
      W : List Vector
      W = map (normal n) L

      flags : List Bool
      flags = clean_flags (suc n) (length W) (family W)

  without_point : ¬ ((i : ℕ) × (i < length L) × IsFin (entry (vector L i) n)) → Made []
  unfolding Made
  without_point h = (
    empty_canonical n,
    λ x. (
      λ r. absurd (rays_only n [] (λ i l. absurd (no_place l)) x r),
      λ r. absurd (rays_only n (map (normal n) L) rays x r),
    ),
  )
    where
      only : (i : ℕ) → i < length L → Shifted n (normal n (vector L i)) → IsRay n (normal n (vector L i))
      only i l (point e) = absurd (h (i, l, (normal_point n (vector L i)).1 e))
      only i l (ray e t) = e
      only i l (blank e t) = e

      rays : (i : ℕ) → i < length (map (normal n) L) → IsRay n (vector (map (normal n) L) i)
      rays = normal_each n L (IsRay n) (λ i l. only i l (normal_shifted n (vector L i)))

  made : Made (canonical_of n L)
  unfolding canonical_of
  made = go (some_point n L) (tells_some_point n L)
    where
      go : (b : Bool) → Tells b ((i : ℕ) × (i < length L) × IsFin (entry (vector L i) n))
          → Made (cond b (sorted n (cleaned n (map (normal n) L))) [])
      go true t = with_point_lem (t.yes refl)
      go false t = without_point (t.no refl)

  -- the list that is shifted, cleaned and sorted is canonical
  pub canonical_made : Canonical n (canonical_of n L)
  unfolding Made
  canonical_made = made.0

  -- it has the set of the shifted vectors
  pub canonical_set : (x : Vector) → In n (canonical_of n L) x ↔ In n (map (normal n) L) x
  unfolding Made
  canonical_set = made.1
