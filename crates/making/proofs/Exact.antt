-- The canonical list of each working list has exactly the wanted set.
use mathlib.Core.Bool.{Bool, true, false, cond}
use mathlib.Core.List.{List, [], ◌++◌, map, append-nil}
use mathlib.Core.Logic.Iff
use mathlib.Core.Logic.{◌⊎◌, inl, inr, ◌↔◌}
use mathlib.Core.Path.{refl, sym, subst}
use Prim.Native.Nat.{ℕ, suc, ◌<◌}
use native.Mathlib.Omega.{arith}
use lib.IntN.{ℤ}
use lib.ListN.{length}
use Rattle.numbers.specs.Numbers.{IsFin}
use Rattle.numbers.proofs.Tells.{Tells, means}
use Rattle.algebra.specs.Vectors.{Vector, entry, vector, family, IsPoint, IsRay, PointsAndRays}
use Rattle.algebra.specs.Sets.{In}
use Rattle.algebra.specs.Wanted.{Intersected, Delayed, Reset, Hull}
use Rattle.algebra.specs.Working.{normal, intersect_list, delay_list, reset_list, some_point, with_point, hull_list}
use Rattle.algebra.proofs.Generation.{span_self, span_same, span_trans}
use Rattle.algebra.proofs.HalfSpace.{Sat, half_space_lem, span_sat}
use Rattle.algebra.proofs.Lists.{listed, Spans, own, split}
use Rattle.algebra.proofs.Made.{Long, Pointed, rays_only, hull_exact, intersect_exact, delay_kinds, delay_exact}
use Rattle.algebra.proofs.Made.{reset_kinds, reset_exact}
use Rattle.making.specs.Clean.{canonical_of}
use Rattle.making.proofs.Normal.{normals_kinds, spans_normal, normal_set}
use Rattle.making.proofs.Members.{no_place, Has, has_at}
use Rattle.making.proofs.Existence.{tells_some_point, canonical_set}
use Rattle.making.proofs.Crossings.{CutOf, cut_of, list_cut, cut_list}

-- a list of points and rays has the set of its canonical list
pub canonical_same : (n : ℕ) (L : List Vector) → PointsAndRays n L → (x : Vector)
    → In n (canonical_of n L) x ↔ In n L x
canonical_same n L k x = Iff.trans (canonical_set n L x) (normal_set n L k x)

-- ---- the half-space
module _ (n : ℕ) (ab cd : Vector) (L : List Vector) (k : PointsAndRays n L) where
  abbrev Q : List Vector
  Q = intersect_list n ab cd L

  -- each vector of the working list satisfies, and the list generates it
  inside : (v : Vector) → Has Q v → Spans n L (entry v) × Sat (suc n) (entry ab) (entry cd) (entry v)
  inside v h =
      let (u, e) = list_cut n ab cd L v h in
      (half_space_lem (suc n) (entry ab) (entry cd) (listed L) (entry v)).1
      (span_same (suc n) (cut_of n ab cd L) e (span_self (suc n) (cut_of n ab cd L) u))

  -- the working list generates the cut family
  covered : (u : CutOf n ab cd L) → Spans n Q (cut_of n ab cd L u)
  covered u =
      let (v, h, e) = cut_list n ab cd L u in
      span_same (suc n) (listed Q) (λ j l. sym (e j l))
      (subst (λ w. Spans n Q (entry w)) h.is (own n Q h.place h.inside))

  -- the canonical list of the half-space's working list has the part of the set that satisfies
  pub intersect_made : (x : Vector) → In n (canonical_of n (intersect_list n ab cd L)) x ↔ Intersected n (In n L) ab cd x
  intersect_made x = Iff.trans (canonical_set n Q x) (intersect_exact n L R ab cd k (normals_kinds n Q) part
      (λ u. (spans_normal n Q (cut_of n ab cd L u)).1 (covered u)) x)
    where
      R : List Vector
      R = map (normal n) Q

      part : (i : ℕ) → i < length R → Spans n L (family R i) × Sat (suc n) (entry ab) (entry cd) (family R i)
      part i l = (
        span_trans (suc n) (listed Q) (listed L) spanned (λ q. (inside (vector Q q.0) (has_at Q q.0 q.1)).0),
        span_sat (suc n) (entry ab) (entry cd) (listed Q) (family R i)
            (λ q. (inside (vector Q q.0) (has_at Q q.0 q.1)).1) spanned,
      )
        where
          spanned : Spans n Q (family R i)
          spanned = (spans_normal n Q (family R i)).0 (own n R i l)

-- ---- delay and reset
-- the canonical list of the delay's working list has the set after the delay
pub delay_made : (n : ℕ) (L : List Vector) → PointsAndRays n L → Long n L → (x : Vector)
    → In n (canonical_of n (delay_list n L)) x ↔ Delayed (In n L) x
delay_made n L k h x = Iff.trans (canonical_same n (delay_list n L) (delay_kinds n L k h) x) (delay_exact n L k h x)

-- the canonical list of the reset's working list has the set after the reset
pub reset_made : (n : ℕ) (L : List Vector) → PointsAndRays n L → Long n L → (i : ℕ) → i < n → (c : ℤ) (x : Vector)
    → In n (canonical_of n (reset_list n i c L)) x ↔ Reset (In n L) i c x
reset_made n L k h i l c x =
    Iff.trans (canonical_same n (reset_list n i c L) (reset_kinds n L k h i l c) x) (reset_exact n L k h i l c x)

-- ---- the hull
module _ (n : ℕ) (L : List Vector) (k : PointsAndRays n L) where
  -- the test tells whether the list has a point
  pub tells_pointed : Tells (some_point n L) (Pointed n L)
  tells_pointed = means to from (tells_some_point n L)
    where
      by : (i : ℕ) → IsFin (entry (vector L i) n) → IsPoint n (vector L i) ⊎ IsRay n (vector L i)
          → IsPoint n (vector L i)
      by i f (inl e) = e
      by i f (inr e) = absurd (subst IsFin e f)

      to : (i : ℕ) × (i < length L) × IsFin (entry (vector L i) n) → Pointed n L
      to (i, l, f) = (i, l, by i f (k i l))

      from : Pointed n L → (i : ℕ) × (i < length L) × IsFin (entry (vector L i) n)
      from (i, l, e) = (i, l, rw e tt)

  -- a list without points has the empty set
  pub no_points : ¬ Pointed n L → (x : Vector) → ¬ In n L x
  no_points h = rays_only n L (λ i l. by i l (k i l))
    where
      by : (i : ℕ) → i < length L → IsPoint n (vector L i) ⊎ IsRay n (vector L i) → IsRay n (vector L i)
      by i l (inl e) = absurd (h (i, l, e))
      by i l (inr e) = e

  with_kinds : PointsAndRays n (with_point n L)
  unfolding with_point
  with_kinds = go (some_point n L)
    where
      go : (b : Bool) → PointsAndRays n (cond b L [])
      go true = k
      go false = λ i l. absurd (omega arith)

module _ (n : ℕ) (A B : List Vector) (a : PointsAndRays n A) (b : PointsAndRays n B) where
  -- the vectors of the hull's working list are points and rays
  pub hull_kinds : PointsAndRays n (hull_list n A B)
  unfolding hull_list
  hull_kinds = split (with_point n A) (with_point n B) (λ v. IsPoint n v ⊎ IsRay n v)
      (with_kinds n A a) (with_kinds n B b)

  -- the hull with an empty set adds nothing
  hull_left : ¬ Pointed n B → (x : Vector) → In n A x ↔ Hull n (In n A) (In n B) x
  hull_left q x = (λ r L k f g. f x r, λ h. h A a (λ y r. r) (λ y r. absurd (no_points n B b q y r)))

  hull_right : ¬ Pointed n A → (x : Vector) → In n B x ↔ Hull n (In n A) (In n B) x
  hull_right p x = (λ r L k f g. g x r, λ h. h B b (λ y r. absurd (no_points n A a p y r)) (λ y r. r))

  hull_none : ¬ Pointed n A → ¬ Pointed n B → (x : Vector) → In n [] x ↔ Hull n (In n A) (In n B) x
  hull_none p q x = (
    λ r. absurd (no_points n [] none (λ h. no_place h.1) x r),
    λ h. h [] none (λ y r. absurd (no_points n A a p y r)) (λ y r. absurd (no_points n B b q y r)),
  )
    where
      none : PointsAndRays n []
      none i l = absurd (no_place l)

  hull_list_lem : (x : Vector) → In n (hull_list n A B) x ↔ Hull n (In n A) (In n B) x
  unfolding hull_list with_point
  hull_list_lem x = go (some_point n A) (some_point n B) (tells_pointed n A a) (tells_pointed n B b)
    where
      go : (s t : Bool) → Tells s (Pointed n A) → Tells t (Pointed n B)
          → In n (cond s A [] ++ cond t B []) x ↔ Hull n (In n A) (In n B) x
      go true true p q = hull_exact n A B a b (p.yes refl) (q.yes refl) x
      go true false p q = rw (append-nil A) (hull_left (q.no refl) x)
      go false true p q = hull_right (p.no refl) x
      go false false p q = hull_none (p.no refl) (q.no refl) x

  -- the canonical list of the hull's working list has the hull of the two sets
  pub hull_made : (x : Vector) → In n (canonical_of n (hull_list n A B)) x ↔ Hull n (In n A) (In n B) x
  hull_made x = Iff.trans (canonical_same n (hull_list n A B) hull_kinds x) (hull_list_lem x)
