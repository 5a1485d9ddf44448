-- Shifted vectors: what `normal` makes of a vector, and that shifted vectors generate what the vectors generate.
use mathlib.Core.List.{List, [], ◌∷◌, map}
use mathlib.Core.Logic.{◌⊎◌, inl, inr, ◌↔◌}
use mathlib.Core.Path.{◌≡◌, refl, sym, ◌∙◌, ap, subst}
use Prim.Native.Nat.{ℕ, zero, suc, ◌<◌}
use native.Mathlib.Omega.{arith}
use lib.IntN.{ℤ, pos, neg_ℤ, ◌+ℤ◌}
use lib.ListN.{length, length-map}
use Rattle.numbers.specs.Numbers.{Num, −∞, fin, IsFin, ◌▷◌, ⨁, nought}
use Rattle.numbers.specs.Places.{Vec}
use Rattle.numbers.proofs.IntegerLaws.{same, sum, neg}
use Rattle.numbers.proofs.NumberLaws.{▷_mono, ▷_assoc, ▷_fin, ▷_fin', ▷_undo, ⨁_⊗, ⨁_ext}
use Rattle.algebra.specs.Vectors.{Vector, entry, vector, family, IsPoint, IsRay, PointsAndRays}
use Rattle.algebra.specs.Sets.{In}
use Rattle.algebra.specs.Working.{shift_by, normal}
use Rattle.algebra.proofs.Entries.{Same}
use Rattle.algebra.proofs.Generation.{Meets, Span, span_trans}
use Rattle.algebra.proofs.Lists.{listed, Spans, spot, tab_length, tab_at, in_span, own}
use Rattle.algebra.proofs.Made.{Long}

-- a point, a ray whose largest clock is 0, or a ray with −∞ at every clock
pub data Shifted (n : ℕ) (v : Vector) : Type 0 where
  point : IsPoint n v → Shifted n v
  ray : IsRay n v → ⨁ n (entry v) ≡ nought → Shifted n v
  blank : IsRay n v → ⨁ n (entry v) ≡ −∞ → Shifted n v

-- a shifted vector is a point or a ray
pub shifted_kind : {n : ℕ} {v : Vector} → Shifted n v → IsPoint n v ⊎ IsRay n v
shifted_kind (point e) = inl e
shifted_kind (ray e t) = inr e
shifted_kind (blank e t) = inr e

back_to_nought : (z : ℤ) → neg_ℤ z ▷ fin z ≡ nought
back_to_nought z = ap fin (same (neg_ℤ z +ℤ z) (pos 0) (omega (arith, sum (neg_ℤ z) z, neg z)))

module _ (n : ℕ) (v : Vector) where
  -- how far `normal` shifts v
  abbrev pub shift_of : ℤ
  shift_of = shift_by (entry v n) (⨁ n (entry v))

  -- the shifted vector has n + 1 entries
  pub normal_long : length (normal n v) ≡ suc n
  unfolding normal
  normal_long = tab_length (suc n) (λ j. shift_by (entry v n) (⨁ n (entry v)) ▷ entry v j)

  -- each entry is shifted by the same integer
  pub normal_at : (j : ℕ) → j < suc n → entry (normal n v) j ≡ shift_of ▷ entry v j
  unfolding normal
  normal_at j l = sym (tab_at (suc n) (λ j. shift_by (entry v n) (⨁ n (entry v)) ▷ entry v j) j l)

  -- its largest clock is the largest clock, shifted
  normal_largest : ⨁ n (entry (normal n v)) ≡ shift_of ▷ ⨁ n (entry v)
  normal_largest = ⨁_ext n (entry (normal n v)) (λ j. shift_of ▷ entry v j) (λ j l. normal_at j (omega arith))
      ∙ sym (⨁_⊗ (fin shift_of) n (entry v))

  -- the shifted vector is a point, a ray whose largest clock is 0, or a ray with −∞ at every clock
  pub normal_shifted : Shifted n (normal n v)
  normal_shifted = go (entry v n) (⨁ n (entry v)) refl refl
    where
      at : (x y : Num) → entry v n ≡ x → ⨁ n (entry v) ≡ y → entry (normal n v) n ≡ shift_by x y ▷ x
      at x y p q = rw (← p, ← q) (normal_at n (omega arith))

      largest : (x y : Num) → entry v n ≡ x → ⨁ n (entry v) ≡ y → ⨁ n (entry (normal n v)) ≡ shift_by x y ▷ y
      largest x y p q = rw (← p, ← q) normal_largest

      go : (x y : Num) → entry v n ≡ x → ⨁ n (entry v) ≡ y → Shifted n (normal n v)
      go (fin z) y p q = point (at (fin z) y p q ∙ back_to_nought z)
      go −∞ (fin z) p q = ray (at −∞ (fin z) p q) (largest −∞ (fin z) p q ∙ back_to_nought z)
      go −∞ −∞ p q = blank (at −∞ −∞ p q) (largest −∞ −∞ p q)

  -- the shifted vector is a point exactly if the last entry is no −∞
  pub normal_point : IsFin (entry v n) ↔ IsPoint n (normal n v)
  normal_point = (λ f. by f normal_shifted, from)
    where
      by : IsFin (entry v n) → Shifted n (normal n v) → IsPoint n (normal n v)
      by f (point e) = e
      by f (ray e t) = absurd (subst IsFin (sym (normal_at n (omega arith)) ∙ e) (▷_fin' shift_of (entry v n) f))
      by f (blank e t) = absurd (subst IsFin (sym (normal_at n (omega arith)) ∙ e) (▷_fin' shift_of (entry v n) f))

      from : IsPoint n (normal n v) → IsFin (entry v n)
      from e = ▷_fin shift_of (entry v n) (subst IsFin (sym e ∙ normal_at n (omega arith)) tt)

-- ---- generation
-- what a family generates it generates shifted
pub span_shift : {I : Type 0} (d : ℕ) (G : I → Vec) (c : ℤ) (X Y : Vec) → Same d Y (λ j. c ▷ X j)
    → Span d G X → Span d G Y
span_shift {I} d G c X Y e s = record { at = λ j l f. one j l (s.at j l (▷_fin c (X j) (subst IsFin (e j l) f))) }
  where
    one : (j : ℕ) → j < d → (i : I) × Meets d j (G i) X → (i : I) × Meets d j (G i) Y
    one j l (i, p) = (
      i,
      record {
        by = c +ℤ p.by;
        below = λ k m. rw (e k m, ▷_assoc c p.by (G i k)) (▷_mono c (p.below k m));
        meets = rw (e j l, ▷_assoc c p.by (G i j)) (▷_mono c p.meets);
      },
    )

-- vector i of the list that f makes of each vector
pub map_at : (f : Vector → Vector) (L : List Vector) (i : ℕ) → i < length L → vector (map f L) i ≡ f (vector L i)
map_at f [] i l = absurd (omega arith)
map_at f (v ∷ L) zero l = refl
map_at f (v ∷ L) (suc i) l = map_at f L i (omega arith)

module _ (n : ℕ) (L : List Vector) where
  normal_length : length (map (normal n) L) ≡ length L
  normal_length = length-map L (normal n)

  -- what holds of each shifted vector holds of the vectors of the list of shifted vectors
  pub normal_each : (P : Vector → Type 0) → ((i : ℕ) → i < length L → P (normal n (vector L i)))
      → (i : ℕ) → i < length (map (normal n) L) → P (vector (map (normal n) L) i)
  normal_each P h i l = rw (map_at (normal n) L i m) (h i m)
    where
      m : i < length L
      m = subst (λ k. i < k) normal_length l

  -- the shifted vectors have n + 1 entries each
  pub normals_long : Long n (map (normal n) L)
  normals_long = normal_each (λ v. length v ≡ suc n) (λ i l. normal_long n (vector L i))

  -- each is shifted
  pub normals_shifted : (i : ℕ) → i < length (map (normal n) L) → Shifted n (vector (map (normal n) L) i)
  normals_shifted = normal_each (Shifted n) (λ i l. normal_shifted n (vector L i))

  -- each is a point or a ray
  pub normals_kinds : PointsAndRays n (map (normal n) L)
  normals_kinds i l = shifted_kind (normals_shifted i l)

  -- shifted vectors generate what the vectors generate
  pub spans_normal : (X : Vec) → Spans n (map (normal n) L) X ↔ Spans n L X
  spans_normal X = (
    λ s. span_trans (suc n) (listed (map (normal n) L)) (listed L) s
        (λ i. normal_each (λ v. Spans n L (entry v)) down i.0 i.1),
    λ s. span_trans (suc n) (listed L) (listed (map (normal n) L)) s (λ i. up i.0 i.1),
  )
    where
      down : (i : ℕ) → i < length L → Spans n L (entry (normal n (vector L i)))
      down i l = span_shift (suc n) (listed L) (shift_of n (vector L i)) (family L i) (entry (normal n (vector L i)))
          (normal_at n (vector L i)) (own n L i l)

      up : (i : ℕ) → i < length L → Spans n (map (normal n) L) (family L i)
      up i l = span_shift (suc n) (listed (map (normal n) L)) (neg_ℤ c) (entry (normal n (vector L i))) (family L i)
          (λ j m. sym (ap (λ x. neg_ℤ c ▷ x) (normal_at n (vector L i) j m) ∙ ▷_undo c (family L i j)))
          (subst (λ v. Spans n (map (normal n) L) (entry v)) (map_at (normal n) L i l)
          (own n (map (normal n) L) i (rw normal_length l)))
        where
          c : ℤ
          c = shift_of n (vector L i)

  -- a list of points and rays has the set of the list of its shifted vectors
  pub normal_set : PointsAndRays n L → (x : Vector) → In n (map (normal n) L) x ↔ In n L x
  normal_set k x = (
    λ r. let (long, s) = (in_span n (map (normal n) L) normals_kinds x).0 r in
        (in_span n L k x).1 (long, (spans_normal (spot n nought x)).0 s),
    λ r. let (long, s) = (in_span n L k x).0 r in
        (in_span n (map (normal n) L) normals_kinds x).1 (long, (spans_normal (spot n nought x)).1 s),
  )
