-- Combination by scalars is generation, and the largest scalars decide it: a vector is a combination of the first m
-- vectors of a family exactly if `reach` gives it back.
use mathlib.Core.Path.{◌≡◌, refl, ◌∙◌, subst}
use mathlib.Core.Logic.{◌↔◌}
use Prim.Native.Nat.{ℕ, ◌+◌, ◌≤◌, ◌<◌}
use native.Mathlib.Omega.{arith}
use Rattle.numbers.specs.Numbers.{Num, −∞, fin, IsFin, ◌≼◌, ◌▷◌, ◌⊗◌, ◌⊕◌, ⨁}
use Rattle.numbers.specs.Places.{Vec}
use Rattle.numbers.specs.Weights.{weight_of}
use Rattle.numbers.proofs.NumberLaws.{≼_trans, ≼_antisym, ≼_of_eq, dec_fin, not_fin, ⊗_fin_l, ⨁_le, ⨁_sup, ⨁_at}
use Rattle.numbers.proofs.NumberLaws.{⨁_ext}
use Rattle.numbers.proofs.PlaceLaws.{⨁_none, ⨁_more}
use Rattle.numbers.proofs.WeightLaws.{weight_below, weight_most, weight_ext}
use Rattle.algebra.specs.Reach.{reach}
use Rattle.algebra.proofs.Generation.{Meets, Span}

-- X is, at the first d places, the largest of the first m vectors of G, each weighted by a scalar
unfoldable pub Gen : ℕ → ℕ → (ℕ → Vec) → Vec → Type 0
Gen d m G X = (c : ℕ → Num) × ((j : ℕ) → j < d → X j ≡ ⨁ m (λ i. c i ⊗ G i j))

-- the indices below m
abbrev pub Row : ℕ → Type 0
Row m = (i : ℕ) × (i < m)

-- the first m vectors of G as a family
abbrev pub rows : (m : ℕ) → (ℕ → Vec) → Row m → Vec
rows m G i = G i.0

module _ (d m : ℕ) (G : ℕ → Vec) (X : Vec) where
  -- the largest combination that is not above X is indeed not above it
  pub reach_below : (j : ℕ) → j < d → reach d m G X j ≼ X j
  unfolding reach
  reach_below j l = ⨁_sup m (λ i. weight_of d (G i) X ⊗ G i j) (X j) (λ i h. weight_below d (G i) X j l)

  reach_gen : ((j : ℕ) → j < d → X j ≡ reach d m G X j) → Gen d m G X
  unfolding Gen reach
  reach_gen h = (λ i. weight_of d (G i) X, h)

  gen_span : Gen d m G X → Span d (rows m G) X
  unfolding Gen
  gen_span (c, h) = record { at = λ j l f. one j l f (⨁_at m (λ i. c i ⊗ G i j) (rw (h j l) at f)) }
    where
      low : (i : ℕ) → i < m → (k : ℕ) → k < d → c i ⊗ G i k ≼ X k
      low i il k kl = rw (h k kl) (⨁_le m (λ i. c i ⊗ G i k) i il)

      meets : (i j : ℕ) → i < m → (z : Num) → c i ≡ z → IsFin z → X j ≡ c i ⊗ G i j → Meets d j (G i) X
      meets i j il −∞ q f e = absurd f
      meets i j il (fin z) q f e = record {
        by = z;
        below = λ k kl. subst (λ y. y ⊗ G i k ≼ X k) q (low i il k kl);
        meets = subst (λ y. X j ≼ y ⊗ G i j) q (≼_of_eq e);
      }

      one : (j : ℕ) → j < d → IsFin (X j) → (i : ℕ) × (i < m) × (⨁ m (λ i. c i ⊗ G i j) ≡ c i ⊗ G i j)
          → (i : Row m) × Meets d j (rows m G i) X
      one j l f (i, il, e) =
          let q : X j ≡ c i ⊗ G i j = h j l ∙ e in
          ((i, il), meets i j il (c i) refl (⊗_fin_l (c i) (G i j) (rw q at f)) q)

  span_reach : Span d (rows m G) X → (j : ℕ) → j < d → X j ≡ reach d m G X j
  unfolding reach
  span_reach s j l = ≼_antisym (go (dec_fin (X j))) (reach_below j l)
    where
      term : ℕ → Num
      term i = weight_of d (G i) X ⊗ G i j

      most : (i : Row m) (p : Meets d j (G i.0) X) → p.by ▷ G i.0 j ≼ term i.0
      most i p = weight_most d (G i.0) X (fin p.by) p.below j l

      go : Dec (IsFin (X j)) → X j ≼ ⨁ m term
      go (no n) = not_fin (X j) n
      go (yes f) =
          let (i, p) = s.at j l f in
          ≼_trans p.meets (≼_trans (most i p) (⨁_le m term i.0 i.1))

  -- X is a combination by scalars exactly if the combination with the largest scalars gives it back
  pub residuation : Gen d m G X ↔ ((j : ℕ) → j < d → X j ≡ reach d m G X j)
  residuation = (λ g. span_reach (gen_span g), reach_gen)

  -- X is a combination by scalars exactly if the family generates it
  pub gen_iff_span : Gen d m G X ↔ Span d (rows m G) X
  gen_iff_span = (gen_span, λ s. reach_gen (span_reach s))

-- ---- what is reached
-- nothing, by no vectors
pub reach_none : (d : ℕ) (G : ℕ → Vec) (X : Vec) (j : ℕ) → reach d 0 G X j ≡ −∞
unfolding reach
reach_none d G X j = ⨁_none (λ i. weight_of d (G i) X ⊗ G i j)

-- one vector more
pub reach_more : (d m : ℕ) (G : ℕ → Vec) (X : Vec) (j : ℕ)
    → reach d (m + 1) G X j ≡ reach d m G X j ⊕ (weight_of d (G m) X ⊗ G m j)
unfolding reach
reach_more d m G X j = ⨁_more m (λ i. weight_of d (G i) X ⊗ G i j)

-- more vectors reach no less
pub reach_grows : (d i m : ℕ) (G : ℕ → Vec) (X : Vec) (j : ℕ) → i ≤ m → reach d i G X j ≼ reach d m G X j
unfolding reach
reach_grows d i m G X j h = ⨁_sup i (λ k. weight_of d (G k) X ⊗ G k j) (⨁ m (λ k. weight_of d (G k) X ⊗ G k j))
    (λ k l. ⨁_le m (λ k. weight_of d (G k) X ⊗ G k j) k (omega arith))

-- families and vectors with the same entries reach the same
pub reach_ext : (d m : ℕ) (G H : ℕ → Vec) (X Y : Vec) → ((i j : ℕ) → i < m → j < d → G i j ≡ H i j)
    → ((j : ℕ) → j < d → X j ≡ Y j) → (j : ℕ) → j < d → reach d m G X j ≡ reach d m H Y j
unfolding reach
reach_ext d m G H X Y e q j b = ⨁_ext m (λ i. weight_of d (G i) X ⊗ G i j) (λ i. weight_of d (H i) Y ⊗ H i j)
    (λ i l. rw (weight_ext d (G i) (H i) X Y (λ k h. e i k l h) q, e i j l b))
