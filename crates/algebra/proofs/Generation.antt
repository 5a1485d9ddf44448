-- What a family of vectors generates, said by place: at each finite place of X one vector of the family, shifted,
-- lies below X and meets it there. Only the places below d count, and any type may index the family.
use mathlib.Core.Path.{◌≡◌, refl, sym}
use mathlib.Core.Logic.{◌≢◌, ◌⊎◌, inl, inr}
use Prim.Native.Nat.{ℕ, ◌<◌}
use lib.IntN.{ℤ, pos, ◌+ℤ◌}
use Rattle.numbers.specs.Numbers.{Num, −∞, fin, IsFin, ◌≼◌, ◌▷◌, ◌⊗◌, ◌⊕◌}
use Rattle.numbers.specs.Places.{Vec}
use Rattle.numbers.proofs.NumberLaws.{≼_refl, ≼_trans, ≼_of_eq, fin_up, ▷_mono, ▷_assoc, ▷_zero, ▷_fin}
use Rattle.numbers.proofs.NumberLaws.{⊗_fin_l, ⊕_l, ⊕_r, ⊕_or}
use Rattle.algebra.proofs.Entries.{Same}

-- g, shifted, lies below X and meets it at j
pub record Meets (d j : ℕ) (g X : Vec) : Type 0 where
  pub by : ℤ
  pub below : (k : ℕ) → k < d → by ▷ g k ≼ X k
  pub meets : X j ≼ by ▷ g j

-- the family G generates X
pub record Span {I : Type 0} (d : ℕ) (G : I → Vec) (X : Vec) : Type 0 where
  pub at : (j : ℕ) → j < d → IsFin (X j) → (i : I) × Meets d j (G i) X

-- a vector meets itself everywhere
pub meets_refl : (d j : ℕ) (g : Vec) → Meets d j g g
meets_refl d j g = record {
  by = pos 0;
  below = λ k h. ≼_of_eq (▷_zero (g k));
  meets = ≼_of_eq (sym (▷_zero (g j)));
}

-- what meets a vector that meets X at j meets X at j
pub meets_trans : {d j : ℕ} {h g X : Vec} → Meets d j h g → Meets d j g X → Meets d j h X
meets_trans {h} p q = record {
  by = q.by +ℤ p.by;
  below = λ k l. rw ▷_assoc (≼_trans (▷_mono q.by (p.below k l)) (q.below k l));
  meets = rw ▷_assoc (≼_trans q.meets (▷_mono q.by p.meets));
}

-- what meets X at a finite place is finite there
pub meets_fin : {d j : ℕ} {g X : Vec} → Meets d j g X → IsFin (X j) → IsFin (g j)
meets_fin {j} {g} p f = ▷_fin p.by (g j) (fin_up f p.meets)

module _ {I : Type 0} (d : ℕ) (G : I → Vec) where
  -- a family generates its own vectors
  pub span_self : (i : I) → Span d G (G i)
  span_self i = record { at = λ j l f. (i, meets_refl d j (G i)) }

  -- only the places below d count
  pub span_same : {X Y : Vec} → Same d Y X → Span d G X → Span d G Y
  span_same {X} {Y} e s = record { at = λ j l f. one j l (s.at j l (rw (e j l) at f)) }
    where
      one : (j : ℕ) → j < d → (i : I) × Meets d j (G i) X → (i : I) × Meets d j (G i) Y
      one j l (i, p) = (
        i,
        record { by = p.by; below = λ k m. rw (e k m) (p.below k m); meets = rw (e j l) p.meets },
      )

  -- what generated vectors generate is generated
  pub span_trans : {K : Type 0} (H : K → Vec) {X : Vec} → Span d G X → ((i : I) → Span d H (G i)) → Span d H X
  span_trans {K} H {X} s t = record { at = λ j l f. one j l f (s.at j l f) }
    where
      one : (j : ℕ) → j < d → IsFin (X j) → (i : I) × Meets d j (G i) X → (k : K) × Meets d j (H k) X
      one j l f (i, q) = let (k, p) = (t i).at j l (meets_fin q f) in (k, meets_trans p q)

  -- the larger of two vectors of the family, each weighted, is generated
  pub span_pair : (A B : Num) (i k : I) → Span d G (λ j. (A ⊗ G i j) ⊕ (B ⊗ G k j))
  span_pair A B i k = record { at = λ j l f. one j f (⊕_or (A ⊗ G i j) (B ⊗ G k j)) }
    where
      Y : Vec
      Y = λ j. (A ⊗ G i j) ⊕ (B ⊗ G k j)

      left : (a : Num) (j : ℕ) → a ≡ A → IsFin a → Y j ≡ A ⊗ G i j → Meets d j (G i) Y
      left −∞ j q f e = absurd f
      left (fin c) j q f e = record {
        by = c;
        below = λ m l. rw (← q) (⊕_l (c ▷ G i m) (B ⊗ G k m));
        meets = rw (e, ← q) (≼_refl (c ▷ G i j));
      }

      right : (b : Num) (j : ℕ) → b ≡ B → IsFin b → Y j ≡ B ⊗ G k j → Meets d j (G k) Y
      right −∞ j q f e = absurd f
      right (fin c) j q f e = record {
        by = c;
        below = λ m l. rw (← q) (⊕_r (A ⊗ G i m) (c ▷ G k m));
        meets = rw (e, ← q) (≼_refl (c ▷ G k j));
      }

      one : (j : ℕ) → IsFin (Y j) → (Y j ≡ A ⊗ G i j) ⊎ (Y j ≡ B ⊗ G k j) → (i : I) × Meets d j (G i) Y
      one j f (inl e) = (i, left A j refl (⊗_fin_l A (G i j) (rw e at f)) e)
      one j f (inr e) = (k, right B j refl (⊗_fin_l B (G k j) (rw e at f)) e)

  -- the family without vector o
  abbrev pub others : (o : I) → ((i : I) × (i ≢ o)) → Vec
  others o i = G i.0
