-- The members of a list of vectors.
use mathlib.Core.Bool.{Bool, true, false}
use mathlib.Core.List.{List, [], ◌∷◌, ◌++◌}
use mathlib.Core.Logic.{◌⊎◌, inl, inr, ◌↔◌}
use mathlib.Core.Path.{◌≡◌, refl, sym}
use Prim.Native.Nat.{ℕ, zero, suc, ◌<◌}
use native.Mathlib.Omega.{arith}
use lib.ListN.{length, get_or}
use Rattle.numbers.proofs.Tells.{clash}
use Rattle.algebra.specs.Vectors.{Vector, vector}
use Rattle.algebra.specs.Working.{each}
use Rattle.making.specs.Clean.{kept}

-- v is one of the vectors of L
pub record Has (L : List Vector) (v : Vector) : Type 0 where
  pub place : ℕ
  pub inside : place < length L
  pub is : vector L place ≡ v

-- the empty list has no place
pub no_place : {i : ℕ} → ¬ (i < 0)
no_place l = omega arith

-- no vector is in the empty list
pub has_none : {v : Vector} → ¬ Has [] v
has_none h = no_place h.inside

-- a vector of a list is the first or one of the rest
pub has_cons : {w v : Vector} {L : List Vector} → Has (w ∷ L) v → (w ≡ v) ⊎ Has L v
has_cons {w} {v} {L} h = go h.place h.inside h.is
  where
    go : (i : ℕ) → i < length (w ∷ L) → vector (w ∷ L) i ≡ v → (w ≡ v) ⊎ Has L v
    go zero l e = inl e
    go (suc i) l e = inr (record { place = i; inside = omega arith; is = e })

-- the first vector is in the list
pub has_head : {w v : Vector} {L : List Vector} → w ≡ v → Has (w ∷ L) v
has_head e = record { place = 0; inside = omega arith; is = e }

-- so is each vector of the rest
pub has_tail : {w v : Vector} {L : List Vector} → Has L v → Has (w ∷ L) v
has_tail h = record { place = suc h.place; inside = let l = h.inside in omega arith; is = h.is }

-- each vector of a list is in it
pub has_at : (L : List Vector) (i : ℕ) → i < length L → Has L (vector L i)
has_at L i l = record { place = i; inside = l; is = refl }

-- ---- two lists, and what f makes of each vector
-- a vector of two lists together is in one of them
pub has_append : {v : Vector} (A B : List Vector) → Has (A ++ B) v → Has A v ⊎ Has B v
has_append [] B h = inr h
has_append {v} (w ∷ A) B h = go (has_append A B) (has_cons h)
  where
    rest : Has A v ⊎ Has B v → Has (w ∷ A) v ⊎ Has B v
    rest (inl a) = inl (has_tail a)
    rest (inr b) = inr b

    go : (Has (A ++ B) v → Has A v ⊎ Has B v) → (w ≡ v) ⊎ Has (A ++ B) v → Has (w ∷ A) v ⊎ Has B v
    go f (inl e) = inl (has_head e)
    go f (inr r) = rest (f r)

-- a vector of the first list is in both together
pub has_left : {v : Vector} (A B : List Vector) → Has A v → Has (A ++ B) v
has_left [] B h = absurd (has_none h)
has_left {v} (w ∷ A) B h = go (has_left A B) (has_cons h)
  where
    go : (Has A v → Has (A ++ B) v) → (w ≡ v) ⊎ Has A v → Has (w ∷ (A ++ B)) v
    go f (inl e) = has_head e
    go f (inr r) = has_tail (f r)

-- so is a vector of the second
pub has_right : {v : Vector} (A B : List Vector) → Has B v → Has (A ++ B) v
has_right [] B h = h
has_right (w ∷ A) B h = has_tail (has_right A B h)

-- v is among what f makes of a vector of L
pub record MadeOf (f : Vector → List Vector) (L : List Vector) (v : Vector) : Type 0 where
  pub place : ℕ
  pub inside : place < length L
  pub among : Has (f (vector L place)) v

-- the vectors that f makes of each vector of a list
pub has_each : (f : Vector → List Vector) (L : List Vector) (v : Vector) → Has (each f L) v ↔ MadeOf f L v
unfolding each
has_each f [] v = (λ h. absurd (has_none h), λ m. absurd (no_place m.inside))
has_each f (w ∷ L) v = (
  λ h. to (has_each f L v).0 (has_append (f w) (each f L) h),
  λ m. from (has_each f L v).1 m.place m.inside m.among,
)
  where
    to : (Has (each f L) v → MadeOf f L v) → Has (f w) v ⊎ Has (each f L) v → MadeOf f (w ∷ L) v
    to r (inl h) = record { place = 0; inside = omega arith; among = h }
    to r (inr h) =
        let m = r h in
        record { place = suc m.place; inside = let l = m.inside in omega arith; among = m.among }

    from : (MadeOf f L v → Has (each f L) v) → (i : ℕ) → i < length (w ∷ L) → Has (f (vector (w ∷ L) i)) v
        → Has (f w ++ each f L) v
    from r zero l h = has_left (f w) (each f L) h
    from r (suc i) l h = has_right (f w) (each f L) (r (record { place = i; inside = omega arith; among = h }))

-- ---- the vectors whose flag is on
-- v is a vector of L whose flag is on
pub record Kept (flags : List Bool) (L : List Vector) (v : Vector) : Type 0 where
  pub place : ℕ
  pub inside : place < length L
  pub flag : get_or flags place false ≡ true
  pub is : vector L place ≡ v

kept_tail : {b : Bool} {flags : List Bool} {w v : Vector} {L : List Vector} → Kept flags L v
    → Kept (b ∷ flags) (w ∷ L) v
kept_tail k = record { place = suc k.place; inside = let l = k.inside in omega arith; flag = k.flag; is = k.is }

kept_cons : {b : Bool} {flags : List Bool} {w v : Vector} {L : List Vector} → Kept (b ∷ flags) (w ∷ L) v
    → ((b ≡ true) × (w ≡ v)) ⊎ Kept flags L v
kept_cons {b} {flags} {w} {v} {L} k = go k.place k.inside k.flag k.is
  where
    go : (i : ℕ) → i < length (w ∷ L) → get_or (b ∷ flags) i false ≡ true → vector (w ∷ L) i ≡ v
        → ((b ≡ true) × (w ≡ v)) ⊎ Kept flags L v
    go zero l f e = inl (f, e)
    go (suc i) l f e = inr (record { place = i; inside = omega arith; flag = f; is = e })

-- the members of the kept list are exactly the vectors whose flag is on
pub has_kept : (flags : List Bool) (L : List Vector) (v : Vector) → Has (kept flags L) v ↔ Kept flags L v
unfolding kept
has_kept [] L v = (λ h. absurd (has_none h), λ k. absurd (clash (sym k.flag)))
has_kept (b ∷ flags) [] v = (λ h. absurd (has_none h), λ k. absurd (no_place k.inside))
has_kept (true ∷ flags) (w ∷ L) v =
    (λ h. to (has_kept flags L v).0 (has_cons h), λ k. from (has_kept flags L v).1 (kept_cons k))
  where
    to : (Has (kept flags L) v → Kept flags L v) → (w ≡ v) ⊎ Has (kept flags L) v → Kept (true ∷ flags) (w ∷ L) v
    to r (inl e) = record { place = 0; inside = omega arith; flag = refl; is = e }
    to r (inr h) = kept_tail (r h)

    from : (Kept flags L v → Has (kept flags L) v) → ((true ≡ true) × (w ≡ v)) ⊎ Kept flags L v
        → Has (w ∷ kept flags L) v
    from r (inl e) = has_head e.1
    from r (inr k) = has_tail (r k)
has_kept (false ∷ flags) (w ∷ L) v =
    (λ h. kept_tail ((has_kept flags L v).0 h), λ k. from (has_kept flags L v).1 (kept_cons k))
  where
    from : (Kept flags L v → Has (kept flags L) v) → ((false ≡ true) × (w ≡ v)) ⊎ Kept flags L v → Has (kept flags L) v
    from r (inl e) = absurd (clash (sym e.0))
    from r (inr k) = r k
