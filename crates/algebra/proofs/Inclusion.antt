-- Inclusion of the sets of two families: a set that has a point lies in another exactly if the other family generates
-- each of its points and rays. A family without points has the empty set.
use mathlib.Core.Path.{◌≡◌}
use mathlib.Core.Logic.{◌⊎◌, inl, inr, ◌↔◌}
use Prim.Native.Nat.{ℕ, suc}
use native.Mathlib.Omega.{arith}
use Rattle.numbers.specs.Numbers.{−∞, IsFin, nought}
use Rattle.numbers.specs.Places.{Vec}
use Rattle.algebra.proofs.Generation.{Span, meets_fin, span_self, span_trans}
use Rattle.algebra.proofs.Residuation.{rows}
use Rattle.algebra.proofs.Rays.{Member, ray_in}

-- each vector of the family is a point or a ray
abbrev pub Kinds : {I : Type 0} → ℕ → (I → Vec) → Type 0
Kinds {I} n G = (i : I) → (G i n ≡ nought) ⊎ (G i n ≡ −∞)

-- the family has a point
abbrev pub HasPoint : {I : Type 0} → ℕ → (I → Vec) → Type 0
HasPoint {I} n G = (i : I) × (G i n ≡ nought)

-- the set of G lies in the set of H
abbrev pub Sub : {I K : Type 0} → ℕ → (I → Vec) → (K → Vec) → Type 0
Sub n G H = (X : Vec) → Member n G X → Member n H X

-- a set that has a point lies in the set of H exactly if H generates each of its generators
pub inclusion : {I : Type 0} (n : ℕ) (G : I → Vec) (m : ℕ) (H : ℕ → Vec) → Kinds n G → HasPoint n G
    → Sub n G (rows m H) ↔ ((i : I) → Span (suc n) (rows m H) (G i))
inclusion {I} n G m H kind (v, hv) = (λ sub i. each sub i (kind i), back)
  where
    each : Sub n G (rows m H) → (i : I) → (G i n ≡ nought) ⊎ (G i n ≡ −∞) → Span (suc n) (rows m H) (G i)
    each sub i (inl e) = (sub (G i) (e, span_self (suc n) G i)).1
    each sub i (inr e) = ray_in n G m H sub v i hv e

    back : ((i : I) → Span (suc n) (rows m H) (G i)) → Sub n G (rows m H)
    back h X r = (r.0, span_trans (suc n) G (rows m H) r.1 h)

-- a family without points has the empty set
pub empty : {I : Type 0} (n : ℕ) (G : I → Vec) → ((i : I) → G i n ≡ −∞) → (X : Vec) → ¬ Member n G X
empty n G h X (e, s) =
    let f : IsFin (X n) = rw e tt in
    let (i, p) = s.at n (omega arith) f in
    rw (h i) at (meets_fin p f)
