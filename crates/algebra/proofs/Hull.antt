-- The hull of two sets: a set that holds both holds the set of both families together.
use mathlib.Core.Logic.{◌⊎◌, inl, inr}
use Prim.Native.Nat.{ℕ, suc}
use Rattle.numbers.specs.Places.{Vec}
use Rattle.algebra.proofs.Generation.{Span, span_trans}
use Rattle.algebra.proofs.Residuation.{rows}
use Rattle.algebra.proofs.Inclusion.{Kinds, HasPoint, Sub, inclusion}

-- two families together
abbrev pub join : {I K : Type 0} → (I → Vec) → (K → Vec) → I ⊎ K → Vec
join G H (inl i) = G i
join G H (inr k) = H k

-- a set that holds the sets of both holds the set of both together
pub join_least : {I K : Type 0} (n : ℕ) (G : I → Vec) (H : K → Vec) → Kinds n G → Kinds n H
    → HasPoint n G → HasPoint n H → (m : ℕ) (L : ℕ → Vec)
    → Sub n G (rows m L) → Sub n H (rows m L) → Sub n (join G H) (rows m L)
join_least {I} {K} n G H kg kh pg ph m L a b X (e, s) = (e, span_trans (suc n) (join G H) (rows m L) s each)
  where
    each : (i : I ⊎ K) → Span (suc n) (rows m L) (join G H i)
    each (inl i) = (inclusion n G m L kg pg).0 a i
    each (inr i) = (inclusion n H m L kh ph).0 b i
