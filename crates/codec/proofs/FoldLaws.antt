-- Laws of folding and unfolding.
use Prim.Native.Nat.{ℕ, ◌+◌, ◌*◌, ◌%◌}
use native.Mathlib.Omega.{arith}
use mathlib.Core.Path.{◌≡◌, ap}
use lib.IntN.{ℤ, pos, negsuc}
use borrow.Author.Tests.{eq-eqb, ne_eqb}
use native.Mathlib.Decide.{ℕ_discrete}
use Rattle.codec.specs.Number.{folded, unfolded}

-- the fold's round trip, both ways
pub fold_unfold : (k : ℤ) → unfolded (folded k) ≡ k
fold_unfold (pos n) = rw (eq-eqb (n * 2 % 2) 0 (omega arith)) (ap pos (omega arith))
fold_unfold (negsuc n) = rw (ne_eqb ((n * 2 + 1) % 2) 0 (λ e. omega arith)) (ap negsuc (omega arith))

pub unfold_fold : (v : ℕ) → folded (unfolded v) ≡ v
unfold_fold v = by_dec (ℕ_discrete (v % 2) 0) where
  by_dec : Dec (v % 2 ≡ 0) → folded (unfolded v) ≡ v
  by_dec (yes e) = rw (eq-eqb (v % 2) 0 e) (omega arith)
  by_dec (no n) = rw (ne_eqb (v % 2) 0 n) (omega arith)
