-- `==` of bounds and of lists of bounds tells whether they are equal.
use mathlib.Core.Bool.{Bool, ◌&&◌}
use mathlib.Core.List.{List}
use mathlib.Core.Path.{◌≡◌, refl}
use Prim.Native.Nat.{ℕ}
use lib.Dec.{eqb}
use lib.Pointwise.{pointwise}
use denote.Enum.Bare.{sameb, same_true, true_same}
use Rattle.std.specs.Bool.{Decides}
use Rattle.std.specs.Ordering.{int_eq}
use Rattle.std.proofs.lemmas.Bool.Decides.{Decides-eqb, Decides-int_eq, Decides-and, Decides-like}
use Rattle.std.proofs.lemmas.Slice.Eq.{slice_eq-Decides}
use Rattle.bounds.specs.declared.Bound.{Bound}
use Rattle.bounds.specs.declared.Bounds.{Bounds}
use Rattle.bounds.specs.contracts.Kind.{the_type}
use Rattle.bounds.proofs.LimitLaws.{same_bound}

abbrev pub bound_eq : Bound → Bound → Bool
bound_eq a b =
    eqb a.x b.x
    && (eqb a.y b.y && (int_eq a.k b.k && (pointwise int_eq a.half b.half && sameb the_type a.kind b.kind)))

abbrev pub bounds_eq : Bounds → Bounds → Bool
bounds_eq a b = eqb a.count b.count && pointwise bound_eq a.items b.items

pub bound_exact : (a b : Bound) → Decides (bound_eq a b) (a ≡ b)
bound_exact a b =
    Decides-like _ (λ (x, (y, (k, (half, kind)))). same_bound kind x y k half)
    (λ e. (cc, (cc, (cc, (cc, cc)))))
    (Decides-and _ _ (Decides-eqb _ _)
    (Decides-and _ _ (Decides-eqb _ _)
    (Decides-and _ _ (Decides-int_eq _ _)
    (Decides-and _ _ (slice_eq-Decides Decides-int_eq _ _ _ refl)
    (same_true the_type tt _ _, true_same the_type _ _)))))

same_bounds : {c d : ℕ} {xs ys : List Bound} → c ≡ d → xs ≡ ys
    → ◌≡◌ {A = Bounds} (record { count = c; items = xs }) (record { count = d; items = ys })
same_bounds ec es = cc

pub bounds_exact : (a b : Bounds) → Decides (bounds_eq a b) (a ≡ b)
bounds_exact a b =
    Decides-like _ (λ (c, i). same_bounds c i)
    (λ e. (cc, cc))
    (Decides-and _ _ (Decides-eqb _ _) (slice_eq-Decides bound_exact _ _ _ refl))
