-- `==` of edges tells whether they are equal.
use mathlib.Core.Bool.{◌&&◌}
use mathlib.Core.Path.{◌≡◌}
use Prim.Native.Nat.{ℕ}
use lib.Dec.{eqb}
use Rattle.std.specs.Bool.{Decides}
use Rattle.std.proofs.lemmas.Bool.Decides.{Decides-eqb, Decides-and, Decides-like}
use Rattle.bounds.specs.declared.Bounds.{Bounds}
use Rattle.bounds.proofs.EqualLaws.{bounds_eq, bounds_exact}
use Rattle.model.specs.declared.Edge.{Edge}

same_edge : {s t d e r q : ℕ} {g h : Bounds} → s ≡ t → d ≡ e → g ≡ h → r ≡ q
    → ◌≡◌ {A = Edge} (record { source = s; destination = d; guard = g; resets = r })
    (record { source = t; destination = e; guard = h; resets = q })
same_edge es ed eg er = cc

pub edge_exact : (a b : Edge) → Decides
    (eqb a.source b.source && (eqb a.destination b.destination && (bounds_eq a.guard b.guard && eqb a.resets b.resets)))
    (a ≡ b)
edge_exact a b =
    Decides-like _ (λ (s, (d, (g, r))). same_edge s d g r)
    (λ e. (cc, (cc, (cc, cc))))
    (Decides-and _ _ (Decides-eqb _ _)
    (Decides-and _ _ (Decides-eqb _ _) (Decides-and _ _ (bounds_exact _ _) (Decides-eqb _ _))))
