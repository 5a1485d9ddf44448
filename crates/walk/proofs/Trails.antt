-- The path that the area shows is the rule's path.
use mathlib.Core.List.{List, [], ◌∷◌, ◌++◌, append_assoc, append-nil}
use mathlib.Core.Path.{◌≡◌, refl, sym, ap, ◌∙◌}
use Prim.Native.Nat.{ℕ, zero, suc, ◌-◌, ◌<◌}
use native.Mathlib.Omega.{arith}
use lib.IntN.{ℤ, pos, negsuc}
use lib.ListN.{length}
use Rattle.runs.specs.Rule.{State, state_at, edge_of, paths_on, path_of, last_path}
use Rattle.runs.proofs.Paths.{Linked, path_up, path_root}
use Rattle.area.specs.Area.{holding}
use Rattle.area.proofs.HoldingLaws.{AllWhole, holding_parent, holding_edge}
use Rattle.walk.specs.Walks.{word_at, climb, trail, path_in}

module _ (n : ℕ) (kept : List State) (linked : Linked kept) (whole : AllWhole n kept) (area : List ℤ) where
  abbrev shown : List ℤ
  shown = holding n kept area

  trail_is : (most i : ℕ) → i < most → i < length kept → (follow : List ℕ)
      → trail n shown most i follow ≡ path_of kept i ++ follow
  unfolding trail
  trail_is zero i h l follow = absurd (omega arith)
  trail_is (suc most) i h l follow = by (state_at kept i).parent refl
      (λ j m g. trail_is most j (omega arith) (omega arith) g)
    where
      by : (p : ℤ) → (state_at kept i).parent ≡ p
          → ((j : ℕ) → j < i → (g : List ℕ) → trail n shown most j g ≡ path_of kept j ++ g)
          → climb (word_at n shown i 1) (λ parent. trail n shown most parent (edge_of (word_at n shown i 2) ++ follow)) follow
          ≡ path_of kept i ++ follow
      by (pos j) e ih =
          let f = path_up kept linked i j l e in
          rw (holding_parent n kept whole area i l, e, holding_edge n kept whole area i l, f.is)
          (ih j f.earlier (f.edge ∷ follow)
          ∙ sym (ap (λ (p : List ℕ). p ++ follow) f.path ∙ append_assoc (path_of kept j) (f.edge ∷ []) follow))
      by (negsuc k) e ih = rw (holding_parent n kept whole area i l, e)
          (sym (ap (λ (p : List ℕ). p ++ follow) (path_root kept i k l e)))

-- read off by parents from the state kept last
pub path_shown : (n : ℕ) (kept : List State) → Linked kept → AllWhole n kept → (area : List ℤ)
    → path_in n (holding n kept area) (length kept) ≡ last_path kept
unfolding path_in last_path
path_shown n [] linked whole area = unfold trail path_of paths_on in refl
path_shown n (s ∷ kept) linked whole area =
    trail_is n (s ∷ kept) linked whole area (length (s ∷ kept)) (length (s ∷ kept) - 1) (omega arith) (omega arith) []
    ∙ append-nil (path_of (s ∷ kept) (length (s ∷ kept) - 1))
