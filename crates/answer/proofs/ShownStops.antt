-- The stops that records show: of any area, and of one that holds the states of a walk.
use mathlib.Core.List.{List, [], ◌∷◌, map-append}
use mathlib.Core.Path.{◌≡◌, refl, sym, ap, ◌∙◌, subst}
use Prim.Native.Nat.{ℕ, zero, suc, ◌≤◌, ◌<◌}
use native.Mathlib.Omega.{arith}
use lib.IntN.{ℤ, pos, negsuc}
use lib.ListN.{length, length-append}
use Rattle.codec.specs.Arrays.{All}
use Rattle.codec.proofs.PackedLaws.{all_behind}
use Rattle.runs.specs.Models.{System}
use Rattle.runs.specs.ModelLimits.{SystemLimits}
use Rattle.runs.specs.Rule.{State, state_at, path_of}
use Rattle.runs.proofs.Entering.{edge_limits}
use Rattle.runs.proofs.Located.{Leads, Located}
use Rattle.runs.proofs.Paths.{Linked, path_up, path_root}
use Rattle.area.specs.Area.{holding}
use Rattle.area.proofs.HoldingLaws.{AllWhole, holding_inside, holding_parent, holding_edge, holding_location}
use Rattle.printing.specs.Text.{Stop, StopLimits}
use Rattle.answer.specs.Printed.{stop_at, stops_of}
use Rattle.answer.specs.Shown.{StopIn, Shows, root, next}

-- no more stops than records before
pub shows_few : {n : ℕ} {area : List ℤ} {i : ℕ} {stops : List Stop} → Shows n area i stops → length stops ≤ i
shows_few (root h e) = omega arith
shows_few (next {stops = stops} {s = s} h t u) = omega (arith, shows_few u, t.earlier, length-append stops (s ∷ []))

-- stops that records show are in limits
pub shows_limits : {n : ℕ} {area : List ℤ} {i : ℕ} {stops : List Stop} → Shows n area i stops → All StopLimits stops
shows_limits (root h e) = tt
shows_limits (next {stops = stops} {s = s} h t u) = all_behind StopLimits stops (shows_limits u) t.limits

module _ (S : System) (limits : SystemLimits S) (n : ℕ) (kept : List State) (linked : Linked kept)
    (located : Located S kept) (whole : AllWhole n kept) (area : List ℤ) where
  abbrev held : List ℤ
  held = holding n kept area

  stop_in : (i j e : ℕ) → i < length kept → (state_at kept i).parent ≡ pos j → j < i → (state_at kept i).edge ≡ pos e
      → StopIn n held i j (stop_at S e)
  stop_in i j e l p m q =
      let leads : Leads S (pos e) (state_at kept i).location
      = subst (λ (z : ℤ). Leads S z (state_at kept i).location) q (located i l) in
      record {
        parent = holding_parent n kept whole area i l ∙ p;
        earlier = m;
        edge = holding_edge n kept whole area i l ∙ q;
        location = holding_location n kept whole area i l ∙ ap pos leads.1;
        limits = record {
          edge = omega (arith, leads.0, limits.few_edges);
          location = omega (arith, (edge_limits S limits e).destination, limits.few_locations);
        };
      }

  -- the records of a walk show the stops of the paths
  pub shows_path : (bound i : ℕ) → i < bound → i < length kept → Shows n held i (stops_of S (path_of kept i))
  shows_path zero i b l = absurd (omega arith)
  shows_path (suc bound) i b l = by (state_at kept i).parent refl
      (λ j m. shows_path bound j (omega arith) (omega arith))
    where
      by : (p : ℤ) → (state_at kept i).parent ≡ p → ((j : ℕ) → j < i → Shows n held j (stops_of S (path_of kept j)))
          → Shows n held i (stops_of S (path_of kept i))
      by (pos j) e up =
          let f = path_up kept linked i j l e in
          subst (Shows n held i) (sym (ap (stops_of S) f.path ∙ map-append (stop_at S) (path_of kept j) (f.edge ∷ [])))
          (next (holding_inside n kept whole area i l) (stop_in i j f.edge l e f.earlier f.is) (up j f.earlier))
      by (negsuc k) e up =
          subst (λ (path : List ℕ). Shows n held i (stops_of S path)) (sym (path_root kept i k l e))
          (root (holding_inside n kept whole area i l) (holding_parent n kept whole area i l ∙ e))
