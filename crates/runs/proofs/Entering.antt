-- Entering a location and following an edge, as the rule does them: what they do to clock values.
use mathlib.Core.List.{List, [], ◌∷◌}
use mathlib.Core.Logic.{◌↔◌}
use mathlib.Core.Path.{◌≡◌, refl, sym, ◌∙◌, ap, subst, subst₂}
use Prim.Native.Nat.{ℕ, zero, suc, ◌+◌, ◌≤◌, ◌<◌}
use native.Mathlib.Omega.{arith}
use lib.IntN.{ℤ, pos}
use lib.ListN.{length, get_or, set, length-map, get_or-map}
use Rattle.numbers.specs.Numbers.{−∞, ◌▷◌, ◌⊗◌, ◌≼◌, nought}
use Rattle.numbers.specs.Places.{Vec, side_of}
use Rattle.numbers.proofs.NumberLaws.{⨁_ext}
use Rattle.algebra.specs.Vectors.{Vector, entry}
use Rattle.algebra.specs.Wanted.{left, right}
use Rattle.algebra.proofs.Entries.{Same, places}
use Rattle.algebra.proofs.HalfSpace.{Sat}
use Rattle.algebra.proofs.Delay.{later_last, later_clock}
use Rattle.algebra.proofs.Delay
use Rattle.algebra.proofs.Convexity.{convex}
use Rattle.algebra.proofs.Lists.{spot, spot_last, spot_clock}
use Rattle.algebra.proofs.Made.{satisfies_iff}
use Rattle.runs.specs.Models.{Bound, Edge, System, invariant, no_edge, edge}
use Rattle.runs.specs.ModelLimits.{All, Rising, BoundLimits, BoundsLimits, EdgeLimits, SystemLimits}
use Rattle.runs.specs.Runs.{Values, later, zeroed, Holds, Fits, Run, wait}
use Rattle.runs.specs.Table.{half_of}
use Rattle.runs.specs.Closure.{numbers, Has, Entered, Crossed}
use Rattle.runs.specs.Rule.{Step, made, stop, ◌then◌, cut, delayed, reset_to0, cut_all, reset_all, entering, following, enter, candidate}
use Rattle.runs.proofs.TableLaws.{table_means}
use Rattle.runs.proofs.ProperLists.{Proper}
use Rattle.runs.proofs.StepLaws.{later_numbers, cut_gives, delayed_gives, reset_gives}
use Rattle.runs.proofs.StepLaws.{cut_values, delayed_values, reset_values}

-- ---- bounds along a delay: what holds at both ends holds between, by the convexity of half-spaces
side_at_same : (d : ℕ) (a X Y : Vec) → Same d X Y → side_of d a X ≡ side_of d a Y
unfolding side_of
side_at_same d a X Y e = ⨁_ext d (λ j. a j ⊗ X j) (λ j. a j ⊗ Y j) (λ j l. ap (λ z. a j ⊗ z) (e j l))

spot_later : (n δ : ℕ) (v : Values)
    → Same (suc n) (spot n nought (numbers (later δ v))) (Delay.later n (pos δ) (spot n nought (numbers v)))
spot_later n δ v = places n (λ j. spot n nought (numbers (later δ v)) j ≡ Delay.later n (pos δ) X j)
    (spot_last n nought (numbers (later δ v)) ∙ sym (later_last n (pos δ) X ∙ spot_last n nought (numbers v))) clock
  where
    X : Vec
    X = spot n nought (numbers v)

    clock : (j : ℕ) → j < n → spot n nought (numbers (later δ v)) j ≡ Delay.later n (pos δ) X j
    clock j l = spot_clock n nought (numbers (later δ v)) j l
        ∙ (ap (λ x. entry x j) (sym (later_numbers δ v))
        ∙ (get_or-map (λ z. pos δ ▷ z) (numbers v) j −∞
        ∙ sym (later_clock n (pos δ) X j l ∙ ap (λ z. pos δ ▷ z) (spot_clock n nought (numbers v) j l))))

later_long : (t : ℕ) (v : Values) → length (later t v) ≡ length v
later_long t v = length-map v (λ k. t + k)

holds_between : (n : ℕ) (b : Bound) → BoundLimits n b → (v : Values) → length v ≡ n → (δ t : ℕ) → t ≤ δ
    → Holds b v → Holds b (later δ v) → Holds b (later t v)
holds_between n b h v e δ t l p q = (table_means n (later t v) (later_long t v ∙ e) b h).1
    ((satisfies_iff n L R (numbers (later t v))).1
    ((at t).1 (convex n (entry L) (entry R) X t δ l now ((at δ).0 afterwards))))
  where
    L : Vector
    L = left n (half_of n b)

    R : Vector
    R = right n (half_of n b)

    X : Vec
    X = spot n nought (numbers v)

    at : (τ : ℕ) → Sat (suc n) (entry L) (entry R) (spot n nought (numbers (later τ v)))
        ↔ Sat (suc n) (entry L) (entry R) (Delay.later n (pos τ) X)
    at τ =
        let a = side_at_same (suc n) (entry L) _ _ (spot_later n τ v) in
        let c = side_at_same (suc n) (entry R) _ _ (spot_later n τ v) in
        (λ h. subst₂ (λ x y. x ≼ y) a c h, λ h. subst₂ (λ x y. x ≼ y) (sym a) (sym c) h)

    now : Sat (suc n) (entry L) (entry R) X
    now = (satisfies_iff n L R (numbers v)).0 ((table_means n v e b h).0 p)

    afterwards : Sat (suc n) (entry L) (entry R) (spot n nought (numbers (later δ v)))
    afterwards = (satisfies_iff n L R (numbers (later δ v))).0 ((table_means n (later δ v) (later_long δ v ∙ e) b h).0 q)

-- a list of bounds that holds at both ends of a delay holds at every tick between
pub all_between : (n : ℕ) (bs : List Bound) → All (BoundLimits n) bs → (v : Values) → length v ≡ n → (δ t : ℕ) → t ≤ δ
    → Fits bs v → Fits bs (later δ v) → Fits bs (later t v)
all_between n [] h v e δ t l p q = tt
all_between n (b ∷ bs) h v e δ t l p q =
    (holds_between n b h.0 v e δ t l p.0 q.0, all_between n bs h.1 v e δ t l p.1 q.1)

-- ---- steps one behind the other
then_made : (x : Step) (f : List ℤ → Step) (t : List ℤ) → x then f ≡ made t
    → (u : List ℤ) × (x ≡ made u) × (f u ≡ made t)
then_made (made u) f t e = (u, refl, e)
then_made (stop r) f t e = absurd (let z : ◌≡◌ {A = ℕ} 0 1 = cc in omega arith)

made_inj : {s t : List ℤ} → made s ≡ made t → s ≡ t
made_inj e = cc

-- a list that was made is proper, and has exactly the values that satisfy P
pub record Yields (n : ℕ) (t : List ℤ) (P : Values → Type 0) : Type 0 where
  pub proper : Proper n t
  pub exact : (v : Values) → Has n t v ↔ P v

module _ (n : ℕ) where
  -- a list of bounds leaves the values that they all hold at
  pub cuts_yield : (bs : List Bound) → All (BoundLimits n) bs → (l t : List ℤ) → Proper n l → cut_all n bs l ≡ made t
      → Yields n t (λ v. Has n l v × Fits bs v)
  unfolding cut_all
  cuts_yield [] h l t p e =
      let q : l ≡ t = made_inj e in
      record {
        proper = subst (Proper n) q p;
        exact = λ v. (λ s. (subst (λ l. Has n l v) (sym q) s, tt), λ s. subst (λ l. Has n l v) q s.0);
      }
  cuts_yield (b ∷ bs) h l t p e =
      let (u, f, g) = then_made (cut n (half_of n b) l) (cut_all n bs) t e in
      let r = cuts_yield bs h.1 u t (cut_gives n l p (half_of n b) u f).proper g in
      let m = cut_values n l p b h.0 u f in
      record {
        proper = r.proper;
        exact = λ v. (
          λ s. let (a, c) = (r.exact v).0 s in (((m v).0 a).0, (((m v).0 a).1, c)),
          λ s. (r.exact v).1 ((m v).1 (s.0, s.1.0), s.1.1),
        );
      }

  resets_yield : (low : ℕ) (is : List ℕ) → Rising low n is → (l t : List ℤ) → Proper n l → reset_all n is l ≡ made t
      → Yields n t (λ v. (u : Values) × Has n l u × (v ≡ zeroed is u))
  unfolding reset_all
  resets_yield low [] h l t p e =
      let q : l ≡ t = made_inj e in
      record {
        proper = subst (Proper n) q p;
        exact = λ v. (
          λ s. (v, subst (λ l. Has n l v) (sym q) s, refl),
          λ s. subst (λ l. Has n l v) q (subst (λ u. Has n l u) (sym s.2) s.1),
        );
      }
  resets_yield low (i ∷ is) h l t p e =
      let (w, f, g) = then_made (reset_to0 n i l) (reset_all n is) t e in
      let r = resets_yield (suc i) is h.2 w t (reset_gives n l p i h.1 w f).proper g in
      let m = reset_values n l p i h.1 w f in
      record {
        proper = r.proper;
        exact = λ v. (
          λ s. let (u, a, c) = (r.exact v).0 s in let (x, b, d) = (m u).0 a in (x, b, c ∙ ap (zeroed is) d),
          λ s. (r.exact v).1 (set s.0 i 0, (m (set s.0 i 0)).1 (s.0, s.1, refl), s.2),
        );
      }

  -- what entering makes of a proper list is proper, and so is a candidate
  pub entering_proper : (inv : List Bound) → All (BoundLimits n) inv → (l t : List ℤ) → Proper n l
      → entering n inv l ≡ made t → Proper n t
  unfolding entering
  entering_proper inv h l t p e =
      let (y, f, g) = then_made (cut_all n inv l then delayed n) (cut_all n inv) t e in
      let (x, a, b) = then_made (cut_all n inv l) (delayed n) y f in
      (cuts_yield inv h y t (delayed_gives n x (cuts_yield inv h l x p a).proper y b).proper g).proper

  -- following an edge makes a proper list
  pub following_proper : (e : Edge) → All (BoundLimits n) e.guard → Rising 0 n e.resets → (inv : List Bound)
      → All (BoundLimits n) inv → (l t : List ℤ) → Proper n l → following n e inv l ≡ made t → Proper n t
  unfolding following
  following_proper e g r inv h l t p q =
      let (y, f, c) = then_made (cut_all n e.guard l then reset_all n e.resets) (entering n inv) t q in
      let (x, a, b) = then_made (cut_all n e.guard l) (reset_all n e.resets) y f in
      let one = (cuts_yield e.guard g l x p a).proper in
      entering_proper inv h y t (resets_yield 0 e.resets r x y one b).proper c

-- ---- the limits of what a system has
all_at : {A : Type 0} (P : A → Type 0) (l : List A) (d : A) → All P l → P d → (i : ℕ) → P (get_or l i d)
all_at P [] d h p i = p
all_at P (x ∷ l) d h p zero = h.0
all_at P (x ∷ l) d h p (suc i) = all_at P l d h.1 p i

module _ (S : System) (limits : SystemLimits S) where
  abbrev n : ℕ
  n = S.clocks

  -- an invariant's bounds are in limits
  pub invariant_limits : (q : ℕ) → All (BoundLimits n) (invariant S q)
  invariant_limits q =
      (all_at (BoundsLimits n) S.invariants [] limits.invariants (record { few = omega arith; each = tt }) q).each

  -- an edge is in limits
  pub edge_limits : (e : ℕ) → EdgeLimits n (length S.invariants) (edge S e)
  edge_limits e = all_at (EdgeLimits n (length S.invariants)) S.edges no_edge limits.edges (record {
    source = limits.some_location;
    destination = limits.some_location;
    guard = record { few = omega arith; each = tt };
    resets = tt;
  }) e

  -- entering, as the rule does it
  pub enter_yields : (q : ℕ) (l t : List ℤ) → Proper n l → enter S q l ≡ made t → Yields n t (Entered S q (Has n l))
  unfolding entering
  enter_yields q l t p e =
      let (y, f, g) = then_made (cut_all n (invariant S q) l then delayed n) (cut_all n (invariant S q)) t e in
      let (x, a, b) = then_made (cut_all n (invariant S q) l) (delayed n) y f in
      let one = cuts_yield n (invariant S q) (invariant_limits q) l x p a in
      let two = cuts_yield n (invariant S q) (invariant_limits q) y t (delayed_gives n x one.proper y b).proper g in
      let m = delayed_values n x one.proper y b in
      record {
        proper = two.proper;
        exact = λ v. (
          λ s. let (c, k) = (two.exact v).0 s in let (δ, u, d, is) = (m v).0 c in let (i, j) = (one.exact u).0 d in
              record { u = u; δ = δ; from = i; before = j; is = is; after = k },
          λ s. (two.exact v).1 ((m v).1 (s.δ, s.u, (one.exact s.u).1 (s.from, s.before), s.is), s.after),
        );
      }

  entered_map : (q : ℕ) (A B : Values → Type 0) → ((u : Values) → A u → B u) → (v : Values) → Entered S q A v
      → Entered S q B v
  entered_map q A B f v h =
      record { u = h.u; δ = h.δ; from = f h.u h.from; before = h.before; is = h.is; after = h.after }

  -- a candidate, as the rule forms it
  pub candidate_yields : (e : ℕ) (l t : List ℤ) → Proper n l → candidate S (edge S e) l ≡ made t
      → Yields n t (Entered S (edge S e).destination (Crossed S (edge S e) (Has n l)))
  unfolding following
  candidate_yields e l t p c =
      let E = edge S e in
      let q = E.destination in
      let (y, f, g) = then_made (cut_all n E.guard l then reset_all n E.resets) (entering n (invariant S q)) t c in
      let (x, a, b) = then_made (cut_all n E.guard l) (reset_all n E.resets) y f in
      let one = cuts_yield n E.guard (edge_limits e).guard.each l x p a in
      let two = resets_yield n 0 E.resets (edge_limits e).resets x y one.proper b in
      let three = enter_yields q y t two.proper g in
      let to : (u : Values) → Has n y u → Crossed S E (Has n l) u
      = λ u h. let (w, d, is) = (two.exact u).0 h in let (i, j) = (one.exact w).0 d in
      record { u = w; from = i; opens = j; is = is } in
      let back : (u : Values) → Crossed S E (Has n l) u → Has n y u
      = λ u h. (two.exact u).1 (h.u, (one.exact h.u).1 (h.from, h.opens), h.is) in
      record {
        proper = three.proper;
        exact = λ v. (
          λ h. entered_map q (Has n y) (Crossed S E (Has n l)) to v ((three.exact v).0 h),
          λ h. (three.exact v).1 (entered_map q (Crossed S E (Has n l)) (Has n y) back v h),
        );
      }

  -- the values entered are those of a run, if the values before the delay are
  pub enter_run : (q : ℕ) (es : List ℕ) (A : Values → Type 0) → ((u : Values) → A u → length u ≡ n)
      → ((u : Values) → A u → Fits (invariant S q) u → Run S es q u) → (v : Values) → Entered S q A v → Run S es q v
  enter_run q es A long f v h = subst (λ v. Run S es q v) (sym h.is) (wait h.δ (f h.u h.from h.before)
      (λ t l. all_between n (invariant S q) (invariant_limits q) h.u (long h.u h.from) h.δ t l h.before
      (subst (λ v. Fits (invariant S q) v) h.is h.after)))
