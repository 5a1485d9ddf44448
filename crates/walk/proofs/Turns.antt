-- Loops of the walk: what is left of the rule from here on is the whole.
use Rattle.std.proofs.Common.{Err, Ok}
use mathlib.Core.List.{List}
use mathlib.Core.Logic.{◌⊎◌, inl, inr}
use mathlib.Core.Path.{◌≡◌, refl, sym, ap, ◌∙◌, subst}
use Prim.Native.Nat.{ℕ, suc, ◌+◌, ◌-◌, ◌*◌, ◌≤◌, ◌<◌}
use native.Mathlib.Nat.{mul-le-mul_right}
use native.Mathlib.Numerals.{add-one}
use native.Mathlib.Omega.{arith}
use lib.IntN.{ℤ}
use lib.ListN.{length, drop}
use lib.Seq.{drop-drop}
use Rattle.std.specs.Result.{IsErrAnd}
use Rattle.std.proofs.lemmas.Result.{err_from_is_err_and}
use Rattle.numbers.specs.declared.Refusal.{Refusal}
use Rattle.runs.specs.Rule.{Walk, Outcome, going, onward, in_turn}
use Rattle.area.specs.Area.{record_size}
use Rattle.area.specs.Records.{Recorded}
use Rattle.walk.specs.declared.Tally.{Tally}
use Rattle.walk.specs.Control.{Answered}
use Rattle.walk.specs.declared.Moved.{Moved}
use Rattle.walk.specs.declared.Moved.TheVariants.{Going, Met}
use Rattle.walk.specs.Control.{walk_in, outcome_in, Ready, Grows, GrowsBy, Does}

-- ---- one part behind another
-- what is as before behind some words is so behind more
pub drop_more : (a b : ℕ) (l m : List ℤ) → a ≤ b → drop a l ≡ drop a m → drop b l ≡ drop b m
drop_more a b l m h e =
    let q : a + (b - a) ≡ b = omega arith in
    ap (λ (k : ℕ). drop k l) (sym q) ∙ (sym (drop-drop (b - a) a l) ∙ (ap (drop (b - a)) e
    ∙ (drop-drop (b - a) a m ∙ ap (λ (k : ℕ). drop k m) q)))

module _ {n room k t t' : ℕ} {first middle last : List ℤ} {y : Tally} (g : Grows n room k t first y middle) where
  -- what has grown from there has grown from the start
  pub grows_on : {z : Tally} → Grows n room y.kept t' middle z last → Grows n room k t' first z last
  grows_on {z} h = record {
    more = omega (arith, g.more, h.more);
    few = h.few;
    within = h.within;
    recorded = h.recorded;
    behind = h.behind ∙ drop_more (y.kept * record_size n) (z.kept * record_size n) middle first
        (mul-le-mul_right (record_size n) h.more) g.behind;
  }

  -- and what is done from there is done from the start
  pub does_on : {o : Outcome} {r : Answered} → Does n room y.kept t' o middle r last → Does n room k t' o first r last
  does_on {r = r} d = record { is = d.is; grows = by r d.grows }
    where
      by : (r : Answered) → GrowsBy n room y.kept t' middle r last → GrowsBy n room k t' first r last
      by (Ok (Going z)) h = grows_on h
      by (Ok (Met z)) h = grows_on h
      by (Err e) h = tt

-- what stands afterwards is ready for the next part
pub ready_on : {n room k t : ℕ} {first area : List ℤ} {x y : Tally} → Ready n room x first → length area ≡ length first
    → Grows n room k t first y area → Ready n room y area
ready_on r e g = record {
  clocks = r.clocks;
  cap = r.cap;
  fits = omega (arith, r.fits, e);
  within = g.within;
  recorded = g.recorded;
}

-- whatever was tried
pub counted : {n room : ℕ} {x y : Tally} {area : List ℤ} → Ready n room x area → x.kept ≡ y.kept → Ready n room y area
counted {n} {room} {x} {y} {area} r e = record {
  clocks = r.clocks;
  cap = r.cap;
  fits = r.fits;
  within = omega (arith, r.within, e);
  recorded = subst (λ (k : ℕ). Recorded n k area) e r.recorded;
}

-- more candidates are allowed for
pub does_more : {n room k t t' : ℕ} {o : Outcome} {before after : List ℤ} {r : Answered} → t ≤ t'
    → Does n room k t o before r after → Does n room k t' o before r after
does_more {n} {room} {k} {t} {t'} {o} {before} {after} {r} l d = record { is = d.is; grows = by r d.grows }
  where
    more : (z : Tally) → Grows n room k t before z after → Grows n room k t' before z after
    more z g = record {
      more = g.more;
      few = omega (arith, g.few);
      within = g.within;
      recorded = g.recorded;
      behind = g.behind;
    }

    by : (r : Answered) → GrowsBy n room k t before r after → GrowsBy n room k t' before r after
    by (Ok (Going z)) g = more z g
    by (Ok (Met z)) g = more z g
    by (Err e) g = tt

-- ---- a loop over turns
turn_step : (f : ℕ → Walk → Outcome) (m i : ℕ) (w : Walk) → i < m
    → in_turn f (m - i) i w ≡ onward (f i w) (in_turn f (m - (i + 1)) (i + 1))
turn_step f m i w h =
    let q : m - i ≡ suc (m - (i + 1)) = omega arith in
    ap (λ (k : ℕ). in_turn f k i w) q ∙ unfold in_turn in ap (λ (j : ℕ). onward (f i w) (in_turn f (m - (i + 1)) j)) (sym (add-one i))

turn_none : (f : ℕ → Walk → Outcome) (m i : ℕ) (w : Walk) → m ≤ i → in_turn f (m - i) i w ≡ going w
turn_none f m i w h =
    let q : m - i ≡ 0 = omega arith in
    ap (λ (k : ℕ). in_turn f k i w) q ∙ unfold in_turn in refl

-- before the first turn all are left
pub turn_first : (f : ℕ → Walk → Outcome) (m k i : ℕ) (w : Walk) → m - i ≡ k → in_turn f (m - i) i w ≡ in_turn f k i w
turn_first f m k i w e = ap (λ (k : ℕ). in_turn f k i w) e

-- before turn i of m: what the area holds, and the turns that are left
pub record Turning (n room k t : ℕ) (f : ℕ → Walk → Outcome) (m i : ℕ) (whole : Outcome) (first : List ℤ) (y : Tally)
    (area : List ℤ) : Type 0 where
  pub grows : Grows n room k t first y area
  pub left : in_turn f (m - i) i (walk_in n y area) ≡ whole

module _ {n room k t : ℕ} {f : ℕ → Walk → Outcome} {m i : ℕ} {whole : Outcome} {first area : List ℤ} {y : Tally}
    (g : Turning n room k t f m i whole first y area) where
  -- the turn made an outcome
  next_is : i < m → {o : Outcome} → o ≡ f i (walk_in n y area) → onward o (in_turn f (m - (i + 1)) (i + 1)) ≡ whole
  next_is h q = ap (λ (o : Outcome). onward o (in_turn f (m - (i + 1)) (i + 1))) q
      ∙ (sym (turn_step f m i (walk_in n y area) h) ∙ g.left)

  -- no turn is left
  pub turns_done : m ≤ i → Does n room k t whole first (Ok (Going y)) area
  turns_done h = record { is = sym (turn_none f m i (walk_in n y area) h) ∙ g.left; grows = g.grows }

module _ {n room k t t' : ℕ} {f : ℕ → Walk → Outcome} {m i : ℕ} {whole : Outcome} {first area after : List ℤ} {y : Tally}
    (g : Turning n room k t f m i whole first y area) where
  -- the turn goes on
  pub turns_on : {z : Tally} {a : Moved} → i < m → Does n room y.kept t' (f i (walk_in n y area)) area (Ok a) after
      → a ≡ Going z → Turning n room k t' f m (i + 1) whole first z after
  turns_on {z} {a} h d e = record {
    grows = grows_on g.grows (subst (λ (a : Moved). GrowsBy n room y.kept t' area (Ok a) after) e d.grows);
    left = next_is g h (ap (λ (a : Moved). outcome_in n (Ok a) after) (sym e) ∙ d.is);
  }

  -- the turn meets the target
  pub turns_met : (a : Moved) → i < m → Does n room y.kept t' (f i (walk_in n y area)) area (Ok a) after
      → ((z : Tally) → ¬ (a ≡ Going z)) → Does n room k t' whole first (Ok a) after
  turns_met (Going z) h d e = absurd (e z refl)
  turns_met (Met z) h d e = does_on g.grows (record { is = next_is g h d.is; grows = d.grows })

  -- the turn is refused
  pub turns_refused : {e : Refusal} {r : Answered} → i < m
      → Does n room y.kept t' (f i (walk_in n y area)) area (Err e) after → IsErrAnd r (λ f. f ≡ e)
      → Does n room k t' whole first r after
  turns_refused {e} {r} h d up =
      let p = err_from_is_err_and r up in rw (p.1, p.2) (record { is = next_is g h d.is; grows = tt })

-- what an answer that does not go on is not
pub not_going : (r : Answered) → ((y : Tally) × (r ≡ Ok (Met y))) ⊎ ((e : Refusal) × (r ≡ Err e)) → (z : Tally)
    → ¬ (r ≡ Ok (Going z))
not_going r (inl p) z q =
    let h : ◌≡◌ {A = Answered} (Ok (Met p.0)) (Ok (Going z)) = sym p.1 ∙ q in
    let c : ◌≡◌ {A = ℕ} 0 1 = cc in omega arith
not_going r (inr p) z q =
    let h : ◌≡◌ {A = Answered} (Err p.0) (Ok (Going z)) = sym p.1 ∙ q in
    let c : ◌≡◌ {A = ℕ} 0 1 = cc in omega arith
