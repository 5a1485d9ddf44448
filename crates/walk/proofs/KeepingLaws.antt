-- Keeping and judging a candidate: the answer of code is the outcome of the rule.
use Rattle.std.proofs.Common.{Err, Ok}
use mathlib.Core.Bool.{Bool, true, false, ◌||◌, cond, not}
use mathlib.Core.List.{List, [], ◌∷◌}
use mathlib.Core.Path.{◌≡◌, refl, sym, ap, ◌∙◌, subst}
use Prim.Native.Nat.{ℕ, suc, ◌+◌, ◌*◌, ◌≤◌, ◌<◌}
use native.Mathlib.Numerals.{add-one}
use native.Mathlib.Omega.{arith}
use lib.Dec.{eqb}
use lib.IntN.{ℤ}
use lib.ListN.{length, drop}
use borrow.Author.Tests.{lt-ltb, le-ltb, eq-eqb, ne_eqb}
use Rattle.numbers.specs.declared.Refusal.TheVariants.{Room}
use Rattle.runs.specs.Rule.{Step, made, stop, State, is_empty, covered, cut_all, Walk, Outcome, going, met}
use Rattle.runs.specs.Rule.{keeping, tested, test, keep, judge}
use Rattle.model.specs.Plain.{bounds_of}
use Rattle.steps.specs.Steps.{Listed, meets_by}
use Rattle.sets.specs.Types.{Told}
use Rattle.area.specs.Area.{record_size}
use Rattle.area.specs.Records.{kept, state, states_in, Recorded}
use Rattle.area.proofs.RecordLaws.{row_in}
use Rattle.area.proofs.KeepLaws.{states_new, states_many, recorded_new, kept_behind}
use Rattle.walk.specs.declared.Tally.{Tally}
use Rattle.walk.specs.declared.Goal.{Goal}
use Rattle.walk.specs.Control.{Answered}
use Rattle.walk.specs.declared.Moved.TheVariants.{Going}
use Rattle.walk.specs.Control.{tally, walk_in, outcome_in, Ready, Grows, GrowsBy, Does, aimed, met_by, tested_by}

-- ---- nothing is done
-- what stands, stands
pub stays : (n room : ℕ) (y : Tally) (area : List ℤ) (t : ℕ) → y.tried ≤ t → Ready n room y area
    → Grows n room y.kept t area y area
stays n room y area t h r =
    record { more = omega arith; few = h; within = r.within; recorded = r.recorded; behind = refl }

-- the walk goes on as it is
pub goes_on : {n room t : ℕ} {y : Tally} {area : List ℤ} {o : Outcome} → y.tried ≤ t → Ready n room y area
    → going (walk_in n y area) ≡ o → Does n room y.kept t o area (Ok (Going y)) area
goes_on {n} {room} {t} {y} {area} h r e = record { is = e; grows = stays n room y area t h r }

-- ---- the target test
module _ (n : ℕ) (goal : Goal) (q : ℕ) (parent edge : ℤ) (l : List ℤ) (y : Tally) (area : List ℤ) where
  -- the test of a kept state is that of the rule
  pub tested_is : outcome_in n (tested_by n goal q l y) area
      ≡ test (aimed n goal) (state q parent edge l) (walk_in n y area)
  unfolding tested_by test
  tested_is = by (eqb q goal.location) (cut_all n (bounds_of n goal.list) l)
    where
      w : Walk
      w = walk_in n y area

      told : (b : Bool) → outcome_in n (met_by (Ok (not b)) y) area ≡ cond b (going w) (met w)
      told true = refl
      told false = refl

      by : (b : Bool) (o : Step)
          → outcome_in n (cond b (met_by (meets_by o) y) (Ok (Going y))) area ≡ cond b (tested w o) (going w)
      by false o = refl
      by true (made t) = told (is_empty t)
      by true (stop e) = refl

  -- it keeps no state and forms no candidate
  pub tested_grows : {room k t : ℕ} {before : List ℤ} → Grows n room k t before y area
      → GrowsBy n room k t before (tested_by n goal q l y) area
  unfolding tested_by
  tested_grows {room} {k} {t} {before} g = by (eqb q goal.location) (cut_all n (bounds_of n goal.list) l)
    where
      told : (b : Bool) → GrowsBy n room k t before (met_by (Ok (not b)) y) area
      told true = g
      told false = g

      by : (b : Bool) (o : Step) → GrowsBy n room k t before (cond b (met_by (meets_by o) y) (Ok (Going y))) area
      by false o = g
      by true (made t) = told (is_empty t)
      by true (stop e) = tt

-- as code asks it
pub tested_meets : (n : ℕ) (goal : Goal) (q : ℕ) (l : List ℤ) (y : Tally) {told : Told} → q ≡ goal.location
    → told ≡ meets_by (cut_all n (bounds_of n goal.list) l) → met_by told y ≡ tested_by n goal q l y
unfolding tested_by
tested_meets n goal q l y h e = rw (eq-eqb q goal.location h, ← e)

-- a state of another location is not tested
pub tested_not : (n : ℕ) (goal : Goal) (q : ℕ) (l : List ℤ) (y : Tally) → ¬ (q ≡ goal.location)
    → Ok (Going y) ≡ tested_by n goal q l y
unfolding tested_by
tested_not n goal q l y h = rw (ne_eqb q goal.location h)

-- ---- the empty test, by the length
empty_list : (l : List ℤ) → length l ≡ 0 → is_empty l ≡ true
empty_list [] h = refl
empty_list (z ∷ l) h = absurd (omega arith)

-- a list that has a word is not empty
pub full_list : (l : List ℤ) → ¬ (length l ≡ 0) → is_empty l ≡ false
full_list [] h = absurd (h refl)
full_list (z ∷ l) h = refl

or_true : (a b : Bool) → b ≡ true → (a || b) ≡ true
or_true true b e = refl
or_true false b e = e

-- ---- a state is kept
module _ (n room : ℕ) (y : Tally) (area : List ℤ) (goal : Goal) (q : ℕ) (parent edge : ℤ) (l : List ℤ)
    (ready : Ready n room y area) (listed : Listed n l) where
  abbrev s : State
  s = state q parent edge l

  abbrev k : ℕ
  k = y.kept

  inside : k < room → suc k * record_size n ≤ length area
  inside h = row_in (record_size n) h ready.fits

  more : (after : List ℤ) → k < room → after ≡ kept n area k s → walk_in n (tally (k + 1) y.tried) after
      ≡ keeping s (walk_in n y area)
  more after h e = ap (λ (ss : List State). record { kept = ss; tried = y.tried })
      (rw (add-one k, e) (states_new n area k s (inside h) listed.proper.whole))

  grown : (after : List ℤ) → length after ≡ length area → k < room → after ≡ kept n area k s
      → Grows n room k y.tried area (tally (k + 1) y.tried) after
  grown after long h e = record {
    more = omega arith;
    few = omega arith;
    within = omega arith;
    recorded = rw (add-one k) (subst (Recorded n (suc k)) (sym e)
        (recorded_new n area k s (inside h) listed.proper.whole (ap (λ (a : List ℤ). length a) (sym e) ∙ long)
        listed.proper ready.recorded));
    behind = rw (add-one k) (ap (drop (suc k * record_size n)) e
        ∙ kept_behind n area k s (inside h) listed.proper.whole);
  }

  -- there is room: its record is written, and it is tested
  pub store_does : (after : List ℤ) (r : Answered) → length after ≡ length area → k < room → after ≡ kept n area k s
      → r ≡ tested_by n goal q l (tally (k + 1) y.tried)
      → Does n room k y.tried (keep (aimed n goal) room s (walk_in n y area)) area r after
  unfolding keep
  store_does after r long h e f = record {
    is = ap (λ (r : Answered). outcome_in n r after) f
        ∙ (tested_is n goal q parent edge l (tally (k + 1) y.tried) after
        ∙ (ap (test (aimed n goal) s) (more after h e)
        ∙ sym (rw (states_many n k area, lt-ltb k room h))));
    grows = subst (λ (r : Answered). GrowsBy n room k y.tried area r after) (sym f)
        (tested_grows n goal q parent edge l (tally (k + 1) y.tried) after (grown after long h e));
  }

  -- there is none
  pub store_full : room ≤ k
      → Does n room k y.tried (keep (aimed n goal) room s (walk_in n y area)) area (Err Room) area
  unfolding keep
  store_full h = record { is = sym (rw (states_many n k area, le-ltb k room h)); grows = tt }

  -- ---- a candidate is judged
  pub judge_empty : length l ≡ 0 → going (walk_in n y area) ≡ judge (aimed n goal) room s (walk_in n y area)
  unfolding judge
  judge_empty h = sym (rw (empty_list l h))

  -- a candidate that a kept state includes is dropped
  pub judge_covered : (r : Bool) → r ≡ covered n (states_in n k area) q l → r ≡ true
      → going (walk_in n y area) ≡ judge (aimed n goal) room s (walk_in n y area)
  unfolding judge
  judge_covered r e h =
      sym (rw (or_true (is_empty l) (covered n (states_in n k area) q l) (sym e ∙ h)))

  -- one that is not empty and not included is kept
  pub judge_kept : (r : Bool) → ¬ (length l ≡ 0) → r ≡ covered n (states_in n k area) q l → r ≡ false
      → keep (aimed n goal) room s (walk_in n y area) ≡ judge (aimed n goal) room s (walk_in n y area)
  unfolding judge
  judge_kept r z e h = sym (rw (full_list l z, sym e ∙ h))

-- another name for the outcome
pub does_as : {n room k t : ℕ} {o p : Outcome} {before : List ℤ} {r : Answered} {after : List ℤ} → o ≡ p
    → Does n room k t o before r after → Does n room k t p before r after
does_as e d = record { is = d.is ∙ e; grows = d.grows }
