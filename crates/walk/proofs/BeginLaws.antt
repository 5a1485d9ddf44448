-- State 0: the initial location entered with all clocks 0.
use Rattle.std.proofs.Common.{Err, Ok}
use mathlib.Core.List.{List, []}
use mathlib.Core.Path.{◌≡◌, refl, sym, ap, ◌∙◌, subst}
use Prim.Native.Nat.{ℕ, zero, suc, ◌+◌, ◌-◌, ◌*◌, ◌≤◌}
use native.Mathlib.Nat.{zero-mul, suc-mul}
use native.Mathlib.Numerals.{add-one}
use native.Mathlib.Omega.{arith}
use lib.IntN.{ℤ, pos}
use lib.ListN.{length, take, get_or, replicate, length-replicate, replicate-append-replicate}
use lib.Seq.{take_at, length-take-le}
use Rattle.sets.specs.Limits.{Clocks}
use Rattle.making.specs.Limits.{Roomy}
use Rattle.runs.specs.Models.{System}
use Rattle.runs.specs.Rule.{Step, made, stop, zeros, entering, enter, nothing, zeroth, keep}
use Rattle.runs.specs.Rule.{ends_never, begun, layers, from, walk_to, walk_of}
use Rattle.std.specs.Result.{IsErrAnd}
use Rattle.std.proofs.lemmas.Result.{err_from_is_err_and}
use Rattle.numbers.specs.declared.Refusal.{Refusal}
use Rattle.runs.specs.Shown.{Shows}
use Rattle.runs.specs.Verdicts.{Judged}
use Rattle.runs.specs.declared.Verdict.TheVariants.{Never}
use Rattle.runs.proofs.ProperLists.{Proper, zeros_proper}
use Rattle.runs.proofs.Entering.{entering_proper}
use Rattle.bounds.specs.declared.Bounds.{Bounds}
use Rattle.bounds.specs.Limits.{BoundsLimits}
use Rattle.model.specs.declared.Model.{Model}
use Rattle.model.specs.Limits.{ModelLimits}
use Rattle.model.specs.Models.{past_bounds}
use Rattle.model.specs.Plain.{plain, bounds_of}
use Rattle.model.proofs.PlainLimits.{bounds_plain, invariant_at, invariant_fits}
use Rattle.steps.specs.Steps.{Starts}
use Rattle.area.specs.Records.{states_in}
use Rattle.walk.specs.Control.{tally, Ready, Finds}
use Rattle.walk.proofs.KeepingLaws.{stays, full_list}
use Rattle.walk.proofs.FormLaws.{Gave, shows_made, shows_refused}
use Rattle.walk.proofs.LayerLaws.{finds_never, finds_refused}

zero_of : (k n : ℕ) → k * (n + 1) ≡ 0 → k ≡ 0
zero_of zero n q = refl
zero_of (suc k) n q = absurd (omega (arith, suc-mul k (n + 1), q))

-- the first words of a memory of 0
pub zeros_part : (n : ℕ) → n ≤ 6 → take (n + 1) (replicate 7 (pos 0)) ≡ zeros n
zeros_part n h =
    let q : suc n + (6 - n) ≡ 7 = omega arith in
    ap (λ (k : ℕ). take k (replicate 7 (pos 0))) (add-one n)
    ∙ (ap (λ (k : ℕ). take (suc n) (replicate k (pos 0))) (sym q)
    ∙ (ap (take (suc n)) (sym (replicate-append-replicate (suc n) (6 - n) (pos 0)))
    ∙ take_at (replicate (suc n) (pos 0)) (replicate (6 - n) (pos 0)) (suc n) (length-replicate (suc n) (pos 0))))

-- the point 0 is a list that entering takes
pub begin_starts : (n : ℕ) (out : List ℤ) → Clocks n → Roomy n out → Starts n (take (n + 1) (replicate 7 (pos 0))) out
begin_starts n out c r = record {
  listed = record { clocks = c; proper = subst (Proper n) (sym (zeros_part n c.few)) (zeros_proper n) };
  roomy = r;
}

module _ (m : Model) (limits : ModelLimits m) (room : ℕ) (inv : Bounds)
    (known : inv ≡ get_or m.invariants m.initial past_bounds) where
  abbrev n : ℕ
  n = m.clocks

  abbrev S : System
  S = (plain m).system

  clocks : Clocks n
  clocks = record { some = limits.numbers.some_clocks; few = limits.numbers.clocks }

  -- the step, as code calls it and as the rule says it
  abbrev called : Step
  called = entering n (bounds_of n inv) (take (n + 1) (replicate 7 (pos 0)))

  same : called ≡ enter S S.initial (zeros n)
  same = ap (λ (l : List ℤ). entering n (bounds_of n inv) l) (zeros_part n clocks.few)
      ∙ ap (λ bs. entering n bs (zeros n)) (ap (bounds_of n) known
      ∙ sym (invariant_at m limits past_bounds m.initial limits.numbers.initial))

  -- what entering made is the list of state 0
  pub begin_gave : (before : List ℤ) (k : ℕ) (after : List ℤ) → Shows n called before (Ok k) after
      → Gave n (enter S S.initial (zeros n)) k after
  begin_gave before k after s = subst (λ (o : Step). Gave n o k after) same
      (shows_made n called before k after
      (λ t e. entering_proper n (bounds_of n inv)
      (bounds_plain n inv (subst (BoundsLimits n) (sym known)
      (invariant_fits m limits past_bounds m.initial limits.numbers.initial))).each
      (take (n + 1) (replicate 7 (pos 0))) t (subst (Proper n) (sym (zeros_part n clocks.few)) (zeros_proper n)) e)
      s)

  walk_is : (o : Step) → enter S S.initial (zeros n) ≡ o
      → from S room (layers S room m.depth 0) o ≡ walk_of (plain m) room
  unfolding walk_of walk_to
  walk_is o e = ap (from S room (layers S room m.depth 0)) (sym e)

  -- entering was refused
  pub begin_stops : (area before : List ℤ) {x : Refusal} (after : List ℤ) {v : Judged}
      → Shows n called before (Err x) after → IsErrAnd v (λ f. f ≡ x)
      → Finds n 0 m.depth (walk_of (plain m) room) area v area
  begin_stops area before {x} after {v} s up =
      let p = err_from_is_err_and v up in
      rw (p.1, p.2) (finds_refused (walk_is (stop x) (sym same ∙ shows_refused n called before x after s)))

  module _ (area : List ℤ) (k : ℕ) (after : List ℤ) (g : Gave n (enter S S.initial (zeros n)) k after) where
    abbrev l : List ℤ
    l = take (k * (n + 1)) after

    -- state 0 is empty
    pub begin_empty : Ready n room (tally 0 0) area → k ≡ 0
        → Finds n 0 m.depth (walk_of (plain m) room) area (Ok (Never 0 0)) area
    begin_empty r e = finds_never (stays n room (tally 0 0) area 0 (omega arith) r) never
      where
        none : l ≡ []
        none = ap (λ (k : ℕ). take (k * (n + 1)) after) e ∙ ap (λ (k : ℕ). take k after) (zero-mul (n + 1))

        never : ends_never (record { kept = states_in n 0 area; tried = 0 }) ≡ walk_of (plain m) room
        never = unfold states_in in walk_is (made []) (g.is ∙ ap made none)

    -- it is not
    pub begin_full : ¬ (k ≡ 0) → k * (n + 1) ≤ length after
        → begun (layers S room m.depth 0) (keep S room (zeroth S l) nothing) ≡ walk_of (plain m) room
    begin_full h b = sym (rw (full_list l some)) ∙ walk_is (made l) g.is
      where
        some : ¬ (length l ≡ 0)
        some e = h (zero_of k n (sym (length-take-le (k * (n + 1)) after b) ∙ e))
