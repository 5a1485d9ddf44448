-- What a making call answers from the list at the front is the walk's step.
use mathlib.Core.List.{List}
use mathlib.Core.Path.{◌∙◌, ap, subst, subst₂}
use Prim.Native.Nat.{ℕ, ◌+◌, ◌*◌, ◌<◌}
use native.Mathlib.Omega.{arith}
use lib.IntN.{ℤ, pos}
use lib.ListN.{take}
use Rattle.making.specs.Types.{Made}
use Rattle.making.specs.Limits.{Roomy}
use Rattle.making.specs.Calls.{Intersects, Delays, Resets}
use Rattle.making.specs.Rules.{intersect_of, delay_of, reset_of}
use Rattle.making.proofs.Rules.{intersect_meets, delay_meets, reset_meets}
use Rattle.making.proofs.Settled.{intersect_settled, delay_settled, reset_settled}
use Rattle.runs.specs.Models.{Bound}
use Rattle.runs.specs.ModelLimits.{BoundLimits}
use Rattle.runs.specs.Rule.{Step, cut, delayed, reset_to0}
use Rattle.runs.specs.Table.{half_of}
use Rattle.runs.proofs.CallLaws.{cut_call, delayed_call, reset_call, cut_good, delayed_good, reset_good}
use Rattle.runs.proofs.ProperLists.{Proper}
use Rattle.runs.proofs.StepLaws.{cut_gives, delayed_gives, reset_gives}
use Rattle.steps.specs.Rows.{Halves}
use Rattle.steps.specs.Working.{front, Memory, Working, Stepped, Showable}
use Rattle.steps.proofs.FrontLaws.{Sound, same, words_as, stepped_shown}

memory_roomy : (n : ℕ) (area : List ℤ) → Memory n area → Roomy n area
memory_roomy n area memory = omega (arith, memory.room, memory.clocks.few)

module _ (n k : ℕ) (work : List ℤ) (h : Working n k work) where
  abbrev l : List ℤ
  l = front n k work

  abbrev p : Proper n l
  p = h.kept.proper

  -- the lists that a cut makes are proper
  pub cut_sound : (half : List ℤ) → Sound n (cut n half (front n k work))
  cut_sound half t e = (cut_gives n l p half t e).proper

  -- those that a delay makes
  pub delayed_sound : Sound n (delayed n (front n k work))
  delayed_sound t e = (delayed_gives n l p t e).proper

  -- those that a reset makes
  pub reset_sound : (i : ℕ) → i < n → Sound n (reset_to0 n i (front n k work))
  reset_sound i m t e = (reset_gives n l p i m t e).proper

  -- what the call leaves can be shown
  pub showable : {step : Step} {answer : Made} {next : List ℤ} → Stepped n step answer next
      → Showable n answer next work
  showable s = record { memory = s.memory; kept = s.kept; roomy = memory_roomy n work h.memory }

  module _ (area : List ℤ) (memory : Memory n area) (answer : Made) (after : List ℤ) where
    abbrev roomy : Roomy n area
    roomy = memory_roomy n area memory

    -- what `intersect` answers is the cut by the bound
    pub cut_called : (b : Bound) → BoundLimits n b → (half : List ℤ) → Halves n (half_of n b) half
        → Intersects n (take (k * (n + 1)) work) (take (2 * (n + 1)) half) area answer after
        → Stepped n (cut n (half_of n b) (front n k work)) answer after
    cut_called b fit half is calls =
        let r = intersect_of n l (half_of n b) area in
        let call : Intersects n l (half_of n b) area answer after = subst₂
        (λ (l h : List ℤ). Intersects n l h area answer after) (ap (λ (w : ℕ). take w work) (words_as n k))
        (ap (λ (w : ℕ). take w half) (words_as n 2) ∙ is.front) calls in
        let (e, f) = intersect_settled n l (half_of n b) area answer r.made after r.area call
        (intersect_meets n l (half_of n b) area) in
        stepped_shown n (cut n (half_of n b) l) area memory (cut_sound (half_of n b)) (same e f
        ∙ cut_call n l (half_of n b) area (cut_good n memory.clocks l area p roomy b fit))

    -- what `delay` answers is the delay
    pub delayed_called : Delays n (take (k * (n + 1)) work) area answer after
        → Stepped n (delayed n (front n k work)) answer after
    delayed_called calls =
        let r = delay_of n l area in
        let call : Delays n l area answer after = subst (λ (l : List ℤ). Delays n l area answer after)
        (ap (λ (w : ℕ). take w work) (words_as n k)) calls in
        let (e, f) = delay_settled n l area answer r.made after r.area call (delay_meets n l area) in
        stepped_shown n (delayed n l) area memory delayed_sound
        (same e f ∙ delayed_call n l area (delayed_good n memory.clocks l area p roomy))

    -- what `reset` answers is the reset
    pub reset_called : (i : ℕ) → i < n → Resets n (take (k * (n + 1)) work) i (pos 0) area answer after
        → Stepped n (reset_to0 n i (front n k work)) answer after
    reset_called i m calls =
        let r = reset_of n l i (pos 0) area in
        let call : Resets n l i (pos 0) area answer after = subst
        (λ (l : List ℤ). Resets n l i (pos 0) area answer after) (ap (λ (w : ℕ). take w work) (words_as n k)) calls in
        let (e, f) = reset_settled n l i (pos 0) area answer r.made after r.area call
        (reset_meets n l i (pos 0) area) in
        stepped_shown n (reset_to0 n i l) area memory (reset_sound i m)
        (same e f ∙ reset_call n l i area (reset_good n memory.clocks l area p roomy i m))
