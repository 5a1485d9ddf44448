-- The list at the front of working memory.
use Rattle.std.proofs.Common.{Ok}
use mathlib.Core.List.{List, ◌++◌}
use mathlib.Core.Path.{◌≡◌, refl, sym, ◌∙◌, ap, subst}
use Prim.Native.Nat.{ℕ, suc, ◌+◌, ◌*◌, ◌≤◌, ◌/◌}
use native.Mathlib.Nat.{mul-le-mul, zero-lt-suc, div-eq_of_eq-mul_left}
use native.Mathlib.Numerals.{add-one}
use native.Mathlib.Omega.{arith}
use lib.IntN.{ℤ, pos}
use lib.ListN.{length, take, drop, replicate, length-append, length-drop, length-replicate}
use lib.Seq.{length-take-le, take_at}
use Rattle.algebra.specs.Vectors.{count}
use Rattle.sets.specs.Limits.{Clocks, Whole}
use Rattle.making.specs.Types.{Made}
use Rattle.making.specs.Rules.{Result}
use Rattle.runs.specs.Rule.{Step, made, stop}
use Rattle.runs.specs.Shown.{Shows, shown}
use Rattle.runs.proofs.ProperLists.{Proper}
use Rattle.steps.specs.Steps.{Listed}
use Rattle.steps.specs.Working.{front, step_by, Memory, Kept, Working, Begun, Stepped}

-- ---- how many words
-- at most 32 vectors over at most 6 clocks are at most 224 words
words_few : (n k : ℕ) → n ≤ 6 → k ≤ 32 → k * suc n ≤ 224
words_few n k few less = let wide : suc n ≤ 7 = omega arith in omega (arith, mul-le-mul less wide)

-- the code writes n + 1
pub words_as : (n k : ℕ) → k * (n + 1) ≡ k * suc n
words_as n k = ap (λ (w : ℕ). k * w) (add-one n)

module _ (n k : ℕ) (work : List ℤ) (memory : Memory n work) (few : k ≤ 32) where
  -- the list has at most 224 words
  pub front_small : k * (n + 1) ≤ 224
  front_small = subst (λ (w : ℕ). w ≤ 224) (sym (words_as n k)) (words_few n k memory.clocks.few few)

  -- it lies in working memory
  pub front_inside : k * (n + 1) ≤ length work
  front_inside = let h = front_small in omega (arith, memory.room)

  front_long : length (front n k work) ≡ k * suc n
  front_long = length-take-le (k * suc n) work (subst (λ (w : ℕ). w ≤ length work) (words_as n k) front_inside)

  front_count : count n (front n k work) ≡ k
  front_count = div-eq_of_eq-mul_left (zero-lt-suc n) front_long

-- the same of the list that is worked on
module _ {n k : ℕ} {work : List ℤ} (h : Working n k work) where
  pub working_small : k * (n + 1) ≤ 224
  working_small = front_small n k work h.memory h.kept.few

  pub working_inside : k * (n + 1) ≤ length work
  working_inside = front_inside n k work h.memory h.kept.few

-- memory that was just made
pub blank_memory : (n : ℕ) → Clocks n → Memory n (replicate 224 (pos 0))
blank_memory n clocks = record { clocks = clocks; room = length-replicate 224 (pos 0) }

-- a whole list has room
whole_small : (n : ℕ) (list work : List ℤ) → Memory n work → Whole n list → length list ≤ length work
whole_small n list work memory whole =
    omega (arith, words_few n (count n list) memory.clocks.few whole.few, whole.exact, memory.room)

laid_long : (v d : List ℤ) → length v ≤ length d → length (v ++ drop (length v) d) ≡ length d
laid_long v d h = omega (arith, length-append v (drop (length v) d), length-drop (length v) d)

laid_memory : (n : ℕ) (v d : List ℤ) → Memory n d → Whole n v → Memory n (v ++ drop (length v) d)
laid_memory n v d memory whole =
    record { clocks = memory.clocks; room = laid_long v d (whole_small n v d memory whole) ∙ memory.room }

-- a proper list that is put to the front stands there
laid_front : (n : ℕ) (v d : List ℤ) → Whole n v → front n (count n v) (v ++ drop (length v) d) ≡ v
laid_front n v d whole = take_at v (drop (length v) d) (count n v * suc n) whole.exact

laid_kept : (n : ℕ) (v d : List ℤ) → Proper n v → Kept n (count n v) (v ++ drop (length v) d)
laid_kept n v d p =
    record { few = p.whole.few; proper = subst (Proper n) (sym (laid_front n v d p.whole)) p }

-- the list that is begun with
pub begun : (n : ℕ) (list work : List ℤ) → Memory n work → Listed n list
    → Begun n list (length list / (n + 1)) (list ++ drop (length list) work)
begun n list work memory listed =
    let many : length list / (n + 1) ≡ count n list = ap (λ (w : ℕ). length list / w) (add-one n) in
    rw many (record {
      working = record {
        memory = laid_memory n list work memory listed.proper.whole;
        kept = laid_kept n list work listed.proper;
      };
      stands = laid_front n list work listed.proper.whole;
    })

-- ---- what a call shows
-- an answer and an area, each settled
pub same : {a b : Made} {l m : List ℤ} → a ≡ b → l ≡ m
    → ◌≡◌ {A = Result} (record { made = a; area = l }) (record { made = b; area = m })
same p q = cc

-- the list that an answer tells of
pub show_made : (n k : ℕ) (work area : List ℤ) → Memory n work → k ≤ 32
    → Shows n (made (front n k work)) area (Ok k) (take (k * (n + 1)) work ++ drop (k * (n + 1)) area)
show_made n k work area memory few = same (ap Ok (sym (front_count n k work memory few)))
    (ap (λ (w : ℕ). take w work ++ drop w area) (words_as n k)
    ∙ ap (λ (w : ℕ). front n k work ++ drop w area) (sym (front_long n k work memory few)))

-- the list that a step makes is one that the walk keeps
abbrev pub Sound : ℕ → Step → Type 0
Sound n step = (t : List ℤ) → step ≡ made t → Proper n t

module _ (n : ℕ) where
  placed : (step : Step) (area : List ℤ) → Memory n area → Sound n step
      → Stepped n step (shown n area step).made (shown n area step).area
  placed (made t) area memory sound =
      let p = sound t refl in
      record {
        memory = laid_memory n t area memory p.whole;
        kept = laid_kept n t area p;
        told = ap made (laid_front n t area p.whole);
      }
  placed (stop e) area memory sound = record { memory = memory; kept = tt; told = refl }

  -- a step that shows in memory
  pub stepped_shown : (step : Step) (area : List ℤ) {answer : Made} {after : List ℤ} → Memory n area → Sound n step
      → Shows n step area answer after → Stepped n step answer after
  stepped_shown step area memory sound e =
      subst (λ (r : Result). Stepped n step r.made r.area) (sym e) (placed step area memory sound)

  -- what another memory tells of the step, shown in this one
  pub stepped_moved : {step : Step} {answer r : Made} {next work after : List ℤ} → Memory n work → Sound n step
      → Stepped n step answer next → Shows n (step_by n answer next) work r after → Stepped n step r after
  stepped_moved {step} {answer} {r} {next} {work} {after} memory sound h e =
      stepped_shown step work memory sound (subst (λ (s : Step). Shows n s work r after) h.told e)

-- ---- steps from the list that was begun with
module _ {n : ℕ} {list : List ℤ} {k : ℕ} {work : List ℤ} (b : Begun n list k work) (f : List ℤ → Step)
    {answer : Made} {after : List ℤ} (h : Stepped n (f (front n k work)) answer after) where
  told : step_by n answer after ≡ f list
  told = h.told ∙ ap f b.stands

  -- what is shown is the step of the list that was begun with
  pub shown_begun : (out : List ℤ) {r : Made} {written : List ℤ} → Shows n (step_by n answer after) out r written
      → Shows n (f list) out r written
  shown_begun out {r} {written} e = subst (λ (s : Step). Shows n s out r written) told e
