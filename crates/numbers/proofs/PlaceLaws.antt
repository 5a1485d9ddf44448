-- Laws of the numbers of a list of words.
use mathlib.Core.Path.{◌≡◌, refl, sym, ◌∙◌, ap, subst}
use mathlib.Core.List.{List}
use mathlib.Core.Logic.{◌≢◌}
use Prim.Native.Nat.{ℕ, ◌+◌, ◌≤◌, ◌<◌}
use native.Mathlib.Omega.{arith}
use native.Mathlib.Numerals.{add-one}
use borrow.Author.Count.{below_more}
use lib.IntN.{ℤ, pos}
use lib.ListN.{length, get_or, set}
use lib.ListN.{length-set}
use lib.Seq.{get_or-set_same, get_or-set_other}
use Rattle.numbers.specs.Numbers.{Num, −∞, ◌⊕◌, ◌⊗◌, ⨁, Within}
use Rattle.numbers.specs.Words.{number}
use Rattle.numbers.specs.Places.{Vec, entries, side_of}
use Rattle.numbers.specs.Weights.{Cap, bound, meet, allowed}
use Rattle.numbers.proofs.NumberLaws.{⊗_low, ⊕_low, ⊗_within, ⨁_within}
use Rattle.numbers.proofs.WeightLaws.{meet_turn}

-- the largest of none
pub ⨁_none : (f : ℕ → Num) → ⨁ 0 f ≡ −∞
unfolding ⨁
⨁_none f = refl

-- the largest of one term more
pub ⨁_more : (m : ℕ) (f : ℕ → Num) → ⨁ (m + 1) f ≡ ⨁ m f ⊕ f m
unfolding ⨁
⨁_more m f = rw add-one

-- a term −∞ adds nothing
pub ⨁_low : (m : ℕ) (f : ℕ → Num) → f m ≡ −∞ → ⨁ (m + 1) f ≡ ⨁ m f
⨁_low m f e = ⨁_more m f ∙ rw e (⊕_low (⨁ m f))

-- a side's limits
pub side_within : {k l : ℕ} (d : ℕ) (a x : Vec)
    → ((j : ℕ) → j < d → Within k (a j)) → ((j : ℕ) → j < d → Within l (x j))
    → Within (k + l) (side_of d a x)
unfolding side_of
side_within d a x h g = ⨁_within d (λ j. a j ⊗ x j) (λ j l. ⊗_within (h j l) (g j l))

-- ---- entries written in place: entry k becomes `want k` of what it was
-- the places from `from` up to j are done, and the rest is as at entry
pub record Filling (from : ℕ) (want : ℕ → Num → Num) (before after : List ℤ) (j : ℕ) : Type 0 where
  pub begun : from ≤ j
  pub inside : j ≤ length before
  pub long : length after ≡ length before
  pub done : (k : ℕ) → k < j → from ≤ k → entries after k ≡ want k (entries before k)
  pub rest : (k : ℕ) → j ≤ k → get_or after k (pos 0) ≡ get_or before k (pos 0)
  pub front : (k : ℕ) → k < from → get_or after k (pos 0) ≡ get_or before k (pos 0)

module _ (from : ℕ) (want : ℕ → Num → Num) (before : List ℤ) where
  -- one place more is as wanted already
  pub filling_same : (after : List ℤ) (j : ℕ) → Filling from want before after j → j < length before
      → entries after j ≡ want j (entries after j) → Filling from want before after (j + 1)
  filling_same after j m l e = record {
    begun = omega (arith, m.begun);
    inside = omega arith;
    long = m.long;
    done = below_more (λ (k : ℕ). from ≤ k → entries after k ≡ want k (entries before k)) j m.done
        (λ b. e ∙ ap (λ (z : ℤ). want j (number z)) (m.rest j (omega arith)));
    rest = λ k b. m.rest k (omega arith);
    front = m.front;
  }

  -- one place more is written
  pub filling_next : (after : List ℤ) (j : ℕ) (v : ℤ) → Filling from want before after j → j < length before
      → number v ≡ want j (entries after j) → Filling from want before (set after j v) (j + 1)
  filling_next after j v m l e = record {
    begun = omega (arith, m.begun);
    inside = omega arith;
    long = length-set after j v ∙ m.long;
    done = below_more (λ (k : ℕ). from ≤ k → entries (set after j v) k ≡ want k (entries before k)) j
        (λ k b f. let ne : k ≢ j = omega arith in rw (get_or-set_other after j k v (pos 0) ne) (m.done k b f))
        (λ f. rw (get_or-set_same after j v (pos 0) (omega (arith, m.long)), ← m.rest j (omega arith)) e);
    rest = λ k b. let ne : k ≢ j = omega arith in get_or-set_other after j k v (pos 0) ne ∙ m.rest k (omega arith);
    front = λ k b. let ne : k ≢ j = omega (arith, m.begun) in get_or-set_other after j k v (pos 0) ne ∙ m.front k b;
  }

-- an entry x at place k, weighted by s, mixed with h weighted by t
abbrev pub mixing : Num → List ℤ → Num → ℕ → Num → Num
mixing s h t k x = (s ⊗ x) ⊕ (t ⊗ entries h k)

-- an entry x at place k lifted by h weighted by t
abbrev pub lifting : List ℤ → Num → ℕ → Num → Num
lifting h t k x = x ⊕ (t ⊗ entries h k)

-- an entry −∞ lifts nothing
pub lifting_none : (x t : Num) {g : Num} → g ≡ −∞ → x ≡ x ⊕ (t ⊗ g)
lifting_none x t e = sym (ap (λ (z : Num). x ⊕ z) (ap (λ (z : Num). t ⊗ z) e ∙ ⊗_low t) ∙ ⊕_low x)

-- ---- weights place by place, from the last
-- the bound takes over what place k, the last of the first j, allows
pub weigh_back : (j k : ℕ) (g x : Vec) (p q a : Cap) → j ≡ k + 1 → meet (allowed j g x) p ≡ a
    → q ≡ meet p (bound (x k) (g k)) → meet (allowed k g x) q ≡ a
weigh_back j k g x p q a e h r =
    ap (λ (c : Cap). meet (allowed k g x) c) r
    ∙ sym (meet_turn (allowed k g x) (bound (x k) (g k)) p)
    ∙ ap (λ (c : Cap). meet c p) (allowed_more k g x ∙ ap (λ (i : ℕ). allowed i g x) (sym e))
    ∙ h
  where
    allowed_more : (d : ℕ) (g x : Vec) → meet (allowed d g x) (bound (x d) (g d)) ≡ allowed (d + 1) g x
    allowed_more d g x = unfold allowed in rw add-one

-- the bound alone is left
pub weigh_all : (j : ℕ) (g x : Vec) (p a : Cap) → j ≡ 0 → meet (allowed j g x) p ≡ a → p ≡ a
unfolding allowed meet
weigh_all j g x p a e h = subst (λ (i : ℕ). meet (allowed i g x) p ≡ a) e h
