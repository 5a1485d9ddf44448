-- What is reached, vector by vector, and where a vector falls short of it.
use Rattle.std.proofs.Common.{Option, None, Some, is_some}
use mathlib.Core.Bool.{Bool, true, false, not}
use mathlib.Core.List.{List, ◌++◌}
use mathlib.Core.Path.{◌≡◌, refl, sym, ◌∙◌, ap, subst}
use Prim.Native.Nat.{ℕ, ◌+◌, ◌*◌, ◌/◌, ◌≤◌, ◌<◌}
use native.Mathlib.Nat.{div-mul-le_self}
use native.Mathlib.Numerals.{add-one}
use native.Mathlib.Decide.{dec_lt}
use native.Mathlib.Omega.{arith}
use lib.IntN.{ℤ, pos}
use lib.ListN.{length, get_or, take, replicate, get_or-replicate, get_or-append, length-append}
use Rattle.std.proofs.lemmas.List.{get_or-append-add}
use lib.Seq.{get_or-take, get_or-drop, length-take-le}
use lib.Signed.{lt_z, mag}
use mir.Syntax.{w32}
use mir.Val.{SFits, to_z, of_z}
use Rattle.numbers.specs.Words.{mark, number}
use Rattle.numbers.proofs.WordLaws.{number_mark, back, lt_no, number_mono, number_strict}
use Rattle.numbers.specs.Numbers.{Num, −∞, ◌≼◌, at_most, ◌⊕◌, ◌⊗◌, Within}
use Rattle.numbers.specs.Tests.{every}
use Rattle.numbers.proofs.Tells.{passes, fails, tells_every, every_stop}
use Rattle.numbers.specs.Places.{Vec, entries, Each, Lifted}
use Rattle.numbers.specs.Weights.{weight_of}
use Rattle.numbers.proofs.NumberLaws.{≼_trans, ⊗_low, ⊕_low, wider, tells_at_most}
use Rattle.numbers.proofs.WeightLaws.{weight_ext}
use Rattle.algebra.specs.Vectors.{count}
use Rattle.algebra.specs.Reach.{reach}
use Rattle.algebra.proofs.Residuation.{reach_none, reach_more, reach_grows, reach_ext}
use Rattle.sets.specs.declared.Short.{Short}
use Rattle.sets.specs.Tests.{part}
use Rattle.sets.specs.Rules.{flat, attained, generated}
use Rattle.sets.specs.Falls.{masked, all_used, Falls, reach_of, Testable, Next, Gathered, Ends}
use Rattle.sets.specs.Falls.{raised, Raised}
use Rattle.sets.proofs.RowLaws.{part_long}
use Rattle.sets.proofs.FlatLaws.{part_flat}

-- falling short of vectors with the same entries
pub falls_ext : (d : ℕ) (R S X : Vec) (s : Option Short)
    → ((j : ℕ) → j < d → R j ≡ S j) → Falls d R X s → Falls d S X s
falls_ext d R S X None e h = λ j l. subst (λ r. X j ≼ r) (e j l) (h j l)
falls_ext d R S X (Some s) e h = record {
  inside = h.inside;
  short = λ k. h.short (subst (λ r. X s.at ≼ r) (sym (e s.at h.inside)) k);
  reached = h.reached ∙ e s.at h.inside;
  before = λ k l. subst (λ r. X k ≼ r) (e k (below l)) (h.before k l);
}
  where
    below : {k : ℕ} → k < s.at → k < d
    below l = omega (arith, h.inside)

-- words within limits are within wider ones
pub each_wider : {k l : ℕ} {xs : List ℤ} → k ≤ l → Each k xs → Each l xs
each_wider h e = record { each = λ j b. wider h (e.each j b) }

-- a part keeps the limits of the whole
pub each_part : {k : ℕ} (l : List ℤ) (a w : ℕ) → a + w ≤ length l → Each k l → Each k (part l a w)
unfolding part
each_part {k} l a w h e = record { each = λ j b. at j (subst (λ (n : ℕ). j < n) (part_long l a w h) b) }
  where
    at : (j : ℕ) → j < w → Within k (entries (part l a w) j)
    at j b = rw (get_or-take, get_or-drop) (e.each (a + j) (omega arith))

-- both pieces of a cut list keep its limits
pub each_cut : {k : ℕ} (xs ys zs : List ℤ) → xs ≡ ys ++ zs → Each k xs → Each k ys × Each k zs
each_cut {k} xs ys zs e h = (
  record { each = λ j b. subst (λ z. Within k (number z)) (get_or-append ys zs (pos 0) j b) (at j (omega (arith, long))) },
  record {
    each = λ j b. subst (λ z. Within k (number z)) (get_or-append-add ys zs j (pos 0))
        (at (length ys + j) (omega (arith, long)));
  },
)
  where
    long : length (ys ++ zs) ≡ length ys + length zs
    long = length-append ys zs

    at : (j : ℕ) → j < length (ys ++ zs) → Within k (number (get_or (ys ++ zs) j (pos 0)))
    at = (subst (λ (l : List ℤ). Each k l) e h).each

-- ---- what is reached, raised by one vector
module _ (from : ℕ) (before g x : List ℤ) (t : Num) (w : t ≡ weight_of (length x) (entries g) (entries x)) where
  -- a vector of weight −∞ raises nothing
  pub raised_none : from ≤ length x → t ≡ −∞ → Raised from before g x (Some from) before
  raised_none h e = record {
    long = refl;
    onward = omega arith;
    inside = h;
    passed = λ j f l. absurd (omega arith);
    right = λ j f l. unfold raised in rw (← w, e, ⊕_low (entries before j));
  }

  -- lifting by its weight raises, and the entries passed are reached
  pub raised_lift : (r : Option ℕ) (after : List ℤ) → length before ≡ length x → Lifted from before g t after
      → Next from after x r → Raised from before g x r after
  raised_lift None after e m n = (
    m.long,
    λ j f l. subst (λ z. entries x j ≼ z) (lifts j f l) (n j f l),
  )
    where
      lifts : (j : ℕ) → from ≤ j → j < length x → entries after j ≡ raised before g x j
      lifts j f l = unfold raised in m.right j f (omega arith) ∙ rw w
  raised_lift (Some r) after e m n = record {
    long = m.long;
    onward = n.onward;
    inside = omega (arith, n.inside);
    passed = λ j f l. subst (λ z. entries x j ≼ z) (lifts j f (omega (arith, n.inside))) (n.passed j f l);
    right = λ j f l. lifts j (omega (arith, n.onward)) l;
  }
    where
      lifts : (j : ℕ) → from ≤ j → j < length x → entries after j ≡ raised before g x j
      lifts j f l = unfold raised in m.right j f (omega arith) ∙ rw w

-- ---- vector by vector
module _ (list : List ℤ) (used : List Bool) (x : List ℤ) where
  G : ℕ → Vec
  G = masked used (flat (length x) list)

  -- nothing is reached by no vectors
  pub gathered_none : (out : List ℤ) → length out ≡ length x → ((j : ℕ) → j < length x → entries out j ≡ −∞)
      → Gathered list used x 0 0 out
  gathered_none out e h = record {
    long = e;
    inside = omega arith;
    passed = λ j l. absurd (omega arith);
    right = λ j f l. unfold G in h j l ∙ sym (reach_none (length x) G (entries x) j);
  }

  -- what is reached stays reached
  stays : (i m from : ℕ) (out : List ℤ) → i ≤ m → Gathered list used x i from out
      → (j : ℕ) → j < from → entries x j ≼ reach_of list m used x j
  unfolding G
  stays i m from out h g j l = ≼_trans (g.passed j l) (reach_grows (length x) i m G (entries x) j h)

  -- a vector that is not used changes nothing
  pub gathered_skip : (i from : ℕ) (out : List ℤ) → get_or used i false ≡ false → Gathered list used x i from out
      → Gathered list used x (i + 1) from out
  gathered_skip i from out e g = record {
    long = g.long;
    inside = g.inside;
    passed = stays i (i + 1) from out (omega arith) g;
    right = λ j f l. unfold G in g.right j f l
        ∙ sym (reach_more (length x) i G (entries x) j
        ∙ ap (λ z. reach_of list i used x j ⊕ z) (none j) ∙ ⊕_low (reach_of list i used x j));
  }
    where
      off : (j : ℕ) → G i j ≡ −∞
      off j = unfold G masked in rw e

      none : (j : ℕ) → weight_of (length x) (G i) (entries x) ⊗ G i j ≡ −∞
      none j = rw (off j) (⊗_low (weight_of (length x) (G i) (entries x)))

  -- ---- a vector that is used raises what is reached
  module _ (i from : ℕ) (out v : List ℤ) (lent : v ≡ part list (i * length x) (length x))
      (e : get_or used i false ≡ true) (g : Gathered list used x i from out) where
    same : (j : ℕ) → j < length x → entries v j ≡ G i j
    same j l = unfold G masked in rw lent (part_flat (length x) list i j l ∙ rw e)

    step : (j : ℕ) → from ≤ j → j < length x → raised out v x j ≡ reach_of list (i + 1) used x j
    step j f l = unfold G raised in rw (
      g.right j f l,
      same j l,
      weight_ext (length x) (entries v) (G i) (entries x) (entries x) same (λ k h. refl),
    ) (sym (reach_more (length x) i G (entries x) j))

    before : (j : ℕ) → j < length x → Dec (j < from) → (from ≤ j → entries x j ≼ raised out v x j)
        → entries x j ≼ reach_of list (i + 1) used x j
    before j l (yes k) h = stays i (i + 1) from out (omega arith) g j k
    before j l (no k) h = subst (λ z. entries x j ≼ z) (step j (omega arith) l) (h (omega arith))

    -- to an entry of x
    pub gathered_next : (r : ℕ) (after : List ℤ) → Raised from out v x (Some r) after
        → Gathered list used x (i + 1) r after
    gathered_next r after h = record {
      long = h.long ∙ g.long;
      inside = h.inside;
      passed = λ j l. before j (omega (arith, h.inside)) (dec_lt j from) (λ f. h.passed j f l);
      right = λ j f l. h.right j f l ∙ step j (omega (arith, h.onward)) l;
    }

    -- or all of x: the other vectors need not take part
    pub ends_early : (m : ℕ) (after : List ℤ) → i < m → Raised from out v x None after
        → Ends list m used x None after
    unfolding G
    ends_early m after l h = (
      h.0 ∙ g.long,
      λ j b. ≼_trans (before j b (dec_lt j from) (λ f. h.1 j f b))
          (reach_grows (length x) (i + 1) m G (entries x) j (omega arith)),
    )

  -- x falls short of what all reach at the entry that ends it
  pub falls_at : (m r : ℕ) (out : List ℤ) (z : ℤ) → Ends list m used x (Some r) out → number z ≡ entries out r
      → Falls (length x) (reach_of list m used x) (entries x) (Some record { at = r; reached = z })
  falls_at m r out z h e =
      record { inside = h.inside; short = h.short; reached = e ∙ h.reached; before = h.passed }

-- ---- the words r and x of one place, by the test `r < x` on bits
module _ (r x : ℤ) (fr : mag r < 2147483648) (fx : mag x < 2147483648) where
  -- the test passed: x is not reached
  pub place_short : lt_z (to_z w32 (of_z w32 r)) (to_z w32 (of_z w32 x)) ≡ true → ¬ (number x ≼ number r)
  place_short e = number_strict (record { sfits = fr }) (record { sfits = fx }) (simp back at e)

  -- the test failed: x is reached
  pub place_enough : lt_z (to_z w32 (of_z w32 r)) (to_z w32 (of_z w32 x)) ≡ false → number x ≼ number r
  place_enough e =
      let f : SFits w32 r = record { sfits = fr } in
      let g : SFits w32 x = record { sfits = fx } in
      number_mono g f (lt_no f g e)

-- as many of seven equal words as are lent
pub blank_long : (z : ℤ) (w : ℕ) → w ≤ 7 → length (take w (replicate 7 z)) ≡ w
blank_long z w h = length-take-le w (replicate 7 z) h

-- seven marks, of which as many are lent as x has words: nothing is reached yet
pub gathered_blank : (list : List ℤ) (used : List Bool) (x : List ℤ) → length x ≤ 7
    → Gathered list used x 0 0 (take (length x) (replicate 7 mark))
gathered_blank list used x h = gathered_none list used x (take (length x) (replicate 7 mark))
    (blank_long mark (length x) h)
    (λ j l. ap number (get_or-take (length x) (replicate 7 mark) j (pos 0) l
    ∙ get_or-replicate 7 j mark (pos 0) (omega arith)) ∙ number_mark)

-- ---- a list of which every vector is used
-- whether it falls short nowhere
abbrev pub nowhere : Option Short → Bool
nowhere None = true
nowhere (Some s) = false

all_on : (G : ℕ → Vec) (i j : ℕ) → i < 32 → masked all_used G i j ≡ G i j
unfolding masked all_used
all_on G i j h = rw (get_or-replicate 32 i true false h)

-- it is reached everywhere exactly if it falls short nowhere
pub tells_falls : (d : ℕ) (R X : Vec) (s : Option Short) → Falls d R X s
    → every d (λ j. at_most (X j) (R j)) ≡ nowhere s
tells_falls d R X None h = passes (tells_every _ (λ j. X j ≼ R j) d (λ j l. tells_at_most (X j) (R j))) h
tells_falls d R X (Some s) h =
    every_stop (λ j. at_most (X j) (R j)) d s.at h.inside (fails (tells_at_most (X s.at) (R s.at)) h.short)

-- the vector falls short nowhere exactly if it is a combination
pub short_generated : (list : List ℤ) (m : ℕ) (x : List ℤ) (s : Option Short) → m ≤ 32
    → Falls (length x) (reach_of list m all_used x) (entries x) s
    → generated list m x ≡ nowhere s
unfolding attained generated
short_generated list m x s h f = tells_falls (length x) _ (entries x) s (falls_ext (length x) _ _ (entries x) s same f)
  where
    same : (j : ℕ) → j < length x → reach_of list m all_used x j ≡ reach (length x) m (flat (length x) list) (entries x) j
    same = reach_ext (length x) m (masked all_used (flat (length x) list)) (flat (length x) list) (entries x) (entries x)
        (λ i j l b. all_on (flat (length x) list) i j (omega arith)) (λ j b. refl)

-- no entry ends it exactly if it is a combination
pub ends_generated : (list : List ℤ) (m : ℕ) (r : Option ℕ) (x out : List ℤ) (none : Bool) → m ≤ 32
    → Ends list m all_used x r out → is_some r ≡ not none → none ≡ generated list m x
ends_generated list m None x out true h e q = sym (short_generated list m x None h e.1)
ends_generated list m None x out false h e q = absurd (cc)
ends_generated list m (Some r) x out true h e q = absurd (cc)
ends_generated list m (Some r) x out false h e q =
    sym (short_generated list m x (Some record { at = r; reached = get_or out r (pos 0) }) h
    (falls_at list all_used x m r out _ e refl))

-- a vector of n + 1 words can be tested against all vectors of a list of at most 32
pub testable_all : (n : ℕ) (l x : List ℤ) → n ≤ 6 → count n l ≤ 32 → length x ≡ n + 1
    → Each 100000000 l → Each 100000000 x → Testable l (length l / (n + 1)) all_used x
unfolding all_used
testable_all n l x h m e a b = record {
  few = omega arith;
  whole = subst (λ (w : ℕ). length l / (n + 1) * w ≤ length l) (sym e) (div-mul-le_self (length l) (n + 1));
  flags = rw (add-one n) m;
  of_list = a;
  of_x = b;
}
