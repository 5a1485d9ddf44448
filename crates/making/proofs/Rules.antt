-- The rule of each making call meets its contract.
use Rattle.std.proofs.Common.{Err, Ok}
use mathlib.Core.Bool.{Bool, true, false, ◌&&◌, cond}
use mathlib.Core.List.{List, ◌++◌}
use mathlib.Core.Logic.{◌⊎◌, inl, inr, ◌↔◌}
use mathlib.Core.Path.{◌≡◌, refl, sym, subst}
use Prim.Native.Nat.{ℕ, suc, ◌*◌, ◌≤◌, ◌<◌}
use native.Mathlib.Omega.{arith}
use lib.Dec.{eqb, leb, ltb, ltb→lt, lt→ltb}
use lib.IntN.{ℤ}
use lib.ListN.{length, drop}
use Rattle.numbers.specs.Numbers.{Num, −∞, fin, ◌≼◌, at_most, nought, million, minus_million}
use Rattle.numbers.specs.Words.{number}
use Rattle.numbers.specs.Refusals.{refusal_number}
use Rattle.numbers.specs.declared.Refusal.TheVariants.{Shape, Entry, Arg, Range, Gens, Room, Bytes, Model}
use Rattle.numbers.proofs.Tells.{Tells, told, always, means, both, tells_every, tells_leb, tells_eqb}
use Rattle.numbers.proofs.NumberLaws.{tells_at_most, fin_low}
use Rattle.algebra.specs.Vectors.{Vector, entry, vector, vectors, words, IsPoint, IsRay, PointsAndRays}
use Rattle.algebra.specs.Sets.{Set, In, set_of}
use Rattle.algebra.specs.Wanted.{left, right, Intersected, Delayed, Reset, Hull}
use Rattle.algebra.specs.Working.{is_point, intersect_list, delay_list, reset_list, hull_list}
use Rattle.sets.specs.Types.{Checked}
use Rattle.sets.specs.Limits.{Clocks, Whole, ListLimits}
use Rattle.sets.specs.Demands.{MetBelow, Refuses, Input, Good as GoodInput}
use Rattle.sets.specs.Tests.{tight, words_ok, whole_ok, list_ok}
use Rattle.sets.specs.Rules.{checked}
use Rattle.sets.proofs.TestLaws.{tells_whole, tells_words, tells_list}
use Rattle.sets.proofs.Membership.{kinds}
use Rattle.making.specs.Limits.{Roomy, HalfLimits, ResetLimits, InRange}
use Rattle.making.specs.Answers.{given_by, making, Outcome, Makes}
use Rattle.making.specs.Calls.{intersect_input, Intersects, delay_input, Delays}
use Rattle.making.specs.Calls.{reset_input, Resets, hull_input, Hulls}
use Rattle.making.specs.Clean.{canonical_of}
use Rattle.making.specs.Rules.{Result, refused_by, entry_ok, range_ok, finished, make_after, shape_ok}
use Rattle.making.specs.Rules.{intersect_checked, intersect_of, delay_checked, delay_of, arg_checked}
use Rattle.making.specs.Rules.{reset_checked, reset_of, hull_checked, hull_of}
use Rattle.making.proofs.InputLaws.{tells_shape}
use Rattle.making.proofs.Existence.{canonical_made}
use Rattle.making.proofs.WorkingLists.{vectors_long}
use Rattle.making.proofs.Exact.{intersect_made, delay_made, reset_made, hull_made}

-- ---- the limits of a result
-- an entry of a point, or of a ray, is within the limits of a result
abbrev InEntry : Bool → Num → Type 0
InEntry true x = x ≼ million
InEntry false x = (x ≡ −∞) ⊎ (minus_million ≼ x)

tells_entry : (point : Bool) (x : Num) → Tells (entry_ok point x) (InEntry point x)
tells_entry true x = tells_at_most x million
tells_entry false −∞ = always (inl refl)
tells_entry false (fin z) = means inr from (tells_at_most minus_million (fin z))
  where
    from : (fin z ≡ −∞) ⊎ (minus_million ≼ fin z) → minus_million ≼ fin z
    from (inl e) = absurd (fin_low e)
    from (inr h) = h

-- the test of a result tells whether its entries are within the limits
pub tells_range : (n : ℕ) (R : List Vector) → PointsAndRays n R → Tells (range_ok n R) (InRange n R)
unfolding range_ok
tells_range n R k = means to from (tells_every _ (λ i. (j : ℕ) → j < n → At i j) (length R)
    (λ i l. tells_every _ (At i) n (λ j m. tells_entry (is_point (entry (vector R i) n)) (entry (vector R i) j))))
  where
    At : ℕ → ℕ → Type 0
    At i j = InEntry (is_point (entry (vector R i) n)) (entry (vector R i) j)

    to : ((i : ℕ) → i < length R → (j : ℕ) → j < n → At i j) → InRange n R
    to h = record {
      points = λ i j l m p. subst (λ x. InEntry (is_point x) (entry (vector R i) j)) p (h i l j m);
      rays = λ i j l m p. subst (λ x. InEntry (is_point x) (entry (vector R i) j)) p (h i l j m);
    }

    from : InRange n R → (i : ℕ) → i < length R → (j : ℕ) → j < n → At i j
    from r i l j m = by (k i l)
      where
        by : IsPoint n (vector R i) ⊎ IsRay n (vector R i) → At i j
        by (inl p) = subst (λ x. InEntry (is_point x) (entry (vector R i) j)) (sym p) (r.points i j l m p)
        by (inr p) = subst (λ x. InEntry (is_point x) (entry (vector R i) j)) (sym p) (r.rays i j l m p)

-- ---- demands in order
module _ (c : Input) (n : ℕ) (R : List Vector) where
  -- the demands whose number is below k, one by one
  met : (k : ℕ) → (1 < k → c.shape) → (2 < k → c.limits) → (3 < k → c.arg) → (4 < k → InRange n R)
      → (5 < k → length R ≤ 32) → MetBelow k (making c n R)
  met k s l a r g Shape b = s b
  met k s l a r g Entry b = l b
  met k s l a r g Arg b = a b
  met k s l a r g Range b = r b
  met k s l a r g Gens b = g b
  met k s l a r g Room b = tt
  met k s l a r g Bytes b = tt
  met k s l a r g Model b = tt

  -- the result allows its answer and area
  Allowed : List ℤ → Result → Type 0
  Allowed area r = Outcome (making c n R) R area (given_by r.made) r.area

  -- the words of R in front of what the area had behind them
  front : List ℤ → Result
  front area = record { made = Ok (length R); area = words R ++ drop (length (words R)) area }

  -- good input: the result R, or RANGE or GENS
  finished_allowed : GoodInput c → PointsAndRays n R → (area : List ℤ) → Allowed area (finished n R area)
  unfolding finished Allowed front
  finished_allowed g k area = range (range_ok n R) (tells_range n R k)
    where
      gens : InRange n R → (b : Bool) → Tells b (length R ≤ 32)
          → Allowed area (cond b (front area) (refused_by (Err Gens) area))
      gens r true t = record {
        met = met 9 (λ b. g.0) (λ b. g.1) (λ b. g.2) (λ b. r) (λ b. t.yes refl);
        count = refl;
        area = refl;
      }
      gens r false t = record {
        why = record {
          why = Gens;
          number = refl;
          broken = t.no refl;
          before = met 5 (λ b. g.0) (λ b. g.1) (λ b. g.2) (λ b. r) (λ b. absurd (omega arith));
        };
        area = refl;
      }

      range : (b : Bool) → Tells b (InRange n R)
          → Allowed area (cond b (cond (leb (length R) 32) (front area) (refused_by (Err Gens) area))
          (refused_by (Err Range) area))
      range true t = gens (t.yes refl) (leb (length R) 32) (tells_leb (length R) 32)
      range false t = record {
        why = record {
          why = Range;
          number = refl;
          broken = t.no refl;
          before = met 4 (λ b. g.0) (λ b. g.1) (λ b. g.2) (λ b. absurd (omega arith)) (λ b. absurd (omega arith));
        };
        area = refl;
      }

-- ---- the checks of the input
-- what the checks found: good input, or the refusal of the first demand that is not met, whatever the result
abbrev pub Found : Input → ℕ → Checked → Type 0
Found c n (Ok tt) = GoodInput c
Found c n (Err e) = (R : List Vector) → Refuses (making c n R) (refusal_number e)

-- SHAPE is asked first, then ENTRY, then ARG
found : (c : Input) (n : ℕ) (shape limits arg : Bool) → Tells shape c.shape → Tells limits c.limits
    → Tells arg c.arg → Found c n (arg_checked (checked shape limits) arg)
found c n false limits arg s l a = λ R. record {
  why = Shape;
  number = refl;
  broken = s.no refl;
  before = met c n R 1 (λ b. absurd (omega arith)) (λ b. absurd (omega arith)) (λ b. absurd (omega arith))
      (λ b. absurd (omega arith)) (λ b. absurd (omega arith));
}
found c n true false arg s l a = λ R. record {
  why = Entry;
  number = refl;
  broken = l.no refl;
  before = met c n R 2 (λ b. s.yes refl) (λ b. absurd (omega arith)) (λ b. absurd (omega arith))
      (λ b. absurd (omega arith)) (λ b. absurd (omega arith));
}
found c n true true false s l a = λ R. record {
  why = Arg;
  number = refl;
  broken = a.no refl;
  before = met c n R 3 (λ b. s.yes refl) (λ b. l.yes refl) (λ b. absurd (omega arith))
      (λ b. absurd (omega arith)) (λ b. absurd (omega arith));
}
found c n true true true s l a = (s.yes refl, l.yes refl, a.yes refl)

no_arg : (shape limits : Bool) → arg_checked (checked shape limits) true ≡ checked shape limits
no_arg false limits = refl
no_arg true false = refl
no_arg true true = refl

-- a call with no ARG of its own
found_plain : (c : Input) (n : ℕ) (shape limits : Bool) → Tells shape c.shape → Tells limits c.limits → c.arg
    → Found c n (checked shape limits)
found_plain c n shape limits s l a =
    subst (Found c n) (no_arg shape limits) (found c n shape limits true s l (always a))

-- the rule meets the contract, if the canonical list of its working list has the wanted set
makes_by : (c : Input) (n : ℕ) (wanted : Set) (area : List ℤ) (k : Checked) (L : List Vector) → Found c n k
    → (GoodInput c → (x : Vector) → In n (canonical_of n L) x ↔ wanted x)
    → Makes c n wanted area (make_after k n L area).made (make_after k n L area).area
makes_by c n wanted area k L f exact = record {
  R = R;
  canonical = λ g. canonical_made n L;
  exact = exact;
  outcome = by k f;
}
  where
    R : List Vector
    R = canonical_of n L

    by : (k : Checked) → Found c n k
        → Outcome (making c n R) R area (given_by (make_after k n L area).made) (make_after k n L area).area
    by (Ok tt) g = unfold Allowed in finished_allowed c n R g (canonical_made n L).kind area
    by (Err e) w = record { why = w R; area = refl }

-- ---- the four calls: what the checks of each find, and that its rule meets its contract
-- intersect
pub intersect_found : (n : ℕ) (l h area : List ℤ) → Found (intersect_input n l h area) n (intersect_checked n l h area)
unfolding intersect_checked
intersect_found n l h area = found_plain (intersect_input n l h area) n (shape_ok n l area && eqb (length h) (2 * suc n))
    (list_ok n l && words_ok true (2 * suc n) h) shape limits tt
  where
    shape : Tells (shape_ok n l area && eqb (length h) (2 * suc n))
        (Clocks n × Whole n l × (length h ≡ 2 * suc n) × Roomy n area)
    shape = means (λ h. (h.0.0, h.0.1, h.1, h.0.2)) (λ h. ((h.0, h.1, h.3), h.2))
        (both (shape_ok n l area) (eqb (length h) (2 * suc n)) (tells_shape n l area) (tells_eqb (length h) (2 * suc n)))

    limits : Tells (list_ok n l && words_ok true (2 * suc n) h) (ListLimits n l × HalfLimits n h)
    limits = both (list_ok n l) (words_ok true (2 * suc n) h) (tells_list n l) (tells_words true (2 * suc n) h)

-- the rule's answer and area are what intersect's contract allows
pub intersect_meets : (n : ℕ) (l h area : List ℤ)
    → Intersects n l h area (intersect_of n l h area).made (intersect_of n l h area).area
unfolding intersect_of
intersect_meets n l h area = makes_by (intersect_input n l h area) n
    (Intersected n (set_of n l) (left n h) (right n h)) area (intersect_checked n l h area)
    (intersect_list n (left n h) (right n h) (vectors n l)) (intersect_found n l h area)
    (λ g. intersect_made n (left n h) (right n h) (vectors n l) (kinds n l g.1.0))

-- delay
pub delay_found : (n : ℕ) (l area : List ℤ) → Found (delay_input n l area) n (delay_checked n l area)
unfolding delay_checked
delay_found n l area =
    found_plain (delay_input n l area) n (shape_ok n l area) (list_ok n l) (tells_shape n l area) (tells_list n l) tt

-- the rule's answer and area are what delay's contract allows
pub delay_meets : (n : ℕ) (l area : List ℤ) → Delays n l area (delay_of n l area).made (delay_of n l area).area
unfolding delay_of
delay_meets n l area = makes_by (delay_input n l area) n (Delayed (set_of n l)) area (delay_checked n l area)
    (delay_list n (vectors n l)) (delay_found n l area)
    (λ g. delay_made n (vectors n l) (kinds n l g.1) (vectors_long n l))

-- reset
pub reset_found : (n : ℕ) (l : List ℤ) (i : ℕ) (c : ℤ) (area : List ℤ)
    → Found (reset_input n l i c area) n (reset_checked n l i c area)
unfolding reset_checked delay_checked
reset_found n l i c area =
    found (reset_input n l i c area) n (shape_ok n l area) (list_ok n l) (ltb i n && tight (number c))
    (tells_shape n l area) (tells_list n l) arg
  where
    arg : Tells (ltb i n && tight (number c)) (ResetLimits n i c)
    arg = means (λ h. record { clock = h.0; value = record { low = h.1.0; high = h.1.1 } })
        (λ r. (r.clock, (r.value.low, r.value.high)))
        (both (ltb i n) (tight (number c)) (told (ltb i n) (ltb→lt i n) (lt→ltb i n))
        (both (at_most nought (number c)) (at_most (number c) million) (tells_at_most nought (number c))
        (tells_at_most (number c) million)))

-- the rule's answer and area are what reset's contract allows
pub reset_meets : (n : ℕ) (l : List ℤ) (i : ℕ) (c : ℤ) (area : List ℤ)
    → Resets n l i c area (reset_of n l i c area).made (reset_of n l i c area).area
unfolding reset_of
reset_meets n l i c area = makes_by (reset_input n l i c area) n (Reset (set_of n l) i c) area
    (reset_checked n l i c area) (reset_list n i c (vectors n l)) (reset_found n l i c area)
    (λ g. reset_made n (vectors n l) (kinds n l g.1) (vectors_long n l) i g.2.clock c)

-- hull
pub hull_found : (n : ℕ) (l m area : List ℤ) → Found (hull_input n l m area) n (hull_checked n l m area)
unfolding hull_checked
hull_found n l m area =
    found_plain (hull_input n l m area) n (shape_ok n l area && whole_ok n (length m)) (list_ok n l && list_ok n m)
    shape (both (list_ok n l) (list_ok n m) (tells_list n l) (tells_list n m)) tt
  where
    shape : Tells (shape_ok n l area && whole_ok n (length m)) (Clocks n × Whole n l × Whole n m × Roomy n area)
    shape = means (λ h. (h.0.0, h.0.1, h.1, h.0.2)) (λ h. ((h.0, h.1, h.3), h.2))
        (both (shape_ok n l area) (whole_ok n (length m)) (tells_shape n l area) (tells_whole n m))

-- the rule's answer and area are what hull's contract allows
pub hull_meets : (n : ℕ) (l m area : List ℤ) → Hulls n l m area (hull_of n l m area).made (hull_of n l m area).area
unfolding hull_of
hull_meets n l m area = makes_by (hull_input n l m area) n (Hull n (set_of n l) (set_of n m)) area
    (hull_checked n l m area) (hull_list n (vectors n l) (vectors n m)) (hull_found n l m area)
    (λ g. hull_made n (vectors n l) (vectors n m) (kinds n l g.1.0) (kinds n m g.1.1))
