-- Each contract of a making call settles the answer and the area: two outcomes that it allows are equal.
use Rattle.std.proofs.Common.{Err, Ok}
use mathlib.Core.List.{List, ◌++◌}
use mathlib.Core.Path.{◌≡◌, sym, ◌∙◌, ap, subst}
use Prim.Native.Nat.{ℕ, ◌≤◌, ◌<◌}
use native.Mathlib.Omega.{arith}
use lib.IntN.{ℤ}
use lib.ListN.{length, drop}
use Rattle.numbers.specs.Refusals.{refusal_number}
use Rattle.numbers.specs.declared.Refusal.{Refusal}
use Rattle.numbers.specs.declared.Refusal.TheVariants.{Shape, Entry, Arg, Range, Gens, Room, Bytes, Model}
use Rattle.numbers.proofs.RefusalLaws.{number_inj, number_range}
use Rattle.algebra.specs.Vectors.{Vector, words}
use Rattle.algebra.specs.Sets.{Set, set_of}
use Rattle.algebra.specs.Wanted.{left, right, Intersected, Delayed, Reset, Hull}
use Rattle.algebra.proofs.CanonicalLists.{unique}
use Rattle.sets.specs.Demands.{MetBelow, Refuses, Input, Good}
use Rattle.making.specs.Types.{Made}
use Rattle.making.specs.Limits.{InRange}
use Rattle.making.specs.Answers.{given_by, making, Outcome, Makes}
use Rattle.making.specs.Calls.{intersect_input, Intersects, delay_input, Delays}
use Rattle.making.specs.Calls.{reset_input, Resets, hull_input, Hulls}

module _ (c : Input) (n : ℕ) where
  good : (k : ℕ) (L : List Vector) → 4 ≤ k → MetBelow k (making c n L) → Good c
  good k L h m = (m Shape (omega arith), m Entry (omega arith), m Arg (omega arith))

  -- a demand on one canonical list is the demand on the other
  carry : (L K : List Vector) (e : Refusal) → (Good c → K ≡ L) → MetBelow (refusal_number e) (making c n L)
      → making c n K e → making c n L e
  carry L K Shape h m d = d
  carry L K Entry h m d = d
  carry L K Arg h m d = d
  carry L K Range h m d = subst (λ L. InRange n L) (h (good 4 L (omega arith) m)) d
  carry L K Gens h m d = subst (λ L. length L ≤ 32) (h (good 5 L (omega arith) m)) d
  carry L K Room h m d = tt
  carry L K Bytes h m d = tt
  carry L K Model h m d = tt

  -- the refusal that comes first for one list comes no later for the other
  not_before : (L K : List Vector) (k l : ℕ) → (Good c → L ≡ K) → Refuses (making c n L) k
      → Refuses (making c n K) l → k < l → ⊥
  not_before L K k l h p q b = p.broken (carry L K p.why (λ g. sym (h g))
      (subst (λ i. MetBelow i (making c n L)) p.number p.before)
      (q.before p.why (subst (λ i. i < l) p.number b)))

  first_of : (L K : List Vector) (k l : ℕ) → (Good c → L ≡ K) → Refuses (making c n L) k
      → Refuses (making c n K) l → k ≡ l
  first_of L K k l h p q =
      omega (arith, not_before L K k l h p q, not_before K L l k (λ g. sym (h g)) q p)

  -- what met all demands is not refused
  all_met : (L K : List Vector) (k : ℕ) → (Good c → L ≡ K) → MetBelow 9 (making c n L)
      → ¬ Refuses (making c n K) k
  all_met L K k h m q = q.broken (subst (λ L. making c n L q.why) (h (good 9 L (omega arith) m))
      (m q.why (omega (arith, number_range q.why))))

  outcomes : (L K : List Vector) → (Good c → L ≡ K) → (area : List ℤ) (a b : Made) (after after' : List ℤ)
      → Outcome (making c n L) L area (given_by a) after → Outcome (making c n K) K area (given_by b) after'
      → (a ≡ b) × (after ≡ after')
  outcomes L K h area (Ok j) (Ok k) after after' p q =
      let e = h (good 9 L (omega arith) p.met) in (
        ap Ok (p.count ∙ ap (λ L. length L) e ∙ sym q.count),
        p.area ∙ ap (λ L. words L ++ drop (length (words L)) area) e ∙ sym q.area,
      )
  outcomes L K h area (Ok j) (Err f) after after' p q =
      absurd (all_met L K (refusal_number f) h p.met q.why)
  outcomes L K h area (Err e) (Ok k) after after' p q =
      absurd (all_met K L (refusal_number e) (λ g. sym (h g)) q.met p.why)
  outcomes L K h area (Err e) (Err f) after after' p q = (
    ap Err (number_inj e f (first_of L K (refusal_number e) (refusal_number f) h p.why q.why)),
    p.area ∙ sym q.area,
  )

  -- two answers, and two areas, that a contract allows are equal
  pub makes_settled : (wanted : Set) (area : List ℤ) (a b : Made) (after after' : List ℤ)
      → Makes c n wanted area a after → Makes c n wanted area b after' → (a ≡ b) × (after ≡ after')
  makes_settled wanted area a b after after' p q =
      outcomes p.R q.R same area a b after after' p.outcome q.outcome
    where
      same : Good c → p.R ≡ q.R
      same g = unique n p.R q.R (p.canonical g) (q.canonical g)
          (λ x. (λ i. (q.exact g x).1 ((p.exact g x).0 i), λ i. (p.exact g x).1 ((q.exact g x).0 i)))

-- so it is of intersect
pub intersect_settled : (n : ℕ) (l h area : List ℤ) (a b : Made) (after after' : List ℤ)
    → Intersects n l h area a after → Intersects n l h area b after' → (a ≡ b) × (after ≡ after')
intersect_settled n l h area =
    makes_settled (intersect_input n l h area) n (Intersected n (set_of n l) (left n h) (right n h)) area

-- of delay
pub delay_settled : (n : ℕ) (l area : List ℤ) (a b : Made) (after after' : List ℤ)
    → Delays n l area a after → Delays n l area b after' → (a ≡ b) × (after ≡ after')
delay_settled n l area = makes_settled (delay_input n l area) n (Delayed (set_of n l)) area

-- of reset
pub reset_settled : (n : ℕ) (l : List ℤ) (i : ℕ) (c : ℤ) (area : List ℤ) (a b : Made) (after after' : List ℤ)
    → Resets n l i c area a after → Resets n l i c area b after' → (a ≡ b) × (after ≡ after')
reset_settled n l i c area = makes_settled (reset_input n l i c area) n (Reset (set_of n l) i c) area

-- and of hull
pub hull_settled : (n : ℕ) (l m area : List ℤ) (a b : Made) (after after' : List ℤ)
    → Hulls n l m area a after → Hulls n l m area b after' → (a ≡ b) × (after ≡ after')
hull_settled n l m area = makes_settled (hull_input n l m area) n (Hull n (set_of n l) (set_of n m)) area
