-- Laws of the loop that looks for a kept state that includes a list.
use mathlib.Core.Bool.{Bool, true, false, ◌||◌}
use mathlib.Core.List.{List, [], ◌∷◌, ◌++◌}
use mathlib.Core.Path.{◌≡◌, refl, sym, ap, ◌∙◌, subst}
use Prim.Native.Nat.{ℕ, zero, suc, ◌<◌}
use native.Mathlib.Decide.{dec_lt}
use native.Mathlib.Nat.{zero-add}
use native.Mathlib.Omega.{arith}
use lib.IntN.{ℤ}
use borrow.Author.Tests.{eq-eqb}
use Rattle.std.proofs.Common.{Err, Ok}
use Rattle.std.specs.Result.{result_unwrap_or}
use Rattle.std.specs.List.{IsAnyAnswer, range_with_len}
use Rattle.std.proofs.lemmas.List.FromFn.{length-range_with_len, get_or-range_with_len}
use Rattle.sets.specs.Types.{Told}
use Rattle.sets.specs.Calls.{IsIncluded}
use Rattle.sets.specs.Rules.{included_of}
use Rattle.sets.proofs.Asking.{included_settled, included_meets}
use Rattle.runs.specs.Rule.{State, is_yes, included, covered}
use Rattle.area.specs.Records.{state_in, states_in, covers_by}

-- ---- one state
yes_or_no : (told : Told) → result_unwrap_or told false ≡ is_yes told
yes_or_no (Ok b) = refl
yes_or_no (Err e) = refl

module _ (n q l : ℕ) (s : State) (e : l ≡ s.location) (inner : List ℤ) where
  -- it is in location q, and inclusion is asked of its list
  pub covers_asks : l ≡ q → (outer : List ℤ) → outer ≡ s.list → (told : Told) → IsIncluded n inner outer told
      → result_unwrap_or told false ≡ covers_by n q inner s
  unfolding included
  covers_asks h outer p told r = rw (← e, eq-eqb l q h)
      (yes_or_no told
      ∙ ap is_yes (included_settled n inner outer told (included_of n inner outer) r (included_meets n inner outer))
      ∙ ap (λ o. is_yes (included_of n inner o)) p)

-- ---- all of them
or_assoc : (a b c : Bool) → ((a || b) || c) ≡ (a || (b || c))
or_assoc true b c = refl
or_assoc false b c = refl

or_false : (a : Bool) → (a || false) ≡ a
or_false true = refl
or_false false = refl

or_true : (a : Bool) → (a || true) ≡ true
or_true true = refl
or_true false = refl

-- one state more to look at
covered_snoc : (n q : ℕ) (l : List ℤ) (kept : List State) (s : State)
    → covered n (kept ++ (s ∷ [])) q l ≡ (covered n kept q l || covers_by n q l s)
unfolding covered
covered_snoc n q l [] s = or_false (covers_by n q l s)
covered_snoc n q l (t ∷ kept) s = ap (λ b. covers_by n q l t || b) (covered_snoc n q l kept s)
    ∙ sym (or_assoc (covers_by n q l t) (covered n kept q l) (covers_by n q l s))

module _ (n q : ℕ) (l area : List ℤ) where
  abbrev covers : ℕ → Bool
  covers i = covers_by n q l (state_in n area i)

  states_snoc : (i : ℕ) → covered n (states_in n (suc i) area) q l ≡ (covered n (states_in n i area) q l || covers i)
  unfolding states_in
  states_snoc i = covered_snoc n q l (states_in n i area) (state_in n area i)

  -- none of the first m includes it
  none_of : (m : ℕ) → ((i : ℕ) → i < m → covers i ≡ false) → covered n (states_in n m area) q l ≡ false
  unfolding states_in covered
  none_of zero h = refl
  none_of (suc m) h =
      states_snoc m ∙ (ap (λ a. a || covers m) (none_of m (λ i b. h i (omega arith))) ∙ h m (omega arith))

  -- one of the first m does
  one_of : (i m : ℕ) → i < m → covers i ≡ true → covered n (states_in n m area) q l ≡ true
  one_of i zero h e = absurd (omega arith)
  one_of i (suc m) h e = states_snoc m ∙ last_or (λ a. one_of i m a e) (dec_lt i m)
    where
      last_or : (i < m → covered n (states_in n m area) q l ≡ true) → Dec (i < m)
          → (covered n (states_in n m area) q l || covers m) ≡ true
      last_or f (yes a) = ap (λ a. a || covers m) (f a)
      last_or f (no a) =
          let k : i ≡ m = omega (arith, a) in
          ap (λ b. covered n (states_in n m area) q l || b) (subst (λ (k : ℕ). covers k ≡ true) k e)
          ∙ or_true (covered n (states_in n m area) q l)

  -- so says the search through their numbers
  pub covered_as : (m : ℕ) (r : Bool) → IsAnyAnswer (λ i b. covers i ≡ b) (range_with_len 0 m) r
      → r ≡ covered n (states_in n m area) q l
  covered_as m true (i, b, e) =
      let w : i < m = omega (arith, length-range_with_len 0 m) in
      sym (one_of i m w (subst (λ (k : ℕ). covers k ≡ true) (get_or-range_with_len 0 m i 0 w ∙ zero-add i) (e 0)))
  covered_as m false h = sym (none_of m (λ i b. subst (λ (k : ℕ). covers k ≡ false)
      (get_or-range_with_len 0 m i 0 b ∙ zero-add i) (h i 0 (omega arith) (omega (arith, length-range_with_len 0 m)))))
