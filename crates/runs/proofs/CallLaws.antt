-- The steps of the walk are the calls: on good input each call gives the step's list or its refusal.
use Rattle.std.proofs.Common.{Err, Ok}
use mathlib.Core.Bool.{Bool, true, false, cond}
use mathlib.Core.List.{List, ◌++◌}
use mathlib.Core.Path.{◌≡◌, refl, sym, ◌∙◌, ap}
use Prim.Native.Nat.{ℕ, suc, ◌*◌, ◌<◌}
use native.Mathlib.Omega.{arith}
use lib.Dec.{leb, ltb, lt→ltb}
use lib.IntN.{ℤ, pos}
use lib.ListN.{length, drop}
use Rattle.numbers.specs.Words.{number}
use Rattle.numbers.specs.declared.Refusal.TheVariants.{Range, Gens}
use Rattle.numbers.proofs.Tells.{passes, tells_leb, tells_eqb}
use Rattle.algebra.specs.Vectors.{Vector, vectors, words}
use Rattle.algebra.specs.Wanted.{left, right}
use Rattle.algebra.specs.Working.{intersect_list, delay_list, reset_list}
use Rattle.sets.specs.Limits.{Clocks, Whole}
use Rattle.sets.specs.Demands.{Good as GoodInput}
use Rattle.sets.proofs.TestLaws.{tells_clocks, tells_whole, tells_words, tells_list}
use Rattle.making.specs.Limits.{Roomy}
use Rattle.making.specs.Calls.{intersect_input, delay_input, reset_input}
use Rattle.making.specs.Clean.{canonical_of}
use Rattle.making.specs.Rules.{Result, refused_by, range_ok, finished, make_after, shape_ok}
use Rattle.making.specs.Rules.{intersect_checked, intersect_of, delay_checked, delay_of, reset_checked, reset_of}
use Rattle.making.proofs.Existence.{canonical_made}
use Rattle.runs.specs.Models.{Bound}
use Rattle.runs.specs.ModelLimits.{BoundLimits}
use Rattle.runs.specs.Table.{half_of}
use Rattle.runs.specs.Rule.{made, stop, fitted, cut, delayed, reset_to0}
use Rattle.runs.specs.Shown.{shown}
use Rattle.runs.proofs.TableLaws.{half_long, half_limits}
use Rattle.runs.proofs.ProperLists.{Proper, words_count}

finished_shown : (n : ℕ) (L : List Vector) (area : List ℤ)
    → finished n (canonical_of n L) area ≡ shown n area (fitted n (canonical_of n L))
unfolding finished fitted
finished_shown n L area = by (range_ok n R) (leb (length R) 32)
  where
    R : List Vector
    R = canonical_of n L

    full : Result
    full = record { made = Ok (length R); area = words R ++ drop (length (words R)) area }

    by : (a b : Bool)
        → cond a (cond b full (refused_by (Err Gens) area)) (refused_by (Err Range) area)
        ≡ shown n area (cond a (cond b (made (words R)) (stop Gens)) (stop Range))
    by true true = ap (λ k. record { made = Ok k; area = words R ++ drop (length (words R)) area })
        (sym (words_count n R (canonical_made n L).long))
    by true false = refl
    by false b = refl

-- the checks of good input find it good
shape_ok_lem : (n : ℕ) (l area : List ℤ) → Clocks n → Whole n l → Roomy n area → shape_ok n l area ≡ true
unfolding shape_ok
shape_ok_lem n l area a b c =
    rw (passes (tells_clocks n) a, passes (tells_whole n l) b, passes (tells_leb (32 * suc n) (length area)) c)

cut_checked : (n : ℕ) (l h area : List ℤ) → GoodInput (intersect_input n l h area) → intersect_checked n l h area ≡ Ok tt
unfolding intersect_checked
cut_checked n l h area ((a, b, c, d), (e, f), g) =
    rw (
      shape_ok_lem n l area a b d,
      passes (tells_eqb (length h) (2 * suc n)) c,
      passes (tells_list n l) e,
      passes (tells_words true (2 * suc n) h) f,
    )

delay_checked_lem : (n : ℕ) (l area : List ℤ) → GoodInput (delay_input n l area) → delay_checked n l area ≡ Ok tt
unfolding delay_checked
delay_checked_lem n l area ((a, b, c), e, g) = rw (shape_ok_lem n l area a b c, passes (tells_list n l) e)

reset_checked_lem : (n : ℕ) (l : List ℤ) (i : ℕ) (area : List ℤ) → GoodInput (reset_input n l i (pos 0) area)
    → reset_checked n l i (pos 0) area ≡ Ok tt
unfolding reset_checked number
reset_checked_lem n l i area (s, e, g) = rw (delay_checked_lem n l area (s, e, tt), by (ltb i n) (lt→ltb i n g.clock))
  where
    by : (b : Bool) → lib.Dec.T b → b ≡ true
    by true t = refl
    by false t = absurd t

-- intersect gives what `cut` gives
pub cut_call : (n : ℕ) (l h area : List ℤ) → GoodInput (intersect_input n l h area)
    → intersect_of n l h area ≡ shown n area (cut n h l)
unfolding intersect_of cut
cut_call n l h area g = ap (λ k. make_after k n (intersect_list n (left n h) (right n h) (vectors n l)) area)
    (cut_checked n l h area g) ∙ finished_shown n (intersect_list n (left n h) (right n h) (vectors n l)) area

-- delay gives what `delayed` gives
pub delayed_call : (n : ℕ) (l area : List ℤ) → GoodInput (delay_input n l area)
    → delay_of n l area ≡ shown n area (delayed n l)
unfolding delay_of delayed
delayed_call n l area g = ap (λ k. make_after k n (delay_list n (vectors n l)) area) (delay_checked_lem n l area g)
    ∙ finished_shown n (delay_list n (vectors n l)) area

-- reset to 0 gives what `reset_to0` gives
pub reset_call : (n : ℕ) (l : List ℤ) (i : ℕ) (area : List ℤ) → GoodInput (reset_input n l i (pos 0) area)
    → reset_of n l i (pos 0) area ≡ shown n area (reset_to0 n i l)
unfolding reset_of reset_to0
reset_call n l i area g =
    ap (λ k. make_after k n (reset_list n i (pos 0) (vectors n l)) area) (reset_checked_lem n l i area g)
    ∙ finished_shown n (reset_list n i (pos 0) (vectors n l)) area

-- ---- the walk's input is good
module _ (n : ℕ) (clocks : Clocks n) (l area : List ℤ) (p : Proper n l) (roomy : Roomy n area) where
  -- a bound's half-space and a proper list
  pub cut_good : (b : Bound) → BoundLimits n b → GoodInput (intersect_input n l (half_of n b) area)
  cut_good b h = ((clocks, p.whole, half_long n b h, roomy), (p.limits, half_limits n b h), tt)

  -- a proper list is good input of `delay`
  pub delayed_good : GoodInput (delay_input n l area)
  delayed_good = ((clocks, p.whole, roomy), p.limits, tt)

  -- and of `reset` of a clock to 0
  pub reset_good : (i : ℕ) → i < n → GoodInput (reset_input n l i (pos 0) area)
  unfolding number
  reset_good i h = (
    (clocks, p.whole, roomy),
    p.limits,
    record {
      clock = h;
      value = record { low = record { le = omega arith }; high = record { le = omega arith } };
    },
  )
