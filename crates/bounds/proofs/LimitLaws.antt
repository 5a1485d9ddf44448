-- Laws of the limits, over the tests of the code.
use mathlib.Core.Bool.{Bool, true≢false, ◌&&◌}
use mathlib.Core.List.{List, [], ◌∷◌}
use mathlib.Core.Logic.{inl, inr}
use mathlib.Core.Path.{◌≡◌, sym, ap, ◌∙◌, subst}
use Prim.Native.Nat.{ℕ, ◌≤◌, ◌<◌}
use native.Mathlib.Omega.{arith}
use lib.Dec.{T}
use lib.IntN.{ℤ, pos, negsuc, nat_abs}
use lib.Pointwise.{pointwise}
use lib.Signed.{le_z, non_neg}
use denote.Enum.Declared.{tag_of}
use types.Run.{OneOf}
use mir.Syntax.{w32}
use mir.Val.{Fits, SFits, of_z}
use Rattle.std.specs.Ordering.{int_eq}
use Rattle.std.proofs.lemmas.Bool.Decides.{Decides-int_eq}
use Rattle.std.proofs.lemmas.Slice.Eq.{slice_eq-Decides}
use Rattle.numbers.specs.Integers.{hi, lo, ◌⊑◌}
use Rattle.numbers.specs.Numbers.{Num, −∞, fin, Within}
use Rattle.numbers.proofs.IntegerLaws.{zarith, hi_le, lo_le}
use Rattle.numbers.proofs.WordLaws.{is_mark_lem, not_mark}
use Rattle.numbers.proofs.Tells.{Tells, means, both}
use Rattle.codec.specs.Number.{folded}
use Rattle.bounds.specs.declared.Kind.{Kind}
use Rattle.bounds.specs.declared.Kind.TheVariants.{AtMost}
use Rattle.bounds.specs.declared.Bound.{Bound}
use Rattle.bounds.specs.contracts.Kind.{the_type}
use Rattle.bounds.specs.Limits.{EntryLimits, KindLimits, BoundLimits}
use Rattle.bounds.specs.Bounds.{no_half}
use Rattle.bounds.specs.Written.{entry_number, kind_bytes, bound_bytes}

-- the test a ≤ b
tells_most : (a b : ℤ) → Tells (le_z a b) (a ⊑ b)
tells_most a b = record { yes = λ e. record { le = omega (zarith, e) }; no = λ e w. omega (zarith, e, w.le) }

-- ---- an entry of a half-space
module _ (z : ℤ) (f : SFits w32 z) where
  -- the mark is in the limits of an entry
  pub mark_fits : of_z w32 z ≡ 2147483648 → EntryLimits z
  mark_fits e = rw (is_mark_lem f e).is (record { near = tt })

  module _ (h : of_z w32 z ≡ 2147483648 → ⊥) where
    near : EntryLimits z → (hi z ≤ 1000000) × (lo z ≤ 1000000)
    near w = (rw (not_mark f h).is at w).near

    -- another word is where it is from −1,000,000 to 1,000,000
    pub entry_within : {r : Bool} → r ≡ (le_z (negsuc 999999) z && le_z z (pos 1000000)) → Tells r (EntryLimits z)
    entry_within e =
        rw e
        (means inside (λ w. (record { le = omega (arith, near w) }, record { le = omega (arith, near w) }))
        (both _ _ (tells_most (negsuc 999999) z) (tells_most z (pos 1000000))))
      where
        inside : (negsuc 999999 ⊑ z) × (z ⊑ pos 1000000) → EntryLimits z
        inside (low, high) =
            rw (not_mark f h).is
            (record { near = (hi_le z 1000000 (omega (arith, high.le)), lo_le z 1000000 (omega (arith, low.le))) })

-- ---- no half-space
pub tells_none : (half : List ℤ) {r : Bool} → r ≡ pointwise int_eq half no_half → Tells r (half ≡ no_half)
tells_none half {r} e =
    let d = slice_eq-Decides Decides-int_eq half no_half r e in
    record { yes = d.0; no = λ q s. true≢false (sym (d.1 s) ∙ q) }

-- ---- a bound by its fields
pub same_bound : {a b : Kind} {x v y w : ℕ} {k l : ℤ} {g h : List ℤ} → a ≡ b → x ≡ v → y ≡ w → k ≡ l → g ≡ h
    → ◌≡◌ {A = Bound} (record { x = x; y = y; k = k; half = g; kind = a })
    (record { x = v; y = w; k = l; half = h; kind = b })
same_bound ea ex ey ek eh = cc

-- a kind that is not the first
pub not_at_most : (k : Kind) → OneOf (1 ∷ 2 ∷ 3 ∷ 4 ∷ []) (tag_of the_type k) → k ≡ AtMost → ⊥
not_at_most k h e = none (subst (λ (x : Kind). OneOf (1 ∷ 2 ∷ 3 ∷ 4 ∷ []) (tag_of the_type x)) e h)
  where
    none : OneOf (1 ∷ 2 ∷ 3 ∷ 4 ∷ []) 0 → ⊥
    none (inl q) = omega arith
    none (inr (inl q)) = omega arith
    none (inr (inr (inl q))) = omega arith
    none (inr (inr (inr q))) = omega arith

-- ---- numbers in their limits are written
pub abs_small : (z : ℤ) → negsuc 999999 ⊑ z → z ⊑ pos 1000000 → nat_abs z ≤ 1000000
abs_small (pos n) l h = omega (arith, h.le)
abs_small (negsuc n) l h = omega (arith, l.le)

-- a number within 1,000,000 is at most so large
pub near_small : (z : ℤ) → Within 1000000 (fin z) → nat_abs z ≤ 1000000
near_small (pos n) w = w.near.0
near_small (negsuc n) w = w.near.1

-- folded it is at most 2,000,000
pub fold_small : (z : ℤ) → nat_abs z ≤ 1000000 → folded z ≤ 2000000
fold_small (pos n) h = omega arith
fold_small (negsuc n) h = omega arith

-- k of kinds 0 and 1 is no negative number
pub not_negative : (z : ℤ) → pos 0 ⊑ z → z ⊑ pos 1000000 → T (non_neg z) × Fits w32 (nat_abs z) × (nat_abs z ≤ 1000000)
not_negative (pos n) l h = (tt, record { fits = omega (arith, h.le) }, omega (arith, h.le))
not_negative (negsuc n) l h = absurd (omega (arith, l.le))

-- an entry's number is below 2,000,002
pub entry_small : (x : Num) → Within 1000000 x → entry_number x < 2000002
entry_small −∞ w = omega arith
entry_small (fin z) w = omega (arith, fold_small z (near_small z w))

-- ---- a bound by its kind
module _ (n : ℕ) (b : Bound) (kind : Kind) (e : b.kind ≡ kind) where
  -- its limits are those of its kind
  pub fits_as : BoundLimits n b → KindLimits n b kind
  fits_as w = subst (KindLimits n b) e w.fits

  -- its bytes are those of its kind
  pub bytes_as : bound_bytes n b ≡ kind_bytes n b kind
  unfolding bound_bytes
  bytes_as = ap (kind_bytes n b) e
