-- The round trip of bounds and of lists of bounds.
use mathlib.Core.Bool.{Bool, true, false, cond}
use mathlib.Core.List.{List, ◌++◌, append_assoc}
use mathlib.Core.Path.{◌≡◌, refl, sym, ap, ◌∙◌, subst}
use Prim.Native.Nat.{ℕ, zero, suc, ◌≤◌, ◌<◌}
use native.Mathlib.Omega.{arith}
use borrow.Author.Tests.{ne_eqb, eqb-false}
use lib.Dec.{eqb}
use lib.IntN.{ℤ, pos, negsuc, nat_abs}
use lib.ListN.{take}
use Rattle.numbers.specs.Integers.{◌⊑◌}
use Rattle.codec.specs.Number.{got, bytes_of, folded, unfolded}
use Rattle.codec.specs.Form.{done, ask, fault, read_in, array}
use Rattle.codec.specs.Arrays.{AreBytes, Packed, each}
use Rattle.codec.proofs.FoldLaws.{fold_unfold, unfold_fold}
use Rattle.codec.proofs.FormLaws.{Finds, finished, after}
use Rattle.codec.proofs.FormTrip.{Codes, same_got, numbered, ask_there, parted, bytes_behind, codes_array}
use Rattle.bounds.specs.declared.Kind.{Kind}
use Rattle.bounds.specs.declared.Kind.TheVariants.{AtMost, AtLeast, DifferAtMost, DifferAtLeast, HalfSpace}
use Rattle.bounds.specs.declared.Bound.{Bound}
use Rattle.bounds.specs.declared.Bounds.{Bounds}
use Rattle.bounds.specs.Bounds.{
  kind_of,
  entry_count,
  no_half,
  no_bound,
  entry_form,
  plain_form,
  differ_form,
  half_form,
  kind_form,
  bound_form,
  bounds_form,
}
use Rattle.bounds.specs.Limits.{
  PlainLimits,
  DifferLimits,
  HalfLimits,
  EntryLimits,
  KindLimits,
  BoundLimits,
  BoundsLimits,
}
use Rattle.bounds.specs.Written.{entry_bytes, kind_bytes, bound_bytes, bounds_bytes}
use Rattle.bounds.proofs.LimitLaws.{same_bound, abs_small, fold_small, not_negative, bytes_as}
use Rattle.bounds.proofs.EntryTrip.{unfold_small, codes_entry}

-- ---- integers in limits
pub nonneg : (k : ℤ) → pos 0 ⊑ k → pos (nat_abs k) ≡ k
nonneg (pos n) h = refl
nonneg (negsuc n) h = absurd (omega (arith, h.le))

small_⊑ : (z : ℤ) → nat_abs z ≤ 1000000 → (negsuc 999999 ⊑ z) × (z ⊑ pos 1000000)
small_⊑ (pos n) h = (record { le = omega arith }, record { le = omega arith })
small_⊑ (negsuc n) h = (record { le = omega arith }, record { le = omega arith })

-- ---- what stands behind the kind's number
module _ (n : ℕ) (small : n ≤ 6) (kind : Kind) where
  plain_there : (b : Bound) (t : List ℕ) → b.kind ≡ kind → PlainLimits n b
      → Finds (plain_form n kind) (bytes_of b.x ++ (bytes_of (nat_abs b.k) ++ t)) (got b t)
  unfolding plain_form
  plain_there b t e w =
      let fit = not_negative b.k w.least w.most in
      let limit : nat_abs b.k < 1000001 = omega (arith, fit.2) in
      let same = same_bound (sym e) refl (sym w.no_y) (nonneg b.k w.least) (sym w.no_entries) in
      subst (λ (c : Bound). Finds (plain_form n kind) (bytes_of b.x ++ (bytes_of (nat_abs b.k) ++ t)) (got c t))
      same
      (ask_there b.x w.clock (omega (arith, w.clock)) (ask_there (nat_abs b.k) limit (omega arith) finished))

  plain_back : (b : Bound) (s t : List ℕ) → AreBytes s → Finds (plain_form n kind) s (got b t)
      → (b.kind ≡ kind) × PlainLimits n b × (s ≡ bytes_of b.x ++ (bytes_of (nat_abs b.k) ++ t))
  unfolding plain_form read_in
  plain_back b s t hs f =
      let x = numbered hs f in
      let hx = bytes_behind (bytes_of x.number) x.rest hs x.stood.whole in
      let k = numbered hx x.then in
      let same = same_got k.then.is in
      let fit = small_⊑ (pos k.number) (omega (arith, k.limit)) in
      let limits : PlainLimits n (record { x = x.number; y = 0; k = pos k.number; half = no_half; kind = kind }) =
      record { clock = x.limit; least = record { le = omega arith }; most = fit.1; no_y = refl; no_entries = refl } in
      let bytes : s ≡ bytes_of x.number ++ (bytes_of k.number ++ t) =
      x.stood.whole
      ∙ ap (◌++◌ (bytes_of x.number)) (k.stood.whole ∙ ap (◌++◌ (bytes_of k.number)) same.1) in
      subst
      (λ (c : Bound). (c.kind ≡ kind) × PlainLimits n c × (s ≡ bytes_of c.x ++ (bytes_of (nat_abs c.k) ++ t)))
      same.0 (refl, limits, bytes)

  differ_there : (b : Bound) (t : List ℕ) → b.kind ≡ kind → DifferLimits n b
      → Finds (differ_form n kind) (bytes_of b.x ++ (bytes_of b.y ++ (bytes_of (folded b.k) ++ t))) (got b t)
  unfolding differ_form
  differ_there b t e w =
      let limit : folded b.k < 2000001 = omega (arith, fold_small b.k (abs_small b.k w.least w.most))
      in
      let same = same_bound (sym e) refl refl (fold_unfold b.k) (sym w.no_entries) in
      subst
      (λ (c : Bound).
      Finds (differ_form n kind) (bytes_of b.x ++ (bytes_of b.y ++ (bytes_of (folded b.k) ++ t))) (got c t))
      same
      (ask_there b.x w.clock (omega (arith, w.clock))
      (ask_there b.y w.other (omega (arith, w.other))
      (rw (ne_eqb _ _ w.differ) (ask_there (folded b.k) limit (omega arith) finished))))

  abbrev differ : ℕ → ℕ → ℕ → Bound
  differ x y v = record { x = x; y = y; k = unfolded v; half = no_half; kind = kind }

  -- b is such a bound, and the bytes are its
  abbrev Differs : Bound → List ℕ → List ℕ → Type 0
  Differs b s t =
      (b.kind ≡ kind) × DifferLimits n b × (s ≡ bytes_of b.x ++ (bytes_of b.y ++ (bytes_of (folded b.k) ++ t)))

  differ_last : (x y : ℕ) (b : Bound) (s u t : List ℕ) → x < n → y < n → AreBytes u
      → s ≡ bytes_of x ++ (bytes_of y ++ u)
      → (p : Bool) → eqb x y ≡ p → Finds (cond p fault (ask 2000001 (λ v. done (differ x y v)))) u (got b t)
      → Differs b s t
  unfolding read_in
  differ_last x y b s u t lx ly hu e true q f = absurd (let g = f.is in let z : ◌≡◌ {A = ℕ} 0 1 = cc in omega arith)
  differ_last x y b s u t lx ly hu e false q f =
      let v = numbered hu f in
      let same = same_got v.then.is in
      let fit = small_⊑ (unfolded v.number) (unfold_small v.number (omega (arith, v.limit))) in
      let limits : DifferLimits n (differ x y v.number) =
      record { clock = lx; other = ly; differ = eqb-false x y q; least = fit.0; most = fit.1; no_entries = refl } in
      let last : u ≡ bytes_of (folded (unfolded v.number)) ++ t =
      v.stood.whole ∙ ap (◌++◌ (bytes_of v.number)) same.1
      ∙ ap (λ (w : ℕ). bytes_of w ++ t) (sym (unfold_fold v.number)) in
      subst (λ (c : Bound). Differs c s t) same.0
      (refl, limits, e ∙ ap (λ (r : List ℕ). bytes_of x ++ (bytes_of y ++ r)) last)

  differ_back : (b : Bound) (s t : List ℕ) → AreBytes s → Finds (differ_form n kind) s (got b t) → Differs b s t
  unfolding differ_form
  differ_back b s t hs f =
      let x = numbered hs f in
      let hx = bytes_behind (bytes_of x.number) x.rest hs x.stood.whole in
      let y = numbered hx x.then in
      let hy = bytes_behind (bytes_of y.number) y.rest hx y.stood.whole in
      let whole = x.stood.whole ∙ ap (◌++◌ (bytes_of x.number)) y.stood.whole in
      differ_last x.number y.number b s y.rest t x.limit y.limit hy whole
      (eqb x.number y.number) refl y.then

-- kind 4
module _ (n : ℕ) (small : n ≤ 6) where
  entries : Codes (array 14 (pos 0) (entry_count n) entry_form) (Packed EntryLimits (pos 0) 14 (entry_count n))
      (λ h. each entry_bytes (take (entry_count n) h))
  entries = codes_array codes_entry 14 (entry_count n) (pos 0) (omega arith)

  half_there : (b : Bound) (t : List ℕ) → b.kind ≡ HalfSpace → HalfLimits n b
      → Finds (half_form n) (each entry_bytes (take (entry_count n) b.half) ++ t) (got b t)
  unfolding half_form
  half_there b t e w =
      let same = same_bound (sym e) (sym w.no_x) (sym w.no_y) (sym w.no_k) refl in
      subst (λ (c : Bound). Finds (half_form n) (each entry_bytes (take (entry_count n) b.half) ++ t) (got c t)) same
      (after (array 14 (pos 0) (entry_count n) entry_form) _ (entries.there b.half t w.entries) finished)

  half_back : (b : Bound) (s t : List ℕ) → AreBytes s → Finds (half_form n) s (got b t)
      → (b.kind ≡ HalfSpace) × HalfLimits n b × (s ≡ each entry_bytes (take (entry_count n) b.half) ++ t)
  unfolding half_form read_in
  half_back b s t hs f =
      let two = parted (array 14 (pos 0) (entry_count n) entry_form) _ f in
      let same = same_got two.second.is in
      let back = entries.back two.part s two.rest hs two.first in
      let limits : HalfLimits n (record { x = 0; y = 0; k = pos 0; half = two.part; kind = HalfSpace }) =
      record { no_x = refl; no_y = refl; no_k = refl; entries = back.0 } in
      let bytes = back.1 ∙ ap (◌++◌ (each entry_bytes (take (entry_count n) two.part))) same.1 in
      subst
      (λ (c : Bound).
      (c.kind ≡ HalfSpace) × HalfLimits n c × (s ≡ each entry_bytes (take (entry_count n) c.half) ++ t))
      same.0 (refl, limits, bytes)

  -- ---- a bound
  there : (b : Bound) (t : List ℕ) (kind : Kind) → b.kind ≡ kind → KindLimits n b kind
      → Finds (bound_form n) (kind_bytes n b kind ++ t) (got b t)
  unfolding bound_form
  there b t AtMost e w =
      simp append_assoc (ask_there 0 (omega arith) (omega arith) (plain_there n small AtMost b t e w))
  there b t AtLeast e w =
      simp append_assoc (ask_there 1 (omega arith) (omega arith) (plain_there n small AtLeast b t e w))
  there b t DifferAtMost e w =
      simp append_assoc (ask_there 2 (omega arith) (omega arith) (differ_there n small DifferAtMost b t e w))
  there b t DifferAtLeast e w =
      simp append_assoc (ask_there 3 (omega arith) (omega arith) (differ_there n small DifferAtLeast b t e w))
  there b t HalfSpace e w = rw append_assoc (ask_there 4 (omega arith) (omega arith) (half_there b t e w))

  -- what was read with its kind known
  known : (b : Bound) (s t : List ℕ) (kind : Kind) → (b.kind ≡ kind) × KindLimits n b kind ×
      (s ≡ kind_bytes n b kind ++ t)
      → BoundLimits n b × (s ≡ bound_bytes n b ++ t)
  known b s t kind (e, w, q) = (
    record { fits = subst (KindLimits n b) (sym e) w },
    q ∙ ap (λ (xs : List ℕ). xs ++ t) (sym (bytes_as n b kind e)),
  )

  back : (v : ℕ) (b : Bound) (s u t : List ℕ) → v < 5 → AreBytes u → s ≡ bytes_of v ++ u
      → Finds (kind_form n (kind_of v)) u (got b t) → BoundLimits n b × (s ≡ bound_bytes n b ++ t)
  back zero b s u t l hu e f =
      let w = plain_back n small AtMost b u t hu f in
      known b s t AtMost (w.0, w.1, simp append_assoc (e ∙ ap (◌++◌ (bytes_of 0)) w.2))
  back (suc zero) b s u t l hu e f =
      let w = plain_back n small AtLeast b u t hu f in
      known b s t AtLeast (w.0, w.1, simp append_assoc (e ∙ ap (◌++◌ (bytes_of 1)) w.2))
  back (suc (suc zero)) b s u t l hu e f =
      let w = differ_back n small DifferAtMost b u t hu f in
      known b s t DifferAtMost (w.0, w.1, simp append_assoc (e ∙ ap (◌++◌ (bytes_of 2)) w.2))
  back (suc (suc (suc zero))) b s u t l hu e f =
      let w = differ_back n small DifferAtLeast b u t hu f in
      known b s t DifferAtLeast (w.0, w.1, simp append_assoc (e ∙ ap (◌++◌ (bytes_of 3)) w.2))
  back (suc (suc (suc (suc zero)))) b s u t l hu e f =
      let w = half_back b u t hu f in
      known b s t HalfSpace (w.0, w.1, simp append_assoc (e ∙ ap (◌++◌ (bytes_of 4)) w.2))
  back (suc (suc (suc (suc (suc v))))) b s u t l hu e f = absurd (omega arith)

  -- a bound is read back just as it is written
  pub codes_bound : Codes (bound_form n) (BoundLimits n) (bound_bytes n)
  unfolding bound_form bound_bytes
  codes_bound =
      record {
        there = λ b t w. there b t b.kind refl w.fits;
        back =
            λ b s t hs f.
            let v = numbered hs f in
            back v.number b s v.rest t v.limit
            (bytes_behind (bytes_of v.number) v.rest hs v.stood.whole) v.stood.whole v.then;
      }

  -- a list is read back just as it is written
  pub codes_bounds : Codes (bounds_form n) (BoundsLimits n) (bounds_bytes n)
  unfolding bounds_form bounds_bytes read_in
  codes_bounds = record { there = to; back = from }
    where
      items : (count : ℕ) → count ≤ 8
          → Codes (array 8 no_bound count (bound_form n)) (Packed (BoundLimits n) no_bound 8 count)
          (λ xs. each (bound_bytes n) (take count xs))
      items count l = codes_array codes_bound 8 count no_bound l

      to : (bs : Bounds) (t : List ℕ) → BoundsLimits n bs → Finds (bounds_form n) (bounds_bytes n bs ++ t) (got bs t)
      to bs t w =
          rw append_assoc
          (ask_there bs.count (omega (arith, w.few)) (omega (arith, w.few))
          (after (array 8 no_bound bs.count (bound_form n)) _ ((items bs.count w.few).there bs.items t w)
          finished))

      from : (bs : Bounds) (s t : List ℕ) → AreBytes s → Finds (bounds_form n) s (got bs t)
          → BoundsLimits n bs × (s ≡ bounds_bytes n bs ++ t)
      from bs s t hs f =
          let v = numbered hs f in
          let hu = bytes_behind (bytes_of v.number) v.rest hs v.stood.whole in
          let two = parted (array 8 no_bound v.number (bound_form n)) _ v.then in
          let same = same_got two.second.is in
          let w = (items v.number (omega (arith, v.limit))).back two.part v.rest two.rest hu
          two.first in
          let bytes =
          v.stood.whole
          ∙ ap (◌++◌ (bytes_of v.number))
          (w.1 ∙ ap (◌++◌ (each (bound_bytes n) (take v.number two.part))) same.1)
          ∙ sym (append_assoc (bytes_of v.number) (each (bound_bytes n) (take v.number two.part)) t) in
          subst (λ (c : Bounds). BoundsLimits n c × (s ≡ bounds_bytes n c ++ t)) same.0 (w.0, bytes)
