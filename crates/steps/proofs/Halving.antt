-- The table of the code makes the half-spaces of the rule's table.
use mathlib.Core.List.{List, [], ◌∷◌, ◌++◌, map, append-nil}
use mathlib.Core.Path.{◌≡◌, refl, sym, ◌∙◌, ap, subst}
use Prim.Native.Nat.{ℕ, zero, suc, ◌*◌, ◌≤◌, ◌<◌}
use native.Mathlib.Numerals.{add-one}
use native.Mathlib.Omega.{arith}
use lib.IntN.{ℤ, pos}
use lib.ListN.{length, set, take, drop, replicate, length-set}
use lib.Seq.{take-set-lt}
use Rattle.numbers.specs.Words.{mark, number, word}
use Rattle.algebra.specs.Vectors.{Vector, words}
use Rattle.sorting.proofs.Held.{held_cons, held_none, words_held}
use Rattle.bounds.specs.declared.Kind.{Kind}
use Rattle.bounds.specs.declared.Kind.TheVariants.{HalfSpace}
use Rattle.bounds.specs.declared.Bound.{Bound}
use Rattle.bounds.specs.Limits.{HalfLimits}
use Rattle.model.specs.Plain.{bound_by}
use Rattle.runs.specs.Table.{Slot as RuleSlot, Row as RuleRow, ax, ay, b, cx, cy, d, place, row_words, half_of}
use Rattle.steps.specs.Rows.{Halves}

-- ---- by a row
-- a slot stands among the 2(n + 1) words
place_inside : (n x y : ℕ) (s : RuleSlot) → x < n → y < n → place n x y s < 2 * suc n
place_inside n x y ax h l = omega arith
place_inside n x y ay h l = omega arith
place_inside n x y b h l = omega arith
place_inside n x y cx h l = omega arith
place_inside n x y cy h l = omega arith
place_inside n x y d h l = omega arith

take_same : (m k : ℕ) (z : ℤ) → m ≤ k → take m (replicate k z) ≡ replicate m z
take_same zero k z h = refl
take_same (suc m) zero z h = absurd (omega arith)
take_same (suc m) (suc k) z h = ap (λ (l : List ℤ). z ∷ l) (take_same m k z (omega arith))

module _ (n x y : ℕ) (k : ℤ) (few : n ≤ 6) (h : x < n) (l : y < n) where
  row_halves : (r : RuleRow) → Halves n (row_words n r x y k)
      (set (set (replicate 14 mark) (place n x y r.nought) (pos 0)) (place n x y r.constant) k)
  row_halves r =
      let p = place n x y r.nought in
      let q = place n x y r.constant in
      let blank : List ℤ = replicate 14 mark in
      record {
        long = length-set (set blank p (pos 0)) q k ∙ length-set blank p (pos 0);
        front = take-set-lt (2 * suc n) (set blank p (pos 0)) q k (place_inside n x y r.constant h l)
            ∙ ap (λ (m : List ℤ). set m q k)
            (take-set-lt (2 * suc n) blank p (pos 0) (place_inside n x y r.nought h l)
            ∙ ap (λ (m : List ℤ). set m p (pos 0)) (take_same (2 * suc n) 14 mark (omega arith)));
      }

  -- what the code sets
  pub set_halves : (r : RuleRow) {p q : ℕ} {z : ℤ} → p ≡ place n x y r.nought → q ≡ place n x y r.constant → z ≡ k
      → Halves n (row_words n r x y k) (set (set (replicate 14 mark) p (pos 0)) q z)
  set_halves r e f g = rw (e, f, g) (row_halves r)

-- ---- by a kind
module _ (n : ℕ) (bound : Bound) {half : List ℤ} where
  -- the half-space of a bound is that of its kind
  pub half_as : (kind : Kind) → bound.kind ≡ kind → Halves n (half_of n (bound_by n bound kind)) half
      → Halves n (half_of n (bound_by n bound bound.kind)) half
  half_as kind e h = subst (λ (k : Kind). Halves n (half_of n (bound_by n bound k)) half) (sym e) h

two_words : (ab cd : Vector) → words (ab ∷ cd ∷ []) ≡ map word ab ++ map word cd
unfolding words
two_words ab cd = ap (λ (t : List ℤ). map word ab ++ t) (append-nil (map word cd))

-- a half-space of its own
pub own_half : (n : ℕ) (bound : Bound) → n ≤ 6 → HalfLimits n bound
    → Halves n (half_of n (bound_by n bound HalfSpace)) bound.half
own_half n bound few w =
    let half = bound.half in
    let ab = map number (take (suc n) half) in
    let cd = map number (take (suc n) (drop (suc n) half)) in
    let inside : 2 * suc n ≤ length half = omega (arith, w.entries.long) in
    record {
      long = w.entries.long;
      front = sym (words_held (suc n) 2 half inside)
          ∙ (ap words (held_cons (suc n) 1 half ∙ ap (λ (t : List Vector). ab ∷ t)
          (held_cons (suc n) 0 (drop (suc n) half) ∙ ap (λ (t : List Vector). cd ∷ t)
          (held_none (suc n) (drop (suc n) (drop (suc n) half)))))
          ∙ (two_words ab cd ∙ ap (λ (m : ℕ). map word (map number (take m half)) ++ map word (map number (take m (drop m half))))
          (sym (add-one n))));
    }
