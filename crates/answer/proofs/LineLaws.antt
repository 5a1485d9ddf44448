-- The lines to record i, by the words that code reads there.
use mathlib.Core.Bool.{true, false}
use mathlib.Core.List.{List, [], ◌∷◌, ◌++◌}
use mathlib.Core.Path.{◌≡◌, refl, sym, ap, ◌∙◌, subst}
use Prim.Native.Nat.{ℕ, ◌+◌, ◌*◌, ◌≤◌, ◌<◌}
use native.Mathlib.Omega.{arith}
use lib.Dec.{T, ltb→lt}
use lib.IntN.{ℤ, pos, nat_abs}
use lib.ListN.{length, get_or}
use lib.Signed.{mag, non_neg, lt_z}
use mir.Syntax.{w32, w64}
use mir.Val.{to_z, of_z, Fits}
use Rattle.numbers.proofs.WordLaws.{back}
use Rattle.codec.specs.Answers.{Writes, Room}
use Rattle.codec.specs.Arrays.{each}
use Rattle.codec.proofs.WriteLaws.{each_append, wrote_none, wrote_then, room_first, room_next}
use Rattle.area.specs.Area.{record_size}
use Rattle.area.proofs.RecordLaws.{size_is}
use Rattle.walk.specs.Walks.{word_at}
use Rattle.printing.specs.Text.{Stop, line_of}
use Rattle.answer.specs.Shown.{StopIn, Shows, root, next, Printable, Lines}

-- ---- words
-- the record that is read lies in the area
pub words_inside : {n i r : ℕ} {area : List ℤ} {stops : List Stop} → r ≡ record_size n → Shows n area i stops
    → i * r + 4 ≤ length area
words_inside {n} {i} {r} q s =
    let e : i * r ≡ i * record_size n = ap (λ (x : ℕ). i * x) q in omega (arith, inside s, size_is n)
  where
    inside : {area : List ℤ} {stops : List Stop} → Shows n area i stops → i * record_size n + record_size n ≤ length area
    inside (root h e) = h
    inside (next h t u) = h

-- what code reads is the word
pub word_read : (n i r j : ℕ) (area : List ℤ) {k : ℕ} → r ≡ record_size n → k ≡ i * r + j
    → mag (get_or area k (pos 0)) < 2147483648 → to_z w32 (of_z w32 (get_or area k (pos 0))) ≡ word_at n area i j
word_read n i r j area q e g = back g ∙ ap (λ (k : ℕ). get_or area k (pos 0)) (e ∙ ap (λ (x : ℕ). i * x + j) q)

word_fits : {z : ℤ} {k : ℕ} → z ≡ pos k → k < 18446744073709551616 → T (non_neg z) × Fits w64 (nat_abs z)
word_fits e h = rw e (tt, omega arith)

-- ---- the parent of a record, by the word z
-- the last stop, and those to its parent
record Last (n i : ℕ) (area : List ℤ) (stops : List Stop) : Type 0 where
  parent : ℕ
  stop : Stop
  up : List Stop
  is : stops ≡ up ++ (stop ∷ [])
  there : StopIn n area i parent stop
  shows : Shows n area parent up

module _ (n i : ℕ) (area : List ℤ) {z : ℤ} (e : z ≡ word_at n area i 1) where
  -- there is none
  no_stops : {stops : List Stop} → lt_z z (pos 0) ≡ true → Shows n area i stops → stops ≡ []
  no_stops t (root h f) = refl
  no_stops t (next {p = p} h s u) =
      let f : lt_z (pos p) (pos 0) ≡ true = subst (λ (z : ℤ). lt_z z (pos 0) ≡ true) (e ∙ s.parent) t in
      absurd (omega (arith, ltb→lt p 0 (subst T (sym f) tt)))

  -- a record without a parent has no lines
  pub lines_none : {text : List ℕ} {at : ℕ} → lt_z z (pos 0) ≡ true → Lines n area i text at text at
  lines_none {text} {at} t = record {
    wrote = λ stops s. subst (λ (l : List Stop). Writes text at (each line_of l) text at) (sym (no_stops t s)) wrote_none;
  }

  -- there is one
  module _ (t : lt_z z (pos 0) ≡ false) where
    last : {stops : List Stop} → Shows n area i stops → Last n i area stops
    last (root h f) = absurd (subst T (subst (λ (z : ℤ). lt_z z (pos 0) ≡ false) (e ∙ f) t) tt)
    last (next {p = p} {stops = up} {s = s} h there shows) =
        record { parent = p; stop = s; up = up; is = refl; there = there; shows = shows }

    module _ {stops : List Stop} (l : Last n i area stops) where
      parent_is : nat_abs z ≡ l.parent
      parent_is = ap nat_abs (e ∙ l.there.parent)

      up_shown : Shows n area (nat_abs z) l.up
      up_shown = subst (λ (p : ℕ). Shows n area p l.up) (sym parent_is) l.shows

      split : each line_of stops ≡ each line_of l.up ++ line_of l.stop
      split = ap (each line_of) l.is ∙ each_append line_of l.up l.stop

      -- the stop that code reads
      stop_is : (x y : ℤ) → x ≡ word_at n area i 2 → y ≡ word_at n area i 0
          → record { edge = nat_abs x; location = nat_abs y } ≡ l.stop
      stop_is x y f g = rw (f ∙ l.there.edge, g ∙ l.there.location)

    module _ {text : List ℕ} {at : ℕ} (h : Printable n area i text at) where
      abbrev own : Last n i area h.stops
      own = last h.shows

      -- the parent was kept before
      pub parent_earlier : nat_abs z < i
      parent_earlier = omega (arith, parent_is own, own.there.earlier)

      -- its number can be cast
      pub parent_fits : i < 18446744073709551616 → T (non_neg z) × Fits w64 (nat_abs z)
      parent_fits k = word_fits (e ∙ own.there.parent) (omega (arith, own.there.earlier))

      -- so can the edge's
      pub edge_fits_lem : {x : ℤ} → x ≡ word_at n area i 2 → T (non_neg x) × Fits w64 (nat_abs x)
      edge_fits_lem f = word_fits (f ∙ own.there.edge) (omega (arith, own.there.limits.edge))

      -- and the location's
      pub location_fits : {y : ℤ} → y ≡ word_at n area i 0 → T (non_neg y) × Fits w64 (nat_abs y)
      location_fits g = word_fits (g ∙ own.there.location) (omega (arith, own.there.limits.location))

      whole : Room at (each line_of own.up ++ line_of own.stop) text
      whole = subst (λ (l : List ℕ). Room at l text) (split own) h.room

      -- there is room for the parent's lines
      pub parent_printable : Printable n area (nat_abs z) text at
      parent_printable = record {
        clocks = h.clocks;
        stops = own.up;
        shows = up_shown own;
        room = room_first (each line_of own.up) (line_of own.stop) whole;
      }

      -- and for this line behind them
      pub line_room : {text' : List ℕ} {m : ℕ} {x y : ℤ} → x ≡ word_at n area i 2 → y ≡ word_at n area i 0
          → Lines n area (nat_abs z) text at text' m → Room m (line_of (record { edge = nat_abs x; location = nat_abs y })) text'
      line_room {text'} {m} {x} {y} f g w = subst (λ (s : Stop). Room m (line_of s) text') (sym (stop_is own x y f g))
          (room_next (each line_of own.up) (line_of own.stop) (w.wrote own.up (up_shown own)) whole)

    -- the parent's lines and this line are the lines to record i
    pub lines_more : {text text' text'' : List ℕ} {at m end : ℕ} {x y : ℤ} → x ≡ word_at n area i 2
        → y ≡ word_at n area i 0 → Lines n area (nat_abs z) text at text' m
        → Writes text' m (line_of (record { edge = nat_abs x; location = nat_abs y })) text'' end
        → Lines n area i text at text'' end
    lines_more {text} {text'} {text''} {at} {m} {end} {x} {y} f g w v = record {
      wrote = λ stops s. let l = last s in
          subst (λ (b : List ℕ). Writes text at b text'' end) (sym (split l)) (wrote_then (w.wrote l.up (up_shown l))
          (subst (λ (s : Stop). Writes text' m (line_of s) text'' end) (stop_is l x y f g) v));
    }
