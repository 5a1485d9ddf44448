-- What working memory holds after a vector was put behind the others.
use mathlib.Core.List.{List, [], ◌∷◌, ◌++◌, map, append_assoc}
use mathlib.Core.Path.{◌≡◌, sym, ◌∙◌, ap, subst}
use Prim.Native.Nat.{ℕ, suc, ◌+◌, ◌-◌, ◌*◌, ◌≤◌, ◌<◌}
use native.Mathlib.Decide.{dec_lt}
use native.Mathlib.Omega.{arith}
use borrow.Rule.Slice.PartMut.{put_mid}
use lib.IntN.{ℤ, pos, neg_ℤ}
use lib.ListN.{length, get_or, take, drop, length-map, get_or-append}
use lib.Seq.{drop-drop, get_or-take, get_or-drop, get_or-append-add, length-take-le, ext_get_or}
use Rattle.numbers.specs.Numbers.{Num, −∞, fin, ◌▷◌, ⨁, Within}
use Rattle.numbers.specs.Words.{number}
use Rattle.numbers.specs.Places.{entries, Each}
use Rattle.numbers.proofs.NumberLaws.{wider, ⊗_within, ⨁_ext, ⨁_within}
use Rattle.numbers.proofs.IntegerLaws.{neg}
use Rattle.algebra.specs.Vectors.{Vector, entry, tab}
use Rattle.algebra.specs.Working.{shift_by, normal}
use Rattle.algebra.proofs.Lists.{tab_length, tab_at}
use Rattle.sets.proofs.FlatLaws.{number_at}
use Rattle.sorting.specs.Rows.{held, put}
use Rattle.sorting.proofs.Held.{held_put}
use Rattle.making.specs.Work.{shift_of, Shifted, Pushable, Pushed}

-- the entries of a vector of words
pub words_entry : (n : ℕ) (v : List ℤ) → length v ≡ suc n → (j : ℕ) → j < suc n → entry (map number v) j ≡ entries v j
words_entry n v e j l = number_at v j (omega arith)

-- shifted words are the shifted vector
shifted_normal : (n : ℕ) (v ys : List ℤ) → length v ≡ suc n → Shifted v (shift_of n v) ys
    → map number ys ≡ normal n (map number v)
unfolding normal
shifted_normal n v ys e s = ext_get_or −∞ (map number ys) (tab (suc n) X) long at
  where
    X : ℕ → Num
    X j = shift_by (entry (map number v) n) (⨁ n (entry (map number v))) ▷ entry (map number v) j

    long : length (map number ys) ≡ length (tab (suc n) X)
    long = length-map ys number ∙ s.long ∙ e ∙ sym (tab_length (suc n) X)

    same : (j : ℕ) → j < suc n → shift_of n v ▷ entries v j ≡ X j
    same j l = sym (rw (
      words_entry n v e n (omega arith),
      words_entry n v e j l,
      ⨁_ext n (entry (map number v)) (entries v) (λ i b. words_entry n v e i (omega arith)),
    ))

    at : (j : ℕ) → j < length (map number ys) → entry (map number ys) j ≡ entry (tab (suc n) X) j
    at j l = let b : j < suc n = omega (arith, length-map ys number, s.long) in
        number_at ys j (omega (arith, length-map ys number)) ∙ s.right j (omega arith) ∙ same j b
        ∙ tab_at (suc n) X j b

-- the lent part put back is the vector put in its place
pub put_mid_lem : (work ys : List ℤ) (a w : ℕ) → put_mid a w work ys ≡ put work a ys w
unfolding put
put_mid_lem work ys a w = ap (λ (l : List ℤ). take a work ++ (ys ++ l)) (drop-drop w a work)
    ∙ sym (append_assoc (take a work) ys (drop (a + w) work))

-- limits of memory with a part put back
module _ (work ys : List ℤ) (a w : ℕ) (room : a + w ≤ length work) (long : length ys ≡ w) where
  put_each : Each 100000000 work → Each 100000000 ys → Each 100000000 (put work a ys w)
  unfolding put
  put_each hw hy = record { each = λ j l. at j l (dec_lt j a) (dec_lt j (a + w)) }
    where
      front : length (take a work) ≡ a
      front = length-take-le a work (omega arith)

      before : (j : ℕ) → j < a → get_or (take a work ++ ys ++ drop (a + w) work) j (pos 0) ≡ get_or work j (pos 0)
      before j l = get_or-append (take a work ++ ys) (drop (a + w) work) (pos 0) j (omega (arith, lengths))
          ∙ get_or-append (take a work) ys (pos 0) j (omega (arith, front)) ∙ get_or-take a work j (pos 0) l
        where
          lengths : a ≤ length (take a work ++ ys)
          lengths = omega (arith, lib.ListN.length-append (take a work) ys, front)

      inside : (j : ℕ) → j < w → get_or (take a work ++ ys ++ drop (a + w) work) (a + j) (pos 0) ≡ get_or ys j (pos 0)
      inside j l = get_or-append (take a work ++ ys) (drop (a + w) work) (pos 0) (a + j)
          (omega (arith, lib.ListN.length-append (take a work) ys, front))
          ∙ subst (λ (k : ℕ). get_or (take a work ++ ys) (k + j) (pos 0) ≡ get_or ys j (pos 0)) front
          (get_or-append-add (take a work) ys j (pos 0))

      behind : (j : ℕ)
          → get_or (take a work ++ ys ++ drop (a + w) work) (a + w + j) (pos 0) ≡ get_or work (a + w + j) (pos 0)
      behind j =
          subst (λ (k : ℕ). get_or (take a work ++ ys ++ drop (a + w) work) (k + j) (pos 0)
          ≡ get_or (drop (a + w) work) j (pos 0))
          (lib.ListN.length-append (take a work) ys ∙ omega (arith, front))
          (get_or-append-add (take a work ++ ys) (drop (a + w) work) j (pos 0))
          ∙ get_or-drop (a + w) work j (pos 0)

      at : (j : ℕ) → j < length (take a work ++ ys ++ drop (a + w) work) → Dec (j < a) → Dec (j < a + w)
          → Within 100000000 (entries (take a work ++ ys ++ drop (a + w) work) j)
      at j l (yes b) d = subst (λ (z : ℤ). Within 100000000 (number z)) (sym (before j b)) (hw.each j (omega arith))
      at j l (no b) (yes d) = let e : a + (j - a) ≡ j = omega arith in
          subst (λ (k : ℕ). Within 100000000 (entries (take a work ++ ys ++ drop (a + w) work) k)) e
          (subst (λ (z : ℤ). Within 100000000 (number z)) (sym (inside (j - a) (omega arith)))
          (hy.each (j - a) (omega arith)))
      at j l (no b) (no d) = let e : a + w + (j - (a + w)) ≡ j = omega arith in
          subst (λ (k : ℕ). Within 100000000 (entries (take a work ++ ys ++ drop (a + w) work) k)) e
          (subst (λ (z : ℤ). Within 100000000 (number z)) (sym (behind (j - (a + w))))
          (hw.each (a + w + (j - (a + w))) (omega (arith, total))))
        where
          total : length (take a work ++ ys ++ drop (a + w) work) ≡ length work
          total = lib.ListN.length-append (take a work ++ ys) (drop (a + w) work)
              ∙ omega (arith, lib.ListN.length-append (take a work) ys, front, lib.ListN.length-drop (a + w) work)

-- the shift of a vector within limits is within them
pub shift_near : (n : ℕ) (v : List ℤ) → length v ≡ suc n → Each 10000000 v → Within 10000000 (fin (shift_of n v))
shift_near n v e h = by (entries v n) (⨁ n (entries v)) (h.each n (omega arith))
    (⨁_within n (entries v) (λ j l. h.each j (omega arith)))
  where
    turned : (z : ℤ) → Within 10000000 (fin z) → Within 10000000 (fin (neg_ℤ z))
    turned z w = record { near = (omega (arith, neg z, w.near), omega (arith, neg z, w.near)) }

    by : (x y : Num) → Within 10000000 x → Within 10000000 y → Within 10000000 (fin (shift_by x y))
    by (fin z) y a b = turned z a
    by −∞ (fin z) a b = turned z b
    by −∞ −∞ a b = record { near = omega arith }

-- after the shifted words were put back
pub pushed : (n : ℕ) (work : List ℤ) (k : ℕ) (v ys : List ℤ) → Pushable n work k v → Shifted v (shift_of n v) ys
    → Pushed n work k v (put_mid (k * suc n) (suc n) work ys)
pushed n work k v ys p s = rw (put_mid_lem work ys (k * suc n) (suc n)) (record {
  long = total;
  rows = held_put (suc n) k work ys p.room long
      ∙ ap (λ (x : Vector). held (suc n) k work ++ (x ∷ [])) (shifted_normal n v ys p.long s);
  near = λ h. put_each work ys (k * suc n) (suc n) p.room long h near;
})
  where
    long : length ys ≡ suc n
    long = s.long ∙ p.long

    total : length (put work (k * suc n) ys (suc n)) ≡ length work
    total = unfold put in lib.ListN.length-append (take (k * suc n) work ++ ys) (drop (k * suc n + suc n) work)
        ∙ omega (
          arith,
          lib.ListN.length-append (take (k * suc n) work) ys,
          length-take-le (k * suc n) work (omega (arith, p.room)),
          lib.ListN.length-drop (k * suc n + suc n) work,
          p.room,
        )

    near : Each 100000000 ys
    near = record {
      each = λ j l. let b : j < length v = omega (arith, s.long) in
          subst (λ (x : Num). Within 100000000 x) (sym (s.right j b))
          (wider {k = 20000000} (omega arith)
          (⊗_within {x = fin (shift_of n v)} (shift_near n v p.long p.near) (p.near.each j b)));
    }
