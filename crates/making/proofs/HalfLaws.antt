-- The vectors that a half-space makes, put into working memory pair by pair.
use mathlib.Core.Bool.{Bool, true, false, cond}
use mathlib.Core.List.{List, [], ◌∷◌, ◌++◌, map, append-nil}
use mathlib.Core.Path.{◌≡◌, refl, sym, ◌∙◌, ap, subst}
use Prim.Native.Nat.{ℕ, zero, suc, ◌+◌, ◌-◌, ◌*◌, ◌/◌, ◌≤◌, ◌<◌}
use native.Mathlib.Nat.{add-zero, mul-le-mul_right}
use native.Mathlib.Numerals.{add-one}
use native.Mathlib.Omega.{arith}
use lib.IntN.{ℤ}
use lib.Signed.{lt_z, le_z, mag}
use mir.Syntax.{w32}
use mir.Val.{SFits, of_z, to_z}
use mir.Facts.{to_z-of_z}
use lib.ListN.{length, take, drop, length-map, length-append, length-drop}
use lib.Seq.{take_at, take_all, ext_get_or}
use Rattle.numbers.specs.Numbers.{Num, −∞, ◌≼◌, ◌⊗◌, ◌⊕◌, Within}
use Rattle.numbers.specs.Words.{number}
use Rattle.numbers.specs.Places.{Each, Mixed}
use Rattle.numbers.proofs.IntegerLaws.{zarith}
use Rattle.numbers.proofs.Tells.{passes, fails}
use Rattle.numbers.proofs.WordLaws.{number_mono, number_strict}
use Rattle.numbers.proofs.NumberLaws.{tells_at_most, wider, ⊗_within, ⊕_within}
use Rattle.numbers.proofs.PlaceLaws.{side_within}
use Rattle.algebra.specs.Vectors.{Vector, entry, vector, vectors, count, tab}
use Rattle.algebra.specs.Wanted.{left, right}
use Rattle.algebra.specs.Working.{each, side_at, satisfies, crossing, crossings, intersect_list}
use Rattle.algebra.proofs.Lists.{tab_length, tab_at}
use Rattle.sets.specs.Tests.{part}
use Rattle.sets.proofs.RowLaws.{row_ends, row_inside, part_is, part_long}
use Rattle.sets.proofs.FlatLaws.{number_at}
use Rattle.sets.proofs.FallLaws.{each_part}
use Rattle.making.specs.Work.{Added, Grown, Sides, RoomOf}
use Rattle.making.specs.Work.{up_to, mixed_of, side_word, cross_at, crossings_at, crosses_at, crossed_list}
use Rattle.making.proofs.PushLaws.{words_entry}
use Rattle.making.proofs.BuildLaws.{added_none, added_append, grown_append, row_vector, rows_count}
use Rattle.making.proofs.WorkingLists.{intersect_few}

-- ---- lists made index by index
-- what f makes of each vector of a list
each_append : (f : Vector → List Vector) (L : List Vector) (v : Vector) → each f (L ++ (v ∷ [])) ≡ each f L ++ f v
unfolding each
each_append f [] v = append-nil (f v)
each_append f (u ∷ L) v = ap (λ (l : List Vector). f u ++ l) (each_append f L v)
    ∙ sym (mathlib.Core.List.append_assoc (f u) (each f L) (f v))

each_take : (f : Vector → List Vector) (L : List Vector) (m : ℕ) → m ≤ length L
    → each f (take m L) ≡ up_to m (λ i. f (vector L i))
unfolding up_to each
each_take f L zero h = refl
each_take f L (suc m) h = ap (each f) (lib.Seq.take-suc L m [] h) ∙ each_append f (take m L) (vector L m)
    ∙ ap (λ (l : List Vector). l ++ f (vector L m)) (each_take f L m (omega arith))

-- vector by vector, or index by index, the same list is made
pub each_up_to : (f : Vector → List Vector) (L : List Vector) → each f L ≡ up_to (length L) (λ i. f (vector L i))
each_up_to f L = ap (each f) (sym (lib.Seq.take-length L)) ∙ each_take f L (length L) (omega arith)

up_to_ext : (m : ℕ) (f g : ℕ → List Vector) → ((i : ℕ) → i < m → f i ≡ g i) → up_to m f ≡ up_to m g
unfolding up_to
up_to_ext zero f g h = refl
up_to_ext (suc m) f g h = rw (up_to_ext m f g (λ i l. h i (omega arith)), h m (omega arith))

-- a part made index by index is no longer than the whole
pub up_to_part : (m : ℕ) (f : ℕ → List Vector) (i : ℕ) → i < m → length (up_to i f) + length (f i) ≤ length (up_to m f)
unfolding up_to
up_to_part zero f i h = absurd (omega arith)
up_to_part (suc m) f i h = go (native.Mathlib.Decide.ℕ_discrete i m) (up_to_part m f i)
  where
    go : Dec (i ≡ m) → (i < m → length (up_to i f) + length (f i) ≤ length (up_to m f))
        → length (up_to i f) + length (f i) ≤ length (up_to m f ++ f m)
    go (yes e) r = rw e (omega (arith, length-append (up_to m f) (f m)))
    go (no n) r = omega (arith, r (omega arith), length-append (up_to m f) (f m))

-- ---- with the sides at hand it is the list of the half-space
-- index by index with the words of the sides, or by the rule with the sides: the same vectors
pub crossed_is : (n : ℕ) (ab cd : Vector) (L : List Vector) (ls rs : List ℤ) → Sides n ab L ls → Sides n cd L rs
    → crossed_list n ls rs L ≡ intersect_list n ab cd L
unfolding crossed_list crosses_at cross_at mixed_of intersect_list crossings crossing satisfies
crossed_is n ab cd L ls rs p q = up_to_ext (length L) (crosses_at n ls rs L) _ outer
    ∙ sym (each_up_to (λ g. cond (satisfies n ab cd g) (g ∷ crossings n ab cd L g) []) L)
  where
    inner : (i : ℕ) → i < length L → up_to (length L) (cross_at n ls rs L i) ≡ crossings n ab cd L (vector L i)
    inner i l = up_to_ext (length L) (cross_at n ls rs L i) _
        (λ j b. rw (p.right j b, q.right j b, q.right i l))
        ∙ sym (each_up_to (λ h. cond (satisfies n ab cd h) [] (crossing n ab cd (vector L i) h ∷ [])) L)

    outer : (i : ℕ) → i < length L
        → crosses_at n ls rs L i
        ≡ cond (satisfies n ab cd (vector L i)) (vector L i ∷ crossings n ab cd L (vector L i)) []
    outer i l = rw (p.right i l, q.right i l, inner i l)

-- ---- growing: the first i parts are there
module _ (n : ℕ) (work : List ℤ) (k : ℕ) (f : ℕ → List Vector) where
  -- at first there is none
  pub growing_start : Grown n work k (up_to 0 f) k work
  unfolding up_to
  growing_start = record { added = added_none n work k; count = sym (add-zero k) }

  -- with part i behind them there is one more
  pub growing_next : (i c d : ℕ) (mid after : List ℤ) → Grown n work k (up_to i f) c mid → Grown n mid c (f i) d after
      → Grown n work k (up_to (i + 1) f) d after
  growing_next i c d mid after p q = subst (λ (A : List Vector). Grown n work k A d after) next (record {
    added = added_append n work k (up_to i f) (f i) mid after p.added
        (subst (λ (x : ℕ). Added n mid x (f i) after) p.count q.added);
    count = q.count ∙ omega (arith, p.count, length-append (up_to i f) (f i));
  })
    where
      next : up_to i f ++ f i ≡ up_to (i + 1) f
      next = unfold up_to in rw (add-one i)

  -- when all parts are there, the list has grown by all
  pub growing_done : (m i c : ℕ) (after : List ℤ) → i ≡ m → Grown n work k (up_to i f) c after
      → Grown n work k (up_to m f) c after
  growing_done m i c after e p = subst (λ (x : ℕ). Grown n work k (up_to x f) c after) e p

  -- there is room for the next part
  pub room_part : (m i c : ℕ) (mid : List ℤ) → i < m → Grown n work k (up_to i f) c mid → RoomOf n work k (up_to m f)
      → RoomOf n mid c (f i)
  room_part m i c mid l p r = record {
    room = omega (arith, mul-le-mul_right (suc n) few, r.room, p.added.long);
  }
    where
      few : c + length (f i) ≤ k + length (up_to m f)
      few = omega (arith, p.count, up_to_part m f i l)

-- ---- two vectors mixed in seven words
module _ (n : ℕ) (g h ys : List ℤ) (l r : Num)
    (eg : length g ≡ suc n) (eh : length h ≡ suc n) (m : Mixed g l h r ys) where
  -- there are n + 1 of them
  pub mixed_long : length ys ≡ suc n
  mixed_long = m.long ∙ eg

  -- their numbers are the two vectors, weighted, the larger at each entry
  pub mixed_words : map number ys ≡ mixed_of n l (map number g) r (map number h)
  unfolding mixed_of
  mixed_words =
      ext_get_or −∞ (map number ys) (tab (suc n) X) (length-map ys number ∙ mixed_long ∙ sym (tab_length (suc n) X)) at
    where
      X : ℕ → Num
      X j = (l ⊗ entry (map number g) j) ⊕ (r ⊗ entry (map number h) j)

      at : (j : ℕ) → j < length (map number ys) → entry (map number ys) j ≡ entry (tab (suc n) X) j
      at j b = let c : j < suc n = omega (arith, length-map ys number, mixed_long) in
          number_at ys j (omega (arith, mixed_long)) ∙ m.right j (omega arith)
          ∙ sym (rw (words_entry n g eg j c, words_entry n h eh j c)) ∙ tab_at (suc n) X j c

  -- within limits, if the vectors and the weights are
  pub mixed_near : Each 1000000 g → Each 1000000 h → Within 2000000 l → Within 2000000 r → Each 10000000 ys
  mixed_near a b c d = record {
    each = λ j k. let e : j < suc n = omega (arith, mixed_long) in
        subst (λ (x : Num). Within 10000000 x) (sym (m.right j (omega arith)))
        (⊕_within (wider {k = 3000000} (omega arith) (⊗_within c (a.each j (omega arith))))
        (wider {k = 3000000} (omega arith) (⊗_within d (b.each j (omega arith)))));
  }

-- the first words of seven into which a vector was copied
pub copied_part : (n : ℕ) (v rest : List ℤ) → length v ≡ suc n → take (n + 1) (v ++ rest) ≡ v
copied_part n v rest e = take_at v rest (n + 1) (e ∙ sym (add-one n))

-- ---- one pair
-- vectors are counted by their words
pub counted : (n : ℕ) (l : List ℤ) (i : ℕ) → i < count n l → i < length l / (n + 1)
counted n l i h = subst (λ (w : ℕ). i < length l / w) (sym (add-one n)) h

-- vector i ends within the words of the list
pub inside : (n : ℕ) (l : List ℤ) (i : ℕ) → i < count n l → i * (n + 1) + (n + 1) ≤ length l
inside n l i h = row_inside i (n + 1) (length l) (counted n l i h)

-- the words lent of vector i are a vector within limits
pub row_long : (n : ℕ) (l : List ℤ) (i : ℕ) → i < count n l → length (part l (i * (n + 1)) (n + 1)) ≡ suc n
row_long n l i h = part_long l (i * (n + 1)) (n + 1) (inside n l i h) ∙ add-one n

-- and its entries are within the limits of the list
pub row_near : (n : ℕ) (l : List ℤ) (i : ℕ) → i < count n l → Each 1000000 l
    → Each 1000000 (part l (i * (n + 1)) (n + 1))
row_near n l i h = each_part l (i * (n + 1)) (n + 1) (inside n l i h)

module _ (n : ℕ) (work : List ℤ) (k : ℕ) (ls rs : List ℤ) (L : List Vector) (i j : ℕ) where
  -- vector j satisfies, and gives nothing
  pub cross_none : side_word ls j ≼ side_word rs j → Grown n work k (cross_at n ls rs L i j) k work
  unfolding cross_at
  cross_none h = rw (passes (tells_at_most (side_word ls j) (side_word rs j)) h)
      (record { added = added_none n work k; count = sym (add-zero k) })

  -- vector j violates, and gives one vector
  cross_is : ¬ (side_word ls j ≼ side_word rs j)
      → cross_at n ls rs L i j ≡ mixed_of n (side_word ls j) (vector L i) (side_word rs i) (vector L j) ∷ []
  unfolding cross_at
  cross_is h = rw (fails (tells_at_most (side_word ls j) (side_word rs j)) h)

  -- that vector is put behind the others
  pub cross_one : (c : ℕ) (after : List ℤ) → ¬ (side_word ls j ≼ side_word rs j)
      → Grown n work k (mixed_of n (side_word ls j) (vector L i) (side_word rs i) (vector L j) ∷ []) c after
      → Grown n work k (cross_at n ls rs L i j) c after
  cross_one c after h g = subst (λ (A : List Vector). Grown n work k A c after) (sym (cross_is h)) g

  -- and there is room for it
  pub cross_room : ¬ (side_word ls j ≼ side_word rs j) → RoomOf n work k (cross_at n ls rs L i j)
      → k * suc n + suc n ≤ length work
  cross_room h r = row_ends k (k + 1) (suc n) (length work) (omega arith)
      (subst (λ (A : List Vector). (k + length A) * suc n ≤ length work) (cross_is h) r.room)

-- a vector that the code counts is one of the list
pub uncounted : (n : ℕ) (l : List ℤ) (i : ℕ) → i < length l / (n + 1) → i < count n l
uncounted n l i h = subst (λ (w : ℕ). i < length l / w) (add-one n) h

-- ---- one vector with all
module _ (n : ℕ) (work : List ℤ) (k : ℕ) (ls rs : List ℤ) (L : List Vector) (i : ℕ) where
  -- vector i violates, and gives nothing
  pub keep_none : ¬ (side_word ls i ≼ side_word rs i) → Grown n work k (crosses_at n ls rs L i) k work
  unfolding crosses_at
  keep_none h = rw (fails (tells_at_most (side_word ls i) (side_word rs i)) h)
      (record { added = added_none n work k; count = sym (add-zero k) })

  -- vector i satisfies: it stays, with what it gives
  module _ (h : side_word ls i ≼ side_word rs i) where
    keep_is : crosses_at n ls rs L i ≡ vector L i ∷ crossings_at n ls rs L i
    unfolding crosses_at
    keep_is = rw (passes (tells_at_most (side_word ls i) (side_word rs i)) h)

    -- vector i and then what it gives with each are put behind the others
    pub keep_all : (m c : ℕ) (mid after : List ℤ) → Grown n work k (vector L i ∷ []) m mid
        → Grown n mid m (crossings_at n ls rs L i) c after → Grown n work k (crosses_at n ls rs L i) c after
    keep_all m c mid after p q = subst (λ (A : List Vector). Grown n work k A c after) (sym keep_is)
        (grown_append n work k (vector L i ∷ []) (crossings_at n ls rs L i) m c mid after p q)

    whole : RoomOf n work k (crosses_at n ls rs L i) → (k + suc (length (crossings_at n ls rs L i))) * suc n ≤ length work
    whole r = subst (λ (A : List Vector). (k + length A) * suc n ≤ length work) keep_is r.room

    -- there is room for vector i
    pub keep_room : RoomOf n work k (crosses_at n ls rs L i) → k * suc n + suc n ≤ length work
    keep_room r = row_ends k (k + suc (length (crossings_at n ls rs L i))) (suc n) (length work) (omega arith) (whole r)

    -- and behind it for what it gives
    pub keep_rest : (m : ℕ) (mid : List ℤ) → m ≡ k + 1 → length mid ≡ length work
        → RoomOf n work k (crosses_at n ls rs L i) → RoomOf n mid m (crossings_at n ls rs L i)
    keep_rest m mid q e r =
        record { room = rw e (subst (λ (x : ℕ). x * suc n ≤ length work) (omega (arith, q)) (whole r)) }

-- ---- the two sides of a half-space, as the code lends them
module _ (n : ℕ) (half : List ℤ) (e : length half ≡ 2 * suc n) where
  -- the left side: the first n + 1 words
  pub left_is : take (n + 1) half ≡ part half 0 (n + 1)
  unfolding part
  left_is = refl

  -- the right side: the n + 1 words behind them
  pub right_is : take (n + 1 + (n + 1) - (n + 1)) (drop (n + 1) half) ≡ part half (n + 1) (n + 1)
  right_is = part_is half (n + 1) (n + 1)

  -- the left side has n + 1 words
  pub left_long : length (part half 0 (n + 1)) ≡ suc n
  left_long = part_long half 0 (n + 1) (omega arith) ∙ add-one n

  -- the right side has n + 1 words
  pub right_long : length (part half (n + 1) (n + 1)) ≡ suc n
  right_long = part_long half (n + 1) (n + 1) (omega arith) ∙ add-one n

  -- the numbers of the left side: a and b
  pub left_words : map number (part half 0 (n + 1)) ≡ left n half
  unfolding part
  left_words = rw (add-one n)

  -- the numbers of the right side: c and d
  pub right_words : map number (part half (n + 1) (n + 1)) ≡ right n half
  unfolding part
  right_words =
      rw (add-one n) (ap (map number) (take_all (suc n) (drop (suc n) half) (omega (arith, length-drop (suc n) half))))

-- ---- a side is within limits, and there is room for what the half-space makes
-- a side is the largest of sums of two entries, each within 1,000,000
pub sides_near : (n : ℕ) (ab list sides : List ℤ) → length ab ≡ suc n → Each 1000000 ab → Each 1000000 list
    → Sides n (map number ab) (vectors n list) sides → (i : ℕ) → i < count n list → Within 2000000 (side_word sides i)
unfolding side_at
sides_near n ab list sides e h g s i l = subst (λ (x : Num). Within 2000000 x)
    (sym (s.right i (subst (λ (m : ℕ). i < m) (sym (rows_count n list)) (counted n list i l))))
    (side_within {k = 1000000} {l = 1000000} (suc n) (entry (map number ab)) (entry (vector (vectors n list) i))
    (λ j b. rw (words_entry n ab e j b) (h.each j (omega arith)))
    (λ j b. rw (← row_vector n list i (counted n list i l), words_entry n row long j b)
    ((row_near n list i l g).each j (omega (arith, long)))))
  where
    row : List ℤ
    row = part list (i * (n + 1)) (n + 1)

    long : length row ≡ suc n
    long = row_long n list i l

-- at most 32 vectors make at most 272, and there is room for those
pub crossed_room : (n : ℕ) (ab cd : Vector) (list ls rs work : List ℤ) → count n list ≤ 32 → 272 * suc n ≤ length work
    → Sides n ab (vectors n list) ls → Sides n cd (vectors n list) rs
    → RoomOf n work 0 (crossed_list n ls rs (vectors n list))
crossed_room n ab cd list ls rs work few room p q = record {
  room = rw (crossed_is n ab cd (vectors n list) ls rs p q) (omega (arith, mul-le-mul_right (suc n) most));
}
  where
    most : 0 + length (intersect_list n ab cd (vectors n list)) ≤ 272
    most = omega (arith, intersect_few n (vectors n list) (rw (rows_count n list, add-one n) few) ab cd)

-- ---- the words l and r of the sides at a vector, by the test `l <= r` on bits
module _ (l r : ℤ) (fl : mag l < 2147483648) (fr : mag r < 2147483648) where
  -- the test passed: the vector satisfies
  pub side_enough : le_z (to_z w32 (of_z w32 l)) (to_z w32 (of_z w32 r)) ≡ true → number l ≼ number r
  side_enough e =
      let f : SFits w32 l = record { sfits = fl } in
      let g : SFits w32 r = record { sfits = fr } in
      let h : le_z l r ≡ true = rw (to_z-of_z f, to_z-of_z g) at e in
      number_mono f g (omega zarith)

  -- it failed: the vector violates
  pub side_short : le_z (to_z w32 (of_z w32 l)) (to_z w32 (of_z w32 r)) ≡ false → ¬ (number l ≼ number r)
  side_short e =
      let f : SFits w32 l = record { sfits = fl } in
      let g : SFits w32 r = record { sfits = fr } in
      let h : le_z l r ≡ false = rw (to_z-of_z f, to_z-of_z g) at e in
      number_strict g f (turned (lt_z r l) refl h)
    where
      turned : (b : Bool) → lt_z r l ≡ b → le_z l r ≡ false → lt_z r l ≡ true
      turned true q h = q
      turned false q h = absurd (omega zarith)
