-- Laws of keeping: a record written behind the first k, and the states that the area then holds.
use mathlib.Core.List.{List, [], ◌∷◌, ◌++◌, append_assoc}
use mathlib.Core.Path.{◌≡◌, refl, sym, ap, ◌∙◌, subst}
use Prim.Native.Nat.{ℕ, zero, suc, ◌+◌, ◌-◌, ◌*◌, ◌≤◌, ◌<◌}
use native.Mathlib.Decide.{dec_lt}
use native.Mathlib.Nat.{suc-mul, zero-mul, mul-le-mul_right}
use native.Mathlib.Omega.{arith}
use lib.IntN.{ℤ, pos}
use native.Mathlib.Numerals.{add-one}
use lib.ListN.{length, get_or, set, take, drop, replicate, length-append, length-drop, take-append-drop}
use lib.Seq.{paste-suc, paste-zero, take-length, drop_at, take_at, take-append-le, drop-append-le, length-take-le}
use lib.Seq.{drop-append-add, take-add}
use borrow.Rule.Slice.PartMut.{put_mid}
use Rattle.std.proofs.lemmas.List.{drop-replicate}
use Rattle.algebra.specs.Vectors.{count}
use Rattle.sets.specs.Limits.{Whole}
use Rattle.sorting.specs.Rows.{put}
use Rattle.making.proofs.PushLaws.{put_mid_lem}
use Rattle.runs.specs.Rule.{State, state_at}
use Rattle.runs.proofs.ProperLists.{Proper}
use Rattle.runs.proofs.Paths.{at_old, at_new}
use Rattle.area.specs.Area.{record_size, record_of, records_of, holding}
use Rattle.area.specs.Records.{written, kept, state, record_at, state_of, state_in, states_in, Stands, Recorded}
use Rattle.area.proofs.RecordLaws.{size_is, record_size_lem, state_back, list_fits_lem}

-- ---- one record
-- the lent part put back
pub put_back : (area v : List ℤ) (a b w : ℕ) → b ≡ a + w → put_mid a (b - a) area v ≡ put area a v w
put_back area v a b w e =
    let k : b - a ≡ w = omega (arith, e) in ap (λ (x : ℕ). put_mid a x area v) k ∙ put_mid_lem area v a w

-- no word of the list stored yet
pub put_none : (d l : List ℤ) → d ≡ put d 4 (take 0 l) 0
unfolding put
put_none d l = paste-zero d 4 l

-- one word more
pub put_next : (d l : List ℤ) (i : ℕ) → 4 + i < length d → i < length l
    → set (put d 4 (take i l) i) (4 + i) (get_or l i (pos 0)) ≡ put d 4 (take (i + 1) l) (i + 1)
unfolding put
put_next d l i hd hl = paste-suc d 4 l i (pos 0) hd hl
    ∙ ap (λ (k : ℕ). put d 4 (take k l) k) (sym (add-one i))

-- 0 everywhere, then the first four words, then the list from word 4 on
pub write_law : (size : ℕ) (l : List ℤ) (a b c d : ℤ) → 4 + length l ≤ size
    → put ((a ∷ b ∷ c ∷ d ∷ []) ++ drop 4 (replicate size (pos 0))) 4 (take (length l) l) (length l)
    ≡ written size a b c d l
unfolding put written
write_law size l a b c d h =
    ap (λ v. put ((a ∷ b ∷ c ∷ d ∷ []) ++ drop 4 (replicate size (pos 0))) 4 v (length l)) (take-length l)
    ∙ (ap (λ z. put ((a ∷ b ∷ c ∷ d ∷ []) ++ z) 4 l (length l)) (drop-replicate 4 size (pos 0))
    ∙ ap (λ z. a ∷ b ∷ c ∷ d ∷ l ++ z)
    (drop-append-add (a ∷ b ∷ c ∷ d ∷ []) (replicate (size - 4) (pos 0)) (length l)
    ∙ drop-replicate (length l) (size - 4) (pos 0)))

-- ---- record k of an area, with the size in a local
pub row_room : (n k r : ℕ) {len : ℕ} → r ≡ record_size n → suc k * record_size n ≤ len → k * r + r ≤ len
row_room n k r q h = rw q (omega (arith, h, suc-mul k (record_size n)))

-- the record's part has room for the list
pub part_room : (n : ℕ) (area : List ℤ) (k r : ℕ) (l : List ℤ) → r ≡ record_size n → suc k * record_size n ≤ length area
    → Whole n l → 4 + length l ≤ length (take (k * r + r - k * r) (drop (k * r) area))
part_room n area k r l q h w =
    let g = row_room n k r q h in
    let e : k * r + r - k * r ≡ r = omega arith in
    let m : length (take (k * r + r - k * r) (drop (k * r) area)) ≡ r
    = length-take-le _ (drop (k * r) area) (simp length-drop (omega arith)) ∙ e in
    omega (arith, m, q, size_is n, list_fits_lem n l w)

-- a record written into its part of the area
pub keep_law : (n : ℕ) (area v : List ℤ) (k r location : ℕ) (parent edge : ℤ) (l : List ℤ) (a b c d : ℤ)
    → r ≡ record_size n → suc k * record_size n ≤ length area → Whole n l
    → v ≡ written (length (take (k * r + r - k * r) (drop (k * r) area))) a b c d l
    → a ≡ pos location → b ≡ parent → c ≡ edge → d ≡ pos (count n l)
    → put_mid (k * r) (k * r + r - k * r) area v ≡ kept n area k (state location parent edge l)
unfolding kept record_of written
keep_law n area v k r location parent edge l a b c d q h w f ea eb ec ed =
    let g = row_room n k r q h in
    let e : k * r + r - k * r ≡ r = omega arith in
    let m : length (take (k * r + r - k * r) (drop (k * r) area)) - 4 - length l ≡ 32 * suc n - length l
    = omega (arith, length-take-le _ (drop (k * r) area) (simp length-drop (omega arith)) ∙ e, q, size_is n) in
    put_back area v (k * r) (k * r + r) r refl
    ∙ (ap (λ (v : List ℤ). put area (k * r) v r) (f ∙ rw (ea, eb, ec, ed, m))
    ∙ ap (λ (r : ℕ). put area (k * r) (record_of n (state location parent edge l)) r) q)

-- ---- the area with a record more
module _ (n : ℕ) (area : List ℤ) (k : ℕ) (s : State) (room : suc k * record_size n ≤ length area)
    (whole : Whole n s.list) where
  abbrev size : ℕ
  size = record_size n

  abbrev at : ℕ
  at = k * size

  abbrev after : List ℤ
  after = kept n area k s

  fits : at + size ≤ length area
  fits = omega (arith, room, suc-mul k size)

  front : length (take at area) ≡ at
  front = length-take-le at area (omega (arith, fits))

  -- the first k records, and then the new one
  shape : after ≡ take at area ++ (record_of n s ++ drop (at + size) area)
  unfolding kept put
  shape = append_assoc (take at area) (record_of n s) (drop (at + size) area)

  -- record k is the new one
  pub kept_new : record_at n after k ≡ record_of n s
  unfolding record_at
  kept_new = ap (λ l. take size (drop at l)) shape
      ∙ (ap (take size) (drop_at (take at area) (record_of n s ++ drop (at + size) area) at front)
      ∙ take_at (record_of n s) (drop (at + size) area) size (record_size_lem n s whole))

  -- the records before it are as they were
  pub kept_old : (i : ℕ) → i < k → record_at n after i ≡ record_at n area i
  unfolding record_at
  kept_old i h =
      let a : ℕ = i * size in
      let in-front : a + size ≤ at = omega (arith, mul-le-mul_right size h, suc-mul i size) in
      let rest : List ℤ = record_of n s ++ drop (at + size) area in
      let long : size ≤ length (drop a (take at area)) = omega (arith, length-drop a (take at area), front) in
      ap (λ l. take size (drop a l)) shape
      ∙ (ap (take size) (drop-append-le a (take at area) rest (omega (arith, front)))
      ∙ (take-append-le size (drop a (take at area)) rest long
      ∙ (sym (take-append-le size (drop a (take at area)) (drop at area) long)
      ∙ (ap (take size) (sym (drop-append-le a (take at area) (drop at area) (omega (arith, front))))
      ∙ ap (λ l. take size (drop a l)) (take-append-drop at area)))))

  -- and so are the words behind it
  pub kept_behind : drop (suc k * size) after ≡ drop (suc k * size) area
  kept_behind =
      let next : at + size ≡ suc k * size = omega (arith, suc-mul k size) in
      let p : List ℤ = take at area ++ record_of n s in
      let long : length p ≡ suc k * size
      = omega (arith, length-append (take at area) (record_of n s), front, record_size_lem n s whole, suc-mul k size) in
      ap (drop (suc k * size)) (shape ∙ sym (append_assoc (take at area) (record_of n s) (drop (at + size) area)))
      ∙ (drop_at p (drop (at + size) area) (suc k * size) long
      ∙ ap (λ (x : ℕ). drop x area) next)

  -- the states then: one more
  states_old : (m : ℕ) → m ≤ k → states_in n m after ≡ states_in n m area
  unfolding states_in
  states_old zero h = refl
  states_old (suc m) h = ap (λ l. l ++ (state_in n after m ∷ [])) (states_old m (omega arith))
      ∙ ap (λ r. states_in n m area ++ (state_of n r ∷ [])) (kept_old m h)

  -- the states then are those before and the new one
  pub states_new : states_in n (suc k) after ≡ states_in n k area ++ (s ∷ [])
  unfolding states_in
  states_new = ap (λ l. l ++ (state_in n after k ∷ [])) (states_old k (omega arith))
      ∙ ap (λ z. states_in n k area ++ (z ∷ [])) (ap (state_of n) kept_new ∙ state_back n s whole)

  -- the first k + 1 records stand
  pub recorded_new : length after ≡ length area → Proper n s.list → Recorded n k area → Recorded n (suc k) after
  recorded_new e p h i l = by (dec_lt i k)
    where
      new : state_in n after k ≡ s
      new = ap (state_of n) kept_new ∙ state_back n s whole

      by : Dec (i < k) → Stands n after i
      by (yes a) = let t = h i a in record {
        fits = omega (arith, t.fits);
        exact = kept_old i a ∙ (t.exact ∙ ap (λ r. record_of n (state_of n r)) (sym (kept_old i a)));
        proper = subst (λ r. Proper n (state_of n r).list) (sym (kept_old i a)) t.proper;
      }
      by (no a) =
          let q : k ≡ i = omega (arith, a) in
          subst (Stands n after) q (record {
            fits = omega (arith, room);
            exact = kept_new ∙ ap (record_of n) (sym new);
            proper = subst (λ z. Proper n z.list) (sym new) p;
          })

-- ---- the states read back
pub states_many : (n k : ℕ) (area : List ℤ) → length (states_in n k area) ≡ k
unfolding states_in
states_many n zero area = refl
states_many n (suc k) area =
    omega (arith, length-append (states_in n k area) (state_in n area k ∷ []), states_many n k area)

-- state i of the states read back is that of record i
pub states_at : (n k : ℕ) (area : List ℤ) (i : ℕ) → i < k → state_at (states_in n k area) i ≡ state_in n area i
unfolding states_in
states_at n zero area i h = absurd (omega arith)
states_at n (suc k) area i h = by (λ a. states_at n k area i a) (dec_lt i k)
  where
    by : (i < k → state_at (states_in n k area) i ≡ state_in n area i) → Dec (i < k)
        → state_at (states_in n k area ++ (state_in n area k ∷ [])) i ≡ state_in n area i
    by f (yes a) = at_old (states_in n k area) (state_in n area k ∷ []) i (omega (arith, states_many n k area))
        ∙ f a
    by f (no a) =
        let q : k ≡ i = omega (arith, a) in
        let e : length (states_in n k area) ≡ i = states_many n k area ∙ q in
        ap (λ (i : ℕ). state_at (states_in n k area ++ (state_in n area k ∷ [])) i) (sym e)
        ∙ (at_new (states_in n k area) (state_in n area k) ∙ ap (state_in n area) q)

-- ---- an area that stands is the records of its states
records_append : (n : ℕ) (ss : List State) (s : State) → records_of n (ss ++ (s ∷ [])) ≡ records_of n ss ++ record_of n s
unfolding records_of
records_append n [] s = mathlib.Core.List.append-nil (record_of n s)
records_append n (t ∷ ss) s = ap (λ l. record_of n t ++ l) (records_append n ss s)
    ∙ sym (append_assoc (record_of n t) (records_of n ss) (record_of n s))

-- the records of the states read back are the words of the area
pub records_are : (n k : ℕ) (area : List ℤ) → Recorded n k area
    → records_of n (states_in n k area) ≡ take (k * record_size n) area
unfolding states_in records_of record_at
records_are n zero area h = ap (λ (x : ℕ). take x area) (sym (zero-mul (record_size n)))
records_are n (suc k) area h = records_append n (states_in n k area) (state_in n area k)
    ∙ (ap (λ l. l ++ record_of n (state_in n area k)) (records_are n k area (λ i l. h i (omega arith)))
    ∙ (ap (λ l. take (k * record_size n) area ++ l) (sym (h k (omega arith)).exact) ∙ last))
  where
    next : k * record_size n + record_size n ≡ suc k * record_size n
    next = omega (arith, suc-mul k (record_size n))

    last : take (k * record_size n) area ++ record_at n area k ≡ take (suc k * record_size n) area
    last = sym (take-add (k * record_size n) (record_size n) area)
        ∙ ap (λ (x : ℕ). take x area) next

-- what is behind the records as in `first`: the whole area is known
pub holding_is : (n k : ℕ) (first area : List ℤ) → Recorded n k area
    → drop (k * record_size n) area ≡ drop (k * record_size n) first → area ≡ holding n (states_in n k area) first
unfolding holding
holding_is n k first area h e = sym (take-append-drop (k * record_size n) area)
    ∙ (ap (λ l. l ++ drop (k * record_size n) area) (sym (records_are n k area h))
    ∙ (ap (λ l. records_of n (states_in n k area) ++ l) e
    ∙ ap (λ (x : ℕ). records_of n (states_in n k area) ++ drop (x * record_size n) first) (sym (states_many n k area))))
