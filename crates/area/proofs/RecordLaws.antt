-- Laws of records: the words of a record, and the state that they stand for.
use mathlib.Core.Bool.{Bool, true, false, cond}
use mathlib.Core.List.{List, ◌++◌, append_assoc}
use mathlib.Core.Path.{◌≡◌, refl, sym, ap, ◌∙◌}
use Prim.Native.Nat.{ℕ, zero, suc, ◌+◌, ◌-◌, ◌*◌, ◌/◌, ◌≤◌, ◌<◌, min}
use native.Mathlib.Decide.{dec_lt}
use native.Mathlib.Nat.{zero-mul, suc-mul, add-zero, mul-le-mul_right}
use native.Mathlib.Numerals.{add-one}
use native.Mathlib.Omega.{arith}
use lib.Dec.{ltb}
use lib.IntN.{ℤ, pos}
use lib.ListN.{length, get_or, take, drop, replicate, length-append, length-replicate, take-append-drop}
use lib.Seq.{get_or-drop, drop-drop, take_at}
use lib.Arith.{digits_div}
use lib.Ieee.Nearest.{div_mono}
use lib.Signed.{mag}
use mir.Syntax.{w32}
use mir.Val.{to_z, of_z}
use Rattle.numbers.proofs.WordLaws.{back}
use Rattle.algebra.specs.Vectors.{count}
use Rattle.sets.specs.Limits.{Whole}
use Rattle.sets.proofs.RowLaws.{row_inside}
use Rattle.runs.specs.Rule.{State}
use borrow.Author.Tests.{lt-ltb, le-ltb, ltb-true, ltb-false}
use Rattle.area.specs.Area.{record_size, record_of, room_of}
use Rattle.area.specs.Records.{record_at, state_of, state_in, state, Stands}

-- a whole list fits a record
pub list_fits_lem : (n : ℕ) (l : List ℤ) → Whole n l → length l ≤ 32 * suc n
list_fits_lem n l w = let g = mul-le-mul_right (suc n) w.few in omega (arith, w.exact)

-- a record's size as code computes it
pub size_plus : (n : ℕ) → 4 + 32 * (n + 1) ≡ record_size n
unfolding record_size
size_plus n = ap (λ (w : ℕ). 4 + 32 * w) (add-one n)

-- a record's size as arithmetic reads it
pub size_is : (n : ℕ) → record_size n ≡ 4 + 32 * suc n
unfolding record_size
size_is n = refl

-- the room of an area, by its whole records
module _ (n : ℕ) (area : List ℤ) (r : ℕ) (q : r ≡ record_size n) where
  room_few : length area / r < 64 → length area / r ≡ room_of n area
  unfolding room_of
  room_few h = rw (← q, lt-ltb (length area / r) 64 h)

  -- the room where 64 records or more fit
  pub room_many : 64 ≤ length area / r → 64 ≡ room_of n area
  unfolding room_of
  room_many h = rw (← q, le-ltb (length area / r) 64 h)

  -- as code computes it
  pub room_min : (m : ℕ) → m ≡ min (length area / r) 64 → m ≡ room_of n area
  room_min m e = by (dec_lt (length area / r) 64)
    where
      by : Dec (length area / r < 64) → m ≡ room_of n area
      by (yes h) = let f : m ≡ length area / r = omega arith in f ∙ room_few h
      by (no h) = let f : m ≡ 64 = omega (arith, h) in f ∙ room_many (omega (arith, h))

-- a record has its size
pub record_size_lem : (n : ℕ) (s : State) → Whole n s.list → length (record_of n s) ≡ record_size n
unfolding record_of
record_size_lem n s w = omega (
  arith,
  size_is n,
  list_fits_lem n s.list w,
  length-append s.list (replicate (32 * suc n - length s.list) (pos 0)),
  length-replicate (32 * suc n - length s.list) (pos 0),
)

-- the words of a record stand for its state
pub state_back : (n : ℕ) (s : State) → Whole n s.list → state_of n (record_of n s) ≡ s
unfolding state_of record_of
state_back n s w = ap (λ l. state s.location s.parent s.edge l)
    (take_at s.list (replicate (32 * suc n - length s.list) (pos 0)) (count n s.list * suc n) w.exact)

-- record i is inside, if m records are
pub row_in : (r : ℕ) {i m len : ℕ} → i < m → m * r ≤ len → suc i * r ≤ len
row_in r h g = let q = mul-le-mul_right r h in omega arith

-- ---- the record i of an area
module _ (n : ℕ) (area : List ℤ) (i : ℕ) (h : Stands n area i) where
  abbrev at : ℕ
  at = i * record_size n

  abbrev s : State
  s = state_in n area i

  -- the words from its start on
  split : drop at area ≡ record_of n s ++ drop (record_size n) (drop at area)
  unfolding record_at
  split = sym (take-append-drop (record_size n) (drop at area))
      ∙ ap (λ r. r ++ drop (record_size n) (drop at area)) h.exact

  -- it lies in the area
  pub room : at + (4 + 32 * suc n) ≤ length area
  room = omega (arith, h.fits, suc-mul i (record_size n), size_is n)

  -- its first word is the state's location
  pub location_word : get_or area at (pos 0) ≡ pos s.location
  unfolding record_of
  location_word = ap (λ (k : ℕ). get_or area k (pos 0)) (sym (add-zero at)) ∙ sym (get_or-drop at area 0 (pos 0))
      ∙ ap (λ l. get_or l 0 (pos 0)) split

  -- word 3 is its vector count
  pub count_word : get_or area (at + 3) (pos 0) ≡ pos (count n s.list)
  unfolding record_of
  count_word = sym (get_or-drop at area 3 (pos 0)) ∙ ap (λ l. get_or l 3 (pos 0)) split

  -- its list stands from word 4 on
  pub list_part : take (count n s.list * suc n) (drop (at + 4) area) ≡ s.list
  unfolding record_of
  list_part =
      let zeros : List ℤ = replicate (32 * suc n - length s.list) (pos 0) in
      let rest : List ℤ = drop (record_size n) (drop at area) in
      ap (take (count n s.list * suc n))
      (sym (drop-drop 4 at area) ∙ (ap (drop 4) split ∙ append_assoc s.list zeros rest))
      ∙ take_at s.list (zeros ++ rest) (count n s.list * suc n) h.proper.whole.exact

  -- its vectors fit the record
  pub few : count n s.list * suc n ≤ 32 * suc n
  few = mul-le-mul_right (suc n) h.proper.whole.few

-- ---- read by code, which has the size in a local
module _ (n i r : ℕ) (area : List ℤ) (q : r ≡ record_size n) (h : Stands n area i) where
  -- the record lies in the area
  pub read_room : i * r + (4 + 32 * suc n) ≤ length area
  read_room = let p : i * r ≡ i * record_size n = ap (λ (x : ℕ). i * x) q in omega (arith, room n area i h)

  -- the location as code reads it
  pub location_read : mag (get_or area (i * r) (pos 0)) < 2147483648
      → to_z w32 (of_z w32 (get_or area (i * r) (pos 0))) ≡ pos (state_in n area i).location
  location_read g = back g ∙ (ap (λ (x : ℕ). get_or area (i * x) (pos 0)) q ∙ location_word n area i h)

  -- the location fits a word
  pub location_small : mag (get_or area (i * r) (pos 0)) < 2147483648 → (state_in n area i).location < 2147483648
  location_small g =
      let e : get_or area (i * r) (pos 0) ≡ pos (state_in n area i).location = sym (back g) ∙ location_read g in
      let m : mag (get_or area (i * r) (pos 0)) ≡ mag (pos (state_in n area i).location) = ap mag e in
      omega (arith, m)

  -- the vector count as code reads it
  pub count_read : mag (get_or area (i * r + 3) (pos 0)) < 2147483648
      → to_z w32 (of_z w32 (get_or area (i * r + 3) (pos 0))) ≡ pos (count n (state_in n area i).list)
  count_read g = back g ∙ (ap (λ (x : ℕ). get_or area (i * x + 3) (pos 0)) q ∙ count_word n area i h)

  -- the list that `locate` answers
  pub list_located : (c : ℕ) → c ≡ count n (state_in n area i).list
      → take ((i * r + 4 + c * (n + 1)) - (i * r + 4)) (drop (i * r + 4) area) ≡ (state_in n area i).list
  list_located c f =
      let z : (i * r + 4 + c * (n + 1)) - (i * r + 4) ≡ c * (n + 1) = omega arith in
      let g : c * (n + 1) ≡ count n (state_in n area i).list * suc n
      = ap (λ (k : ℕ). k * (n + 1)) f ∙ ap (λ (w : ℕ). count n (state_in n area i).list * w) (add-one n) in
      ap (λ (x : ℕ). take x (drop (i * r + 4) area)) (z ∙ g)
      ∙ (ap (λ (x : ℕ). take (count n (state_in n area i).list * suc n) (drop (i * x + 4) area)) q
      ∙ list_part n area i h)

  -- the list ends in the area
  pub list_ends : (c : ℕ) → c ≡ count n (state_in n area i).list → i * r + 4 + c * (n + 1) ≤ length area
  list_ends c f =
      let g : c * (n + 1) ≡ count n (state_in n area i).list * suc n
      = ap (λ (k : ℕ). k * (n + 1)) f ∙ ap (λ (w : ℕ). count n (state_in n area i).list * w) (add-one n) in
      omega (arith, read_room, few n area i h, g)

-- ---- the room
cap_by : (b : Bool) (a : ℕ) → ltb a 64 ≡ b → cond b a 64 ≤ 64
cap_by true a e = let h = ltb-true a 64 e in omega arith
cap_by false a e = omega arith

below_by : (b : Bool) (a : ℕ) → ltb a 64 ≡ b → cond b a 64 ≤ a
below_by true a e = omega arith
below_by false a e = let h = ltb-false a 64 e in omega arith

-- the room is at most 64
pub room_cap : (n : ℕ) (area : List ℤ) → room_of n area ≤ 64
unfolding room_of
room_cap n area = cap_by (ltb (length area / record_size n) 64) (length area / record_size n) refl

fits_by : (r w k : ℕ) → r ≤ k / w → r * w ≤ k
fits_by zero w k h = omega (arith, zero-mul w)
fits_by (suc r) w k h = omega (arith, row_inside r w k h, suc-mul r w)

-- so many records lie in the area
pub room_fits : (n : ℕ) (area : List ℤ) → room_of n area * record_size n ≤ length area
unfolding room_of
room_fits n area = fits_by _ (record_size n) (length area)
    (below_by (ltb (length area / record_size n) 64) (length area / record_size n) refl)

-- there is room for a state exactly if the area has a record
above_by : (b : Bool) (a : ℕ) → ltb a 64 ≡ b → 1 ≤ a → 1 ≤ cond b a 64
above_by true a e h = h
above_by false a e h = omega arith

-- an area of a record has room for one
pub room_one : (n : ℕ) (area : List ℤ) → record_size n ≤ length area → 1 ≤ room_of n area
unfolding room_of
room_one n area h = above_by (ltb (length area / record_size n) 64) (length area / record_size n) refl
    (omega (arith, one, div_mono (1 * size + 0) size (length area) size some some more))
  where
    size : ℕ
    size = record_size n

    some : 0 < size
    some = omega (arith, size_is n)

    one : (1 * size + 0) / size ≡ 1
    one = digits_div 1 {m = size} {r = 0} some

    more : (1 * size + 0) * size ≤ length area * size
    more = mul-le-mul_right size (omega (arith, h))

-- an area with room has a record
pub room_some : (n : ℕ) (area : List ℤ) → 1 ≤ room_of n area → record_size n ≤ length area
room_some n area h =
    let g : 1 * record_size n ≤ room_of n area * record_size n = mul-le-mul_right (record_size n) h in
    omega (arith, g, room_fits n area)
