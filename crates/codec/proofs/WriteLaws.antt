-- Laws of bytes stored one run behind the other.
use mathlib.Core.List.{List, [], ◌∷◌, ◌++◌, append-nil, append_assoc}
use mathlib.Core.Path.{◌≡◌, refl, sym, ap, ◌∙◌}
use Prim.Native.Nat.{ℕ, zero, suc, ◌+◌, ◌≤◌, ◌<◌}
use native.Mathlib.Numerals.{add-one}
use native.Mathlib.Omega.{arith}
use lib.ListN.{length, get_or, set, take, drop, length-append, length-set, length-drop}
use lib.Seq.{take-length, take-suc, set-append_seam, length-take-le, drop-drop, take_at}
use Rattle.std.proofs.Common.{take-append-drop}
use Rattle.std.proofs.lemmas.List.{take_all}
use Rattle.codec.specs.Number.{put}
use Rattle.codec.specs.Answers.{Writes, Room}
use Rattle.codec.specs.Writing.{HasRoom, Wrote}
use Rattle.codec.specs.declared.writing.Writer.{Writer}
use Rattle.codec.specs.Arrays.{each}

-- two runs stored one behind the other are their join stored
pub put_append : (xs ys out : List ℕ) (at : ℕ) → put out at (xs ++ ys) ≡ put (put out at xs) (at + length xs) ys
unfolding put
put_append [] ys out at = ap (λ (n : ℕ). put out n ys) (omega arith)
put_append (x ∷ xs) ys out at =
    put_append xs ys (set out at x) (at + 1)
    ∙ ap (λ (n : ℕ). put (put (set out at x) (at + 1) xs) n ys) (omega arith)

-- nothing is stored
pub put_none : (out : List ℕ) (at : ℕ) → put out at [] ≡ out
unfolding put
put_none out at = refl

-- one byte, and what is behind it
pub put_byte : (x : ℕ) (xs out : List ℕ) (at : ℕ) → put out at (x ∷ xs) ≡ put (put out at (x ∷ [])) (at + 1) xs
unfolding put
put_byte x xs out at = refl

-- the area keeps its length
pub length_put : (xs out : List ℕ) (at : ℕ) → length (put out at xs) ≡ length out
unfolding put
length_put [] out at = refl
length_put (x ∷ xs) out at = length_put xs (set out at x) (at + 1) ∙ length-set out at x

-- two runs are as long as both
pub long_join : (xs ys : List ℕ) → length (xs ++ ys) ≡ length xs + length ys
long_join xs ys = length-append xs ys

-- what is stored leaves the area as long as it was
pub kept_long : {a b xs : List ℕ} {at end : ℕ} → Writes a at xs b end → length b ≡ length a
kept_long {a} {b} {xs} {at} w = ap length w.stored ∙ length_put xs a at

-- nothing stored, and one run behind another
pub wrote_none : {a : List ℕ} {at : ℕ} → Writes a at [] a at
unfolding put
wrote_none = record { ends = omega arith; stored = refl }

-- one writer behind another writes both runs
pub wrote_then : {a b d xs ys : List ℕ} {at m end : ℕ} → Writes a at xs b m → Writes b m ys d end
    → Writes a at (xs ++ ys) d end
wrote_then {a} {b} {d} {xs} {ys} {at} v w =
    record {
      ends = omega (arith, v.ends, w.ends, length-append xs ys);
      stored = w.stored ∙ rw (v.stored, v.ends) (sym (put_append xs ys a at));
    }

-- ---- the items of an array, one behind the other
pub each_append : {A : Type 0} (f : A → List ℕ) (xs : List A) (a : A) → each f (xs ++ (a ∷ [])) ≡ each f xs ++ f a
each_append f [] a = append-nil (f a)
each_append f (x ∷ xs) a = ap (◌++◌ (f x)) (each_append f xs a) ∙ sym (append_assoc (f x) (each f xs) (f a))

next_item : {A : Type 0} (f : A → List ℕ) (xs : List A) (d : A) (i : ℕ) → i < length xs
    → each f (take (i + 1) xs) ≡ each f (take i xs) ++ f (get_or xs i d)
next_item f xs d i l = rw add-one (ap (each f) (take-suc xs i d l) ∙ each_append f (take i xs) (get_or xs i d))

-- the first items take no more bytes than all of them
pub fewer : {A : Type 0} (f : A → List ℕ) (xs : List A) (i n : ℕ) → i ≤ n
    → length (each f (take i xs)) ≤ length (each f (take n xs))
fewer f xs zero n l = omega arith
fewer f xs (suc i) zero l = absurd (omega arith)
fewer f [] (suc i) (suc n) l = omega arith
fewer f (x ∷ xs) (suc i) (suc n) l =
    omega (
      arith,
      fewer f xs i n (omega arith),
      length-append (f x) (each f (take i xs)),
      length-append (f x)
          (each f (take n xs)),
    )

-- ---- room for one run, and for what comes behind it
pub room_first : (xs ys : List ℕ) {a : List ℕ} {at : ℕ} → Room at (xs ++ ys) a → Room at xs a
room_first xs ys h = record { fits = omega (arith, h.fits, length-append xs ys) }

-- behind the first run there is room for the second
pub room_next : (xs ys : List ℕ) {a b : List ℕ} {at m : ℕ} → Writes a at xs b m → Room at (xs ++ ys) a → Room m ys b
room_next xs ys w h = record { fits = omega (arith, h.fits, w.ends, kept_long w, length-append xs ys) }

-- what is stored at the start of an area fills it, and what is behind is as it was
put_behind : (ys xs out : List ℕ) → length xs ≤ length out
    → put (ys ++ out) (length ys) xs ≡ ys ++ (xs ++ drop (length xs) out)
unfolding put
put_behind ys [] out l = refl
put_behind ys (x ∷ xs) [] l = absurd (omega arith)
put_behind ys (x ∷ xs) (y ∷ out) l =
    let at : length ys + 1 ≡ length (ys ++ (x ∷ [])) = sym (length-append ys (x ∷ [])) in
    ap (λ (o : List ℕ). put o (length ys + 1) xs) (set-append_seam ys y out x ∙ sym (append_assoc ys (x ∷ []) out))
    ∙ ap (λ (k : ℕ). put ((ys ++ (x ∷ [])) ++ out) k xs) at ∙ put_behind (ys ++ (x ∷ [])) xs out (omega arith)
    ∙ append_assoc ys (x ∷ []) (xs ++ drop (length xs) out)

-- a run stored at the start
pub put_start : (xs out : List ℕ) → length xs ≤ length out → put out 0 xs ≡ xs ++ drop (length xs) out
put_start xs out l = put_behind [] xs out l

-- a run stored in an area that has room for it: what stands before it and behind it is as it was
pub put_within : (xs out : List ℕ) (at : ℕ) → at + length xs ≤ length out
    → put out at xs ≡ take at out ++ (xs ++ drop (at + length xs) out)
put_within xs out at l =
    let first : length (take at out) ≡ at = length-take-le at out (omega arith) in
    let behind = put_behind (take at out) xs (drop at out) (omega (arith, length-drop at out)) in
    rw (take-append-drop, first, drop-drop) at behind

-- so it is stored where it is copied over the bytes that stand there
pub copied_over : (xs out : List ℕ) (at k : ℕ) → k ≡ length xs → at + k ≤ length out
    → take at out ++ (xs ++ drop k (drop at out)) ≡ put out at xs
copied_over xs out at k e l = rw (e, drop-drop) (sym (put_within xs out at (omega (arith, e))))

-- bytes stored at the start of an area can be taken from it again
pub stored_first : {xs out after : List ℕ} {end : ℕ} → length xs ≤ length out → Writes out 0 xs after end
    → take end after ≡ xs
stored_first {xs} {out} {after} {end} l w =
    ap (take end) (w.stored ∙ put_start xs out l) ∙ take_at xs (drop (length xs) out) end (omega (arith, w.ends))

-- ---- writers
-- what is stored behind a run, and how long a run and an area are
pub ruleset stores = (put_append, put_byte, put_none, length_put, long_join)

-- in a loop over items: what is stored of the first i, and of all
module _ {A : Type 0} (f : A → List ℕ) (xs : List A) (i : ℕ) (d : A) {u w : Writer} where
  -- there is room for the next item
  pub item_room : HasRoom u (each f xs) → Wrote u (each f (take i xs)) w → i < length xs
      → HasRoom w (f (get_or xs i d))
  item_room r h l =
      let next = ap length (next_item f xs d i l) in
      let all = ap (λ (ys : List A). length (each f ys)) (take-length xs) in
      let some = fewer f xs (i + 1) (length xs) (omega arith) in
      let more = length-append (each f (take i xs)) (f (get_or xs i d)) in
      record { fits = omega (arith, r.fits, h.writes.ends, kept_long h.writes, some, next, all, more) }

  -- one item more
  pub item_more : {v : Writer} → Wrote u (each f (take i xs)) w → Wrote w (f (get_or xs i d)) v → i < length xs
      → Wrote u (each f (take (i + 1) xs)) v
  item_more h k l =
      rw (next_item f xs d i l) (record { same = k.same ∙ h.same; writes = wrote_then h.writes k.writes })

pub items_all : {A : Type 0} (f : A → List ℕ) (xs : List A) (i : ℕ) → length xs ≤ i → each f (take i xs) ≡ each f xs
items_all f xs i l = ap (each f) (take_all i xs l)

-- in a loop over items, of which the first i are stored: the next one
pub items_put : {A : Type 0} (f : A → List ℕ) (xs : List A) (i : ℕ) (d : A) (out : List ℕ) (at m : ℕ) → i < length xs
    → m ≡ at + length (each f (take i xs))
    → put (put out at (each f (take i xs))) m (f (get_or xs i d)) ≡ put out at (each f (take (i + 1) xs))
items_put f xs i d out at m l e =
    rw e (sym (put_append (each f (take i xs)) (f (get_or xs i d)) out at))
    ∙ ap (put out at) (sym (next_item f xs d i l))

pub items_long : {A : Type 0} (f : A → List ℕ) (xs : List A) (i : ℕ) (d : A) → i < length xs
    → length (each f (take i xs)) + length (f (get_or xs i d)) ≡ length (each f (take (i + 1) xs))
items_long f xs i d l =
    omega (arith, ap length (next_item f xs d i l), length-append (each f (take i xs)) (f (get_or xs i d)))

-- there is room for it where there is for all
pub items_room : {A : Type 0} (f : A → List ℕ) (xs : List A) (i : ℕ) (d : A) → i < length xs
    → length (each f (take i xs)) + length (f (get_or xs i d)) ≤ length (each f xs)
items_room {A} f xs i d l =
    omega (
      arith,
      fewer f xs (i + 1) (length xs) (omega arith),
      items_long f xs i d l,
      ap (λ (ys : List A). length (each f ys)) (take-length xs),
    )

-- a loop over items
pub ruleset items = (stores, items_all, items_put, items_long, items_room)
