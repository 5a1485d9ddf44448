-- The vectors of a list of words as `chunks_exact` gives them, and a test of each item as `all` answers it.
use Rattle.std.proofs.Common.{Option, None, Some}
use Rattle.std.specs.Iterator.{AlwaysYields, Yields}
use Rattle.std.specs.Iterator.Adapters.{zip_first, zip_second, enumerate_source, enumerate_count, enumerate_steps}
use Rattle.std.specs.List.{list_all, zip, enumerate_from}
use Rattle.std.specs.Slice.Iter.{iter_rest, chunks_exact_rest, chunks_exact_size, chunks_exact_steps}
use Rattle.std.proofs.iter.Yields.{fronts}
use Rattle.std.proofs.lemmas.Iterator.{YieldsList, zips, YieldsList-from_slice, YieldsList-from_zip}
use Rattle.std.proofs.lemmas.Nat.{le-div}
use Rattle.std.proofs.lemmas.Iterator.Consumers.{YieldsList-turn, YieldsList-end, YieldsList-from_enumerate}
use Rattle.std.proofs.lemmas.List.{get_or_default}
use Rattle.std.proofs.lemmas.List.FromFn.{length-enumerate_from, get_or-enumerate_from}
use Rattle.std.proofs.lemmas.Slice.Zip.{length-zip, get_or-zip}
use mathlib.Core.Bool.{Bool, true, false, ◌&&◌}
use mathlib.Core.List.{List, [], ◌∷◌, ◌++◌}
use mathlib.Core.Path.{◌≡◌, refl, sym, ◌∙◌, ap}
use Prim.Native.Nat.{ℕ, zero, suc, ◌+◌, ◌*◌, ◌/◌, ◌≤◌, ◌<◌}
use native.Mathlib.Nat.{zero-mul, suc-mul, div-mul-le_self, lt-div-mul-add}
use native.Mathlib.Omega.{arith}
use denote.Ref.{Bor}
use lib.IntN.{ℤ}
use lib.ListN.{length, get_or, take, drop, length-append, length-drop}
use lib.Seq.{take_at, drop_at, drop-drop}
use Rattle.numbers.specs.Tests.{every}
use Rattle.sets.specs.Tests.{part}

-- the first m rows of w words
pub rows : ℕ → ℕ → List ℤ → List (List ℤ)
rows w zero l = []
rows w (suc m) l = take w l ∷ rows w m (drop w l)

-- how many they are
pub rows_long : (w m : ℕ) (l : List ℤ) → length (rows w m l) ≡ m
unfolding rows
rows_long w zero l = refl
rows_long w (suc m) l = ap suc (rows_long w m (drop w l))

-- row i
pub rows_at : (w m : ℕ) (l d : List ℤ) (i : ℕ) → i < m → get_or (rows w m l) i d ≡ part l (i * w) w
unfolding rows part
rows_at w zero l d i h = absurd (omega arith)
rows_at w (suc m) l d zero h = rw (zero-mul w)
rows_at w (suc m) l d (suc i) h = rows_at w m (drop w l) d i (omega arith)
    ∙ ap (take w) (drop-drop (i * w) w l ∙ ap (λ (k : ℕ). drop k l) (omega (arith, suc-mul i w)))

always : (s : _) (w m : ℕ) (l : List ℤ) → 0 < w → chunks_exact_rest s ≡ l → chunks_exact_size s ≡ w → m * w ≤ length l
    → length l < m * w + w → AlwaysYields chunks_exact_steps (λ x. x.now) s (rows w m l)
unfolding rows
always s w zero l p r z a b =
    λ x j h. omega (arith, ap length r, ap length h.1.0, h.1.1, length-append x.now (chunks_exact_rest j), zero-mul w)
always s w (suc m) l p r z a b = (
  λ j h. omega (arith, ap length r, h.1.0, suc-mul m w),
  λ x j h.
      let e : l ≡ x.now ++ chunks_exact_rest j = sym r ∙ h.1.0 in
      let n : length x.now ≡ w = h.1.1 ∙ z in
      let t : drop w l ≡ chunks_exact_rest j = ap (drop w) e ∙ drop_at x.now (chunks_exact_rest j) w n in (
        sym (ap (take w) e ∙ take_at x.now (chunks_exact_rest j) w n),
        always j w m (drop w l) p (sym t) (h.0 ∙ z) (omega (arith, length-drop w l, suc-mul m w))
            (omega (arith, length-drop w l, suc-mul m w)),
      ),
)

-- `chunks_exact` gives the whole rows
pub chunks : {s : _} (w : ℕ) (l : List ℤ) → 0 < w → chunks_exact_rest s ≡ l → chunks_exact_size s ≡ w
    → YieldsList chunks_exact_steps (λ x. x.now) s (rows w (length l / w) l)
chunks w l p r z = record {
  runs = always _ w (length l / w) l p r z (div-mul-le_self (length l) w)
      (lt-div-mul-add p);
}

-- the next of them
pub next_row : (s : _) (w : ℕ) (l : List ℤ) → 0 < w → chunks_exact_rest s ≡ l → chunks_exact_size s ≡ w
    → (xs : List (Bor (List ℤ))) (t : _) → Yields chunks_exact_steps s xs t → (r : Option (Bor (List ℤ))) (u : _)
    (x : Bor (List ℤ)) → r ≡ Some x → chunks_exact_steps t r u
    → (length xs < length l / w) × (x.now ≡ part l (length xs * w) w)
next_row s w l p f z xs t y r u x is step =
    let d = YieldsList-turn (chunks w l p f z) xs t y r u x is step in
    let h : length xs < length l / w = omega (arith, rows_long w (length l / w) l) in
    (h, d.1 ∙ rows_at w (length l / w) l x.now (length xs) h)

-- and how many there were
pub last_row : (s : _) (w : ℕ) (l : List ℤ) → 0 < w → chunks_exact_rest s ≡ l → chunks_exact_size s ≡ w
    → (xs : List (Bor (List ℤ))) (t : _) → Yields chunks_exact_steps s xs t → (r : Option (Bor (List ℤ))) (u : _)
    → r ≡ None → chunks_exact_steps t r u → length xs ≡ length l / w
last_row s w l p f z xs t y r u is step =
    (YieldsList-end (chunks w l p f z) xs t y r u is step).1 ∙ rows_long w (length l / w) l

-- row k, counted
counted_row : (w m k i : ℕ) (l v : List ℤ) → k < length (enumerate_from 0 (rows w m l))
    → (i, v) ≡ get_or (enumerate_from 0 (rows w m l)) k (i, v) → (k < m) × (i ≡ k) × (v ≡ part l (k * w) w)
counted_row w m k i l v h e =
    let r : k < length (rows w m l) = omega (arith, length-enumerate_from 0 (rows w m l)) in
    let b : k < m = omega (arith, rows_long w m l) in
    let q : (i, v) ≡ (0 + k, get_or (rows w m l) k v) = e ∙ get_or-enumerate_from 0 (rows w m l) k (i, v) r in
    (b, ap (λ p. p.0) q ∙ omega arith, ap (λ p. p.1) q ∙ rows_at w m l v k b)

-- the next of them
pub next_counted : (s : _) (w : ℕ) (l : List ℤ) → 0 < w → chunks_exact_rest (enumerate_source s) ≡ l
    → chunks_exact_size (enumerate_source s) ≡ w → enumerate_count s ≡ 0
    → (xs : List (ℕ × Bor (List ℤ))) (t : _) → Yields (enumerate_steps chunks_exact_steps) s xs t
    → (r : Option (ℕ × Bor (List ℤ))) (u : _) (x : ℕ × Bor (List ℤ)) → r ≡ Some x
    → enumerate_steps chunks_exact_steps t r u
    → (length xs < length l / w) × (x.0 ≡ length xs) × (x.1.now ≡ part l (length xs * w) w)
next_counted s w l p f z n xs t y r u x is step =
    let d = YieldsList-turn (YieldsList-from_enumerate (chunks w l p f z) n) xs t y r u x is step in
    counted_row w (length l / w) (length xs) x.0 l x.1.now d.0 d.1

-- and how many there were
pub last_counted : (s : _) (w : ℕ) (l : List ℤ) → 0 < w → chunks_exact_rest (enumerate_source s) ≡ l
    → chunks_exact_size (enumerate_source s) ≡ w → enumerate_count s ≡ 0
    → (xs : List (ℕ × Bor (List ℤ))) (t : _) → Yields (enumerate_steps chunks_exact_steps) s xs t
    → (r : Option (ℕ × Bor (List ℤ))) (u : _) → r ≡ None → enumerate_steps chunks_exact_steps t r u
    → length xs ≡ length l / w
last_counted s w l p f z n xs t y r u is step =
    (YieldsList-end (YieldsList-from_enumerate (chunks w l p f z) n) xs t y r u is step).1
    ∙ length-enumerate_from 0 (rows w (length l / w) l) ∙ rows_long w (length l / w) l

-- flag k with row k
flagged_row : (w m k : ℕ) (flags : List Bool) (l v : List ℤ) (b : Bool) → length flags ≤ m
    → k < length (zip flags (rows w m l)) → (b, v) ≡ get_or (zip flags (rows w m l)) k (b, v)
    → (k < length flags) × (b ≡ get_or flags k false) × (v ≡ part l (k * w) w)
flagged_row w m k flags l v b a h e =
    let n : k < length flags = omega (arith, length-zip flags (rows w m l)) in
    let r : k < length (rows w m l) = omega (arith, rows_long w m l) in
    let c : k < m = omega arith in
    let q : (b, v) ≡ (get_or flags k b, get_or (rows w m l) k v) = e ∙ get_or-zip flags (rows w m l) k (b, v) n r in
    (n, ap (λ p. p.0) q ∙ get_or_default flags k b false n, ap (λ p. p.1) q ∙ rows_at w m l v k c)

-- and how many there are
flagged_rows : (w m : ℕ) (flags : List Bool) (l : List ℤ) → length flags ≤ m
    → length (zip flags (rows w m l)) ≡ length flags
flagged_rows w m flags l a = omega (arith, length-zip flags (rows w m l), rows_long w m l)

-- the next of them
pub next_flagged : (s : _) (flags : List Bool) (w : ℕ) (l : List ℤ) → 0 < w → length flags * w ≤ length l
    → iter_rest (zip_first s) ≡ flags → chunks_exact_rest (zip_second s) ≡ l → chunks_exact_size (zip_second s) ≡ w
    → (xs : List (Bor Bool × Bor (List ℤ))) (t : _) → Yields (zips fronts chunks_exact_steps) s xs t
    → (r : Option (Bor Bool × Bor (List ℤ))) (u : _) (x : Bor Bool × Bor (List ℤ)) → r ≡ Some x
    → zips fronts chunks_exact_steps t r u
    → (length xs < length flags) × (x.0.now ≡ get_or flags (length xs) false) × (x.1.now ≡ part l (length xs * w) w)
next_flagged s flags w l p h g f z xs t y r u x is step =
    let d = YieldsList-turn (YieldsList-from_zip (YieldsList-from_slice flags g) (chunks w l p f z)) xs t y r u x is step in
    flagged_row w (length l / w) (length xs) flags l x.1.now x.0.now (le-div (length flags) (length l) w p h) d.0 d.1

-- and how many there were
pub last_flagged : (s : _) (flags : List Bool) (w : ℕ) (l : List ℤ) → 0 < w → length flags * w ≤ length l
    → iter_rest (zip_first s) ≡ flags → chunks_exact_rest (zip_second s) ≡ l → chunks_exact_size (zip_second s) ≡ w
    → (xs : List (Bor Bool × Bor (List ℤ))) (t : _) → Yields (zips fronts chunks_exact_steps) s xs t
    → (r : Option (Bor Bool × Bor (List ℤ))) (u : _) → r ≡ None → zips fronts chunks_exact_steps t r u
    → length xs ≡ length flags
last_flagged s flags w l p h g f z xs t y r u is step =
    (YieldsList-end (YieldsList-from_zip (YieldsList-from_slice flags g) (chunks w l p f z)) xs t y r u is step).1
    ∙ flagged_rows w (length l / w) flags l (le-div (length flags) (length l) w p h)

-- ---- a test of each item, from the front as from the back
every_front : (m : ℕ) (p : ℕ → Bool) → every (suc m) p ≡ (p 0 && every m (λ j. p (suc j)))
every_front zero p = go (p 0)
  where
    go : (b : Bool) → b ≡ b && true
    go true = refl
    go false = refl
every_front (suc m) p = ap (λ b. b && p (suc m)) (every_front m p) ∙ go (p 0) (every m (λ j. p (suc j))) (p (suc m))
  where
    go : (a b c : Bool) → ((a && b) && c) ≡ (a && (b && c))
    go true b c = refl
    go false b c = refl

pub all_every : {A : Type 0} (t : A → Bool) (xs : List A) (d : A) → list_all t xs ≡ every (length xs) (λ j. t (get_or xs j d))
all_every t [] d = refl
all_every t (x ∷ xs) d = ap (λ b. t x && b) (all_every t xs d) ∙ sym (every_front (length xs) (λ j. t (get_or (x ∷ xs) j d)))

-- tests that agree
pub every_ext : {p r : ℕ → Bool} (k : ℕ) → ((j : ℕ) → j < k → p j ≡ r j) → every k p ≡ every k r
every_ext zero h = refl
every_ext (suc k) h = rw (every_ext k (λ j l. h j (omega arith)), h k (omega arith))
