-- The canonical list of the vectors in working memory, as the steps of the code find it.
use Rattle.std.proofs.Common.{Err, Ok}
use mathlib.Core.Bool.{Bool, true, false, cond}
use mathlib.Core.List.{List, [], ◌∷◌, ◌++◌}
use mathlib.Core.Path.{◌≡◌, refl, sym, ◌∙◌, ap, subst}
use Prim.Native.Nat.{ℕ, zero, suc, ◌+◌, ◌*◌, ◌/◌, ◌≤◌, ◌<◌}
use native.Mathlib.Nat.{mul-div_cancel, mul-le-mul_right}
use native.Mathlib.Omega.{arith}
use lib.Dec.{leb}
use lib.IntN.{ℤ}
use lib.ListN.{length, get_or, set, take, drop, replicate, length-replicate}
use lib.Seq.{length-take-le}
use Rattle.numbers.specs.Numbers.{Num, −∞, fin}
use Rattle.numbers.specs.Places.{Vec}
use Rattle.numbers.specs.Tests.{some}
use Rattle.numbers.specs.declared.Refusal.TheVariants.{Range, Gens}
use Rattle.numbers.proofs.Tells.{Tells, clash, always, means, passes, fails, tells_settled, itself}
use Rattle.numbers.proofs.Tells.{tells_every, tells_leb}
use Rattle.algebra.specs.Vectors.{Vector, entry, vector, family, words}
use Rattle.algebra.specs.Working.{is_point, some_point}
use Rattle.algebra.proofs.Entries.{Same}
use Rattle.algebra.proofs.Made.{Long}
use Rattle.sets.specs.Tests.{finite}
use Rattle.sets.specs.Rules.{flat, has_point}
use Rattle.sets.specs.Falls.{masked}
use Rattle.sets.proofs.Membership.{attained_ext}
use Rattle.sorting.specs.Rows.{held}
use Rattle.sorting.specs.Emit.{IsKind, Stands, Sorted, Many}
use Rattle.sorting.proofs.Held.{held_length, held_long, held_at, held_take, words_held}
use Rattle.sorting.proofs.Order.{same_vector}
use Rattle.sorting.proofs.Settled.{not_longer}
use Rattle.making.specs.Types.{Made}
use Rattle.making.specs.Clean.{try_one, clean_from, clean_flags, kept, sorted, cleaned}
use Rattle.making.specs.Rules.{entry_ok, range_ok, refused_by, written, finished}
use Rattle.making.specs.Finish.{Cleanable, Writable, Writes, sorted_alive, Finishable, Finishes}
use Rattle.making.specs.Finish.{canonical_held, row_ok, alive_ok}
use Rattle.making.proofs.Cleaned.{On, flags_clean}
use Rattle.making.proofs.Existence.{Sorts, sorts_same, sorted_sorts}

-- ---- a list written, or refused
written_few : (R : List Vector) (area : List ℤ) → length R ≤ 32
    → written R area ≡ record { made = Ok (length R); area = words R ++ drop (length (words R)) area }
written_few R area h = let e : leb (length R) 32 ≡ true = passes (tells_leb (length R) 32) h in rw e

written_many : (R : List Vector) (area : List ℤ) → ¬ (length R ≤ 32) → written R area ≡ refused_by (Err Gens) area
written_many R area h = let e : leb (length R) 32 ≡ false = fails (tells_leb (length R) 32) h in rw e

-- ---- the vectors that are on, sorted
module _ (n : ℕ) (work : List ℤ) (m : ℕ) (whole : m * suc n ≤ length work)
    (kinds : (i : ℕ) → i < m → IsKind n (vector (held (suc n) m work) i)) where
  abbrev H : List Vector
  H = held (suc n) m work

  inside : (i : ℕ) → i < length H → i < m
  inside i l = subst (λ k. i < k) (held_length (suc n) m work) l

  on : (flags : List Bool) (i : ℕ) → i < m → get_or flags i false ≡ true → On (length H) flags i
  on flags i l e = (subst (λ k. i < k) (sym (held_length (suc n) m work)) l, e)

  long : Long n H
  long i l = held_long (suc n) m work i (inside i l) whole

  sorts : (flags : List Bool) → Sorts n H (On (length H) flags) (sorted n (kept flags H))
  sorts flags = sorted_sorts n H long (λ i l. kinds i (inside i l)) flags

  -- what is emitted is the sorted list
  emitted : (flags : List Bool) (k : ℕ) (before after : List ℤ) → Sorted n (suc n) work m flags k before after
      → held (suc n) k after ≡ sorted n (kept flags H)
  emitted flags k before after s = sorts_same n H (On (length H) flags) (held (suc n) k after) (sorted n (kept flags H))
      (record {
        long = λ i l. let a = s.picked.sound i l in
            ap length a.same ∙ held_long (suc n) m work a.at a.inside whole;
        rising = s.picked.rising;
        from = λ i l. let a = s.picked.sound i l in
            (a.at, on flags a.at a.inside a.on, λ j b. ap (λ v. entry v j) a.same);
        all = λ i o. let a = s.whole i (inside i o.0) o.1 in
            (a.at, a.inside, λ j b. ap (λ v. entry v j) (sym a.same));
      }) (sorts flags)

  -- where there are too many, the sorted list is too long
  too_long : (flags : List Bool) → Many n (suc n) work m flags → ¬ (length (sorted n (kept flags H)) ≤ 32)
  too_long flags t h = omega (
    arith,
    t.count,
    h,
    not_longer n t.E R t.picked.rising (sorts flags).rising stands,
  )
    where
      R : List Vector
      R = sorted n (kept flags H)

      stands : (i : ℕ) → i < length t.E → Stands R (vector t.E i)
      stands i l =
          let a = t.picked.sound i l in
          let (p, q, e) = (sorts flags).all a.at (on flags a.at a.inside a.on) in
          record {
            at = p;
            inside = q;
            same = a.same ∙ same_vector n (vector H a.at) (vector R p)
                (held_long (suc n) m work a.at a.inside whole) ((sorts flags).long p q) (λ j b. sym (e j b));
          }

-- ---- writing
-- at most 32 vectors end where 32 have room
pub front_ends : (n k size : ℕ) → k ≤ 32 → 32 * suc n ≤ size → k * suc n ≤ size
front_ends n k size h b = omega (arith, mul-le-mul_right (suc n) h, b)

module _ (n : ℕ) (work : List ℤ) (alive : List Bool) (area : List ℤ) (g : Writable n work alive area) where
  -- too many
  pub writes_many : Many n (suc n) work (length alive) alive → Writes n work alive area (Err Gens) area
  writes_many t =
      let l = too_long n work (length alive) g.whole g.kinds alive t in
      let e = written_many (sorted_alive n work alive) area l in
      record { made = ap (λ r. r.made) (sym e); area = ap (λ r. r.area) (sym e) }

  -- the words of those that were emitted stand in front
  pub writes_done : (k : ℕ) (before result front : List ℤ) → Sorted n (suc n) work (length alive) alive k before result
      → k * suc n ≤ length result → front ≡ take (k * suc n) result
      → Writes n work alive area (Ok k) (front ++ drop (k * suc n) area)
  writes_done k before result front s l q = record {
    made = ap Ok (sym count) ∙ ap (λ r. r.made) (sym e);
    area = ap (λ z. z ++ drop (k * suc n) area) q
        ∙ ap (λ z. take (k * suc n) result ++ drop z area) (sym size)
        ∙ ap (λ w. w ++ drop (length w) area) (sym all) ∙ ap (λ r. r.area) (sym e);
  }
    where
      R : List Vector
      R = sorted_alive n work alive

      same : held (suc n) k result ≡ R
      same = emitted n work (length alive) g.whole g.kinds alive k before result s

      count : length R ≡ k
      count = ap length (sym same) ∙ held_length (suc n) k result

      all : words R ≡ take (k * suc n) result
      all = ap words (sym same) ∙ words_held (suc n) k result l

      size : length (take (k * suc n) result) ≡ k * suc n
      size = length-take-le (k * suc n) result l

      e : written R area ≡ record { made = Ok (length R); area = words R ++ drop (length (words R)) area }
      e = written_few R area (omega (arith, count, s.few))

-- ---- the flags that cleaning leaves depend only on the entries of the vectors
module _ (d m : ℕ) (G F : ℕ → Vec) (e : (i j : ℕ) → i < m → j < d → G i j ≡ F i j) where
  try_ext : (flags : List Bool) (i : ℕ) → i < m → try_one d m G flags i ≡ try_one d m F flags i
  unfolding try_one masked
  try_ext flags i l = ap (λ b. cond b (set flags i false) flags)
      (attained_ext d m (masked (set flags i false) G) (masked (set flags i false) F) (G i) (F i)
      (λ t j a b. ap (λ x. cond (get_or (set flags i false) t false) x −∞) (e t j a b)) (λ j b. e i j l b))

  from_ext : (k i : ℕ) (flags : List Bool) → i + k ≤ m → clean_from d m G flags i k ≡ clean_from d m F flags i k
  unfolding clean_from
  from_ext zero i flags l = refl
  from_ext (suc k) i flags l = from_ext k (suc i) (try_one d m G flags i) (omega arith)
      ∙ ap (λ b. clean_from d m F b (suc i) k) (try_ext flags i (omega arith))

  flags_ext : clean_flags d m G ≡ clean_flags d m F
  unfolding clean_flags
  flags_ext = from_ext m 0 (replicate m true) (omega arith)

-- tests that agree on each number below k agree on whether some passes
pub some_ext : {p r : ℕ → Bool} (k : ℕ) → ((j : ℕ) → j < k → p j ≡ r j) → some k p ≡ some k r
some_ext zero h = refl
some_ext (suc k) h = rw (some_ext k (λ j l. h j (omega arith)), h k (omega arith))

-- the last entry of a point is not −∞
pub finite_point : (x : Num) → finite x ≡ is_point x
finite_point −∞ = refl
finite_point (fin z) = refl

-- each clock of X is within the limits of a result
abbrev Fine : ℕ → Vec → Type 0
Fine n X = (j : ℕ) → j < n → entry_ok (is_point (X n)) (X j) ≡ true

fine_same : (n : ℕ) {X Y : Vec} → Same (suc n) X Y → Fine n X → Fine n Y
fine_same n {X} {Y} e h j l = subst (λ x. entry_ok (is_point x) (Y j) ≡ true) (e n (omega arith))
    (subst (λ x. entry_ok (is_point (X n)) x ≡ true) (e j (omega arith)) (h j l))

tells_row : (n : ℕ) (X : Vec) → Tells (row_ok n X) (Fine n X)
unfolding row_ok
tells_row n X = tells_every _ (λ j. entry_ok (is_point (X n)) (X j) ≡ true) n
    (λ j l. itself (entry_ok (is_point (X n)) (X j)))

tells_rows : (n : ℕ) (R : List Vector) → Tells (range_ok n R) ((i : ℕ) → i < length R → Fine n (family R i))
unfolding range_ok row_ok
tells_rows n R = tells_every _ (λ i. Fine n (family R i)) (length R) (λ i l. tells_row n (family R i))

tells_alive : (n : ℕ) (flags : List Bool) (G : ℕ → Vec)
    → Tells (alive_ok n flags G) ((i : ℕ) → i < length flags → get_or flags i false ≡ true → Fine n (G i))
unfolding alive_ok
tells_alive n flags G = tells_every _ (λ i. get_or flags i false ≡ true → Fine n (G i)) (length flags)
    (λ i l. at (get_or flags i false) (G i))
  where
    at : (b : Bool) (X : Vec) → Tells (cond b (row_ok n X) true) (b ≡ true → Fine n X)
    at true X = means (λ h e. h) (λ h. h refl) (tells_row n X)
    at false X = always (λ e. absurd (clash (sym e)))

-- ---- finishing
-- the first k of m flags that are all on
trues : (k m : ℕ) → k ≤ m → take k (replicate m true) ≡ replicate k true
trues zero m h = refl
trues (suc k) zero h = absurd (omega arith)
trues (suc k) (suc m) h = ap (λ l. true ∷ l) (trues k m (omega arith))

-- there are k of them
pub trues_long : (k : ℕ) → k ≤ 272 → length (take k (replicate 272 true)) ≡ k
trues_long k h = ap length (trues k 272 h) ∙ length-replicate k true

module _ (n : ℕ) (work : List ℤ) (k : ℕ) (area : List ℤ) (g : Finishable n work k area) where
  abbrev L : List Vector
  L = held (suc n) k work

  -- the entries where they stand in memory
  entry_flat : (i j : ℕ) → i < k → j < suc n → flat (suc n) work i j ≡ family L i j
  unfolding flat
  entry_flat i j l b = sym (held_at (suc n) k work i j l b g.whole)

  -- the test of the lent words tells whether there is a point
  pub point_held : has_point n (take (k * suc n) work) ≡ some_point n L
  unfolding has_point some_point flat
  point_held = ap (λ c. some c (λ i. finite (flat (suc n) part i n))) (ap (λ w. w / suc n) size ∙ count)
      ∙ some_ext k at ∙ ap (λ c. some c (λ i. is_point (family L i n))) (sym (held_length (suc n) k work))
    where
      part : List ℤ
      part = take (k * suc n) work

      size : length part ≡ k * suc n
      size = length-take-le (k * suc n) work g.whole

      count : k * suc n / suc n ≡ k
      count = mul-div_cancel k (omega arith)

      at : (i : ℕ) → i < k → finite (flat (suc n) part i n) ≡ is_point (family L i n)
      at i l = finite_point (flat (suc n) part i n)
          ∙ ap is_point (sym (held_at (suc n) k part i n l (omega arith) (omega (arith, size)))
          ∙ ap (λ A. family A i n) (sym (held_take (suc n) k work g.whole)))

  -- without a point the list is empty
  pub finishes_none : some_point n L ≡ false → Finishes n L area (Ok 0) area
  unfolding canonical_held finished range_ok words
  finishes_none e = record { made = ap (λ r. r.made) (sym same); area = ap (λ r. r.area) (sym same) }
    where
      empty : canonical_held n L ≡ []
      empty = ap (λ b. cond b (sorted n (cleaned n L)) []) e

      none : finished n [] area ≡ record { made = Ok 0; area = area }
      none = refl

      same : finished n (canonical_held n L) area ≡ record { made = Ok 0; area = area }
      same = ap (λ R. finished n R area) empty ∙ none

  -- with k flags on, the vectors can be cleaned
  pub cleanable : Cleanable n work (take k (replicate 272 true))
  cleanable =
      let e = trues_long k g.few in
      record {
        clocks = g.clocks;
        whole = subst (λ c. c * suc n ≤ length work) (sym e) g.whole;
        near = g.near;
        on = trues k 272 g.few ∙ ap (λ c. replicate c true) (sym e);
      }

  -- the flags that cleaning leaves
  module _ (flags : List Bool) (is : flags ≡ clean_flags (suc n) k (flat (suc n) work)) where
    -- there is one for each vector
    pub flags_long : length flags ≡ k
    flags_long = ap length is ∙ (flags_clean (suc n) k (flat (suc n) work)).long

    -- the vectors whose flag is on can be written
    pub writable : Writable n work flags area
    writable = record {
      clocks = g.clocks;
      few = omega (arith, flags_long, g.few);
      whole = subst (λ c. c * suc n ≤ length work) (sym flags_long) g.whole;
      room = g.room;
      kinds = subst (λ c. (i : ℕ) → i < c → IsKind n (vector (held (suc n) c work) i)) (sym flags_long) g.kinds;
    }

    R : List Vector
    R = sorted n (kept flags L)

    -- they are those of the canonical list
    canonical : some_point n L ≡ true → canonical_held n L ≡ R
    unfolding R canonical_held cleaned
    canonical e = ap (λ b. cond b (sorted n (cleaned n L)) []) e ∙ ap (λ f. sorted n (kept f L)) (sym (is
        ∙ flags_ext (suc n) k (flat (suc n) work) (family L) entry_flat
        ∙ ap (λ c. clean_flags (suc n) c (family L)) (sym (held_length (suc n) k work))))

    -- looking at the vectors that are on is looking at the result
    range : alive_ok n flags (flat (suc n) work) ≡ range_ok n R
    unfolding R
    range = tells_settled (alive_ok n flags (flat (suc n) work)) (range_ok n R) (tells_alive n flags (flat (suc n) work))
        (means to from (tells_rows n R))
      where
        s : Sorts n L (On (length L) flags) R
        s = sorts n work k g.whole g.kinds flags

        to : ((i : ℕ) → i < length R → Fine n (family R i))
            → (i : ℕ) → i < length flags → get_or flags i false ≡ true → Fine n (flat (suc n) work i)
        to h i l o =
            let m : i < k = subst (λ c. i < c) flags_long l in
            let (p, q, e) = s.all i (on n work k g.whole g.kinds flags i m o) in
            fine_same n (λ j b. e j b ∙ sym (entry_flat i j m b)) (h p q)

        from : ((i : ℕ) → i < length flags → get_or flags i false ≡ true → Fine n (flat (suc n) work i))
            → (i : ℕ) → i < length R → Fine n (family R i)
        from h p q =
            let (i, o, e) = s.from p q in
            let m : i < k = inside n work k g.whole g.kinds i o.0 in
            fine_same n (λ j b. entry_flat i j m b ∙ sym (e j b)) (h i (subst (λ c. i < c) (sym flags_long) m) o.1)

    result : some_point n L ≡ true → (b : Bool) → alive_ok n flags (flat (suc n) work) ≡ b
        → finished n (canonical_held n L) area ≡ cond b (written R area) (refused_by (Err Range) area)
    unfolding finished
    result p b e = ap (λ A. finished n A area) (canonical p)
        ∙ ap (λ t. cond t (written R area) (refused_by (Err Range) area)) (sym range ∙ e)

    -- beyond the limits, or written
    pub finishes_range : some_point n L ≡ true → alive_ok n flags (flat (suc n) work) ≡ false
        → Finishes n L area (Err Range) area
    finishes_range p e =
        let q = result p false e in
        record { made = ap (λ r. r.made) (sym q); area = ap (λ r. r.area) (sym q) }

    -- within the limits, the answer and the area are those of the writing
    pub finishes_written : some_point n L ≡ true → alive_ok n flags (flat (suc n) work) ≡ true
        → (answer : Made) (after : List ℤ) → Writes n work flags area answer after → Finishes n L area answer after
    unfolding R
    finishes_written p e answer after w =
        record { made = w.made ∙ ap (λ r. r.made) same; area = w.area ∙ ap (λ r. r.area) same }
      where
        same : written (sorted_alive n work flags) area ≡ finished n (canonical_held n L) area
        same = ap (λ c. written (sorted n (kept flags (held (suc n) c work))) area) flags_long ∙ sym (result p true e)
