-- From the checks of a call and what stands in working memory to its answer by the rule.
use Rattle.std.proofs.Common.{Err, Ok}
use mathlib.Core.Bool.{Bool, true, false, cond}
use mathlib.Core.List.{List, [], ◌++◌, map}
use mathlib.Core.Path.{◌≡◌, refl, sym, ◌∙◌, ap, subst}
use Prim.Native.Nat.{ℕ, suc, ◌+◌, ◌*◌, ◌≤◌, ◌<◌}
use native.Mathlib.Nat.{add-zero, mul-le-mul}
use native.Mathlib.Omega.{arith}
use lib.IntN.{ℤ, pos}
use lib.ListN.{length, replicate, length-map, length-replicate, get_or-replicate}
use Rattle.numbers.specs.Numbers.{Num, −∞, fin, ◌▷◌, Within}
use Rattle.numbers.specs.Words.{number}
use Rattle.numbers.specs.Places.{entries, Each}
use Rattle.numbers.specs.declared.Refusal.{Refusal}
use Rattle.algebra.specs.Vectors.{Vector, entry, vector, vectors, count}
use Rattle.algebra.specs.Wanted.{left, right}
use Rattle.algebra.specs.Working.{is_point, some_point, normal, with_point}
use Rattle.algebra.specs.Working.{intersect_list, delay_list, reset_list, hull_list}
use Rattle.algebra.proofs.Lists.{vectors_length}
use Rattle.sets.specs.Types.{Checked}
use Rattle.sets.specs.Demands.{Input, Good as GoodInput}
use Rattle.sets.specs.Rules.{flat, has_point}
use Rattle.sets.proofs.FlatLaws.{family_flat}
use Rattle.sets.proofs.TestLaws.{loose_within}
use Rattle.sorting.specs.Rows.{held}
use Rattle.sorting.proofs.Held.{held_none}
use Rattle.making.specs.Types.{Made}
use Rattle.making.specs.Calls.{Intersects, Delays, Resets, Hulls}
use Rattle.making.specs.Change.{Growable}
use Rattle.making.specs.Clean.{sorted, cleaned, canonical_of}
use Rattle.making.specs.Finish.{canonical_held, Finishable, Finishes}
use Rattle.making.specs.Limits.{HalfLimits}
use Rattle.making.specs.Rules.{make_after, finished, intersect_checked, intersect_of, delay_checked, delay_of}
use Rattle.making.specs.Rules.{reset_checked, reset_of, hull_checked, hull_of}
use Rattle.making.specs.Work.{Grown}
use Rattle.making.proofs.BuildLaws.{added_none, grown_append}
use Rattle.making.proofs.Normal.{map_at, normal_at, normals_kinds, shift_of}
use Rattle.making.proofs.FinishLaws.{some_ext, finite_point}
use Rattle.making.proofs.Rules.{Found, intersect_meets, delay_meets, reset_meets, hull_meets}

-- ---- whether a list has a point
shifted_point : (c : ℤ) (x : Num) → is_point (c ▷ x) ≡ is_point x
shifted_point c −∞ = refl
shifted_point c (fin z) = refl

-- of the words of a list, and of its vectors
point_words : (n : ℕ) (l : List ℤ) → has_point n l ≡ some_point n (vectors n l)
unfolding has_point some_point
point_words n l = rw (vectors_length n l) (some_ext (count n l) (λ i b. finite_point (flat (suc n) l i n)
    ∙ ap is_point (sym (family_flat n l i n b (omega arith)))))

-- of the shifted vectors, and of the vectors
point_normals : (n : ℕ) (L : List Vector) → some_point n (map (normal n) L) ≡ some_point n L
unfolding some_point
point_normals n L = rw (length-map L (normal n)) (some_ext (length L) (λ i l.
    ap (λ (v : Vector). is_point (entry v n)) (map_at (normal n) L i l)
    ∙ ap is_point (normal_at n (vector L i) n (omega arith))
    ∙ shifted_point (shift_of n (vector L i)) (entry (vector L i) n)))

-- the canonical list of the shifted vectors is that of the vectors
canonical_normals : (n : ℕ) (L : List Vector) → canonical_held n (map (normal n) L) ≡ canonical_of n L
unfolding canonical_held canonical_of
canonical_normals n L = ap (λ (b : Bool). cond b (sorted n (cleaned n (map (normal n) L))) []) (point_normals n L)

-- ---- working memory that has no vector
zeros_near : (m : ℕ) → Each 100000000 (replicate m (pos 0))
zeros_near m = record { each = λ j l. at j (subst (λ (k : ℕ). j < k) (length-replicate m (pos 0)) l) }
  where
    at : (j : ℕ) → j < m → Within 100000000 (entries (replicate m (pos 0)) j)
    at j l = unfold number in rw (get_or-replicate m j (pos 0) (pos 0) l) (record { near = omega arith })

-- its words are within limits
pub none_near : {work : List ℤ} → work ≡ replicate 1904 (pos 0) → Each 100000000 work
none_near e = rw e (zeros_near 1904)

-- it has 1904 words
pub none_long : {work : List ℤ} → work ≡ replicate 1904 (pos 0) → length work ≡ 1904
none_long e = ap length e ∙ length-replicate 1904 (pos 0)

-- 272 vectors have room in 1904 words
room_of : (n k : ℕ) → n ≤ 6 → k ≤ 272 → k * suc n ≤ 1904
room_of n k clocks few = omega (arith, all)
  where
    wide : suc n ≤ 7
    wide = omega arith

    all : k * suc n ≤ 272 * 7
    all = mul-le-mul few wide

-- so a list can be put into working memory, if at most 272 vectors stand there then
pub growable : (n : ℕ) (l work : List ℤ) (k : ℕ) → n ≤ 6 → Each 1000000 l
    → length work ≡ 1904 → k + count n l ≤ 272 → Growable n l work k
growable n l work k clocks near long few = record {
  clocks = clocks;
  near = near;
  room = rw long (room_of n (k + count n l) clocks few);
}

-- ---- vectors put into it
-- counted by words or as a list, at most 32 vectors
pub few_vectors_lem : (n : ℕ) (l : List ℤ) → count n l ≤ 32 → length (vectors n l) ≤ 32
few_vectors_lem n l h = omega (arith, vectors_length n l)

-- the vectors of a list that has no point, and of one that has
pub pointed_none : (n : ℕ) (l work : List ℤ) (k : ℕ) → has_point n l ≡ false
    → Grown n work k (with_point n (vectors n l)) k work
unfolding with_point
pointed_none n l work k e =
    rw (sym (point_words n l) ∙ e) (record { added = added_none n work k; count = sym (add-zero k) })

-- a list with a point is put there whole
pub pointed_all : (n : ℕ) (l work : List ℤ) (k r : ℕ) (after : List ℤ) → has_point n l ≡ true
    → Grown n work k (vectors n l) r after → Grown n work k (with_point n (vectors n l)) r after
unfolding with_point
pointed_all n l work k r after e g = rw (sym (point_words n l) ∙ e) g

-- both lists of a hull
pub hull_grown : (n : ℕ) (work : List ℤ) (A B : List Vector) (m r : ℕ) (mid after : List ℤ)
    → Grown n work 0 (with_point n A) m mid → Grown n mid m (with_point n B) r after
    → Grown n work 0 (hull_list n A B) r after
unfolding hull_list
hull_grown n work A B = grown_append n work 0 (with_point n A) (with_point n B)

-- ---- the result of the vectors L in working memory
module _ (n : ℕ) (work : List ℤ) (L : List Vector) (k : ℕ) (after : List ℤ) (g : Grown n work 0 L k after) where
  -- the first k vectors are those of L, shifted
  held_normals : held (suc n) k after ≡ map (normal n) L
  held_normals = ap (λ (c : ℕ). held (suc n) c after) g.count ∙ g.added.rows
      ∙ ap (λ (A : List Vector). A ++ map (normal n) L) (held_none (suc n) work)

  -- so the result can be made of them
  pub finishable : (area : List ℤ) → length work ≡ 1904 → Each 100000000 work → n ≤ 6 → length L ≤ 272
      → 32 * suc n ≤ length area → Finishable n after k area
  finishable area long near clocks few room = record {
    clocks = clocks;
    few = most;
    whole = rw (g.added.long, long) (room_of n k clocks most);
    near = g.added.near near;
    room = room;
    kinds = rw held_normals (λ i l. normals_kinds n L i (omega (arith, l, g.count, length-map L (normal n))));
  }
    where
      most : k ≤ 272
      most = omega (arith, g.count)

  -- and what is finished is the result of L
  finished_same : (area : List ℤ)
      → finished n (canonical_held n (held (suc n) k after)) area ≡ finished n (canonical_of n L) area
  finished_same area =
      ap (λ (R : List Vector). finished n R area) (ap (canonical_held n) held_normals ∙ canonical_normals n L)

-- ---- the two ways in which a call ends
-- a contract P of a call whose checks find q and that makes the vectors L
pub record Ends (P : Made → List ℤ → Type 0) (q : Checked) (n : ℕ) (L : List Vector) (area : List ℤ) : Type 0 where
  pub refused : (e : Refusal) → Err e ≡ q → P (Err e) area
  pub made : Ok tt ≡ q → (work : List ℤ) (c : ℕ) (after : List ℤ) → Grown n work 0 L c after
      → (r : Made) (out : List ℤ) → Finishes n (held (suc n) c after) area r out → P r out

ends : (P : Made → List ℤ → Type 0) (q : Checked) (n : ℕ) (L : List Vector) (area : List ℤ)
    → P (make_after q n L area).made (make_after q n L area).area → Ends P q n L area
ends P q n L area meets = record {
  refused = λ e w. found w;
  made = λ w work m after grown r out f.
      let s = finished_same n work L m after grown area in
      rw (f.made, f.area, s) (found w);
}
  where
    found : {k : Checked} → k ≡ q → P (make_after k n L area).made (make_after k n L area).area
    found w = subst (λ (k : Checked). P (make_after k n L area).made (make_after k n L area).area) (sym w) meets

-- input that passed the checks is good
pub passed : (c : Input) (n : ℕ) {q : Checked} → Found c n q → Ok tt ≡ q → GoodInput c
passed c n f e = subst (Found c n) (sym e) f

-- ---- the four calls
-- delay, whose points are copied among the rays
pub delay_ends : (n : ℕ) (l area : List ℤ)
    → Ends (Delays n l area) (delay_checked n l area) n (delay_list n (vectors n l)) area
unfolding delay_of
delay_ends n l area =
    ends (Delays n l area) (delay_checked n l area) n (delay_list n (vectors n l)) area (delay_meets n l area)

-- reset of clock i to c
pub reset_ends : (n : ℕ) (l : List ℤ) (i : ℕ) (c : ℤ) (area : List ℤ)
    → Ends (Resets n l i c area) (reset_checked n l i c area) n (reset_list n i c (vectors n l)) area
unfolding reset_of
reset_ends n l i c area =
    ends (Resets n l i c area) (reset_checked n l i c area) n (reset_list n i c (vectors n l)) area
    (reset_meets n l i c area)

-- hull of two lists
pub hull_ends : (n : ℕ) (l m area : List ℤ)
    → Ends (Hulls n l m area) (hull_checked n l m area) n (hull_list n (vectors n l) (vectors n m)) area
unfolding hull_of
hull_ends n l m area =
    ends (Hulls n l m area) (hull_checked n l m area) n (hull_list n (vectors n l) (vectors n m)) area
    (hull_meets n l m area)

-- intersection with the half-space h
pub intersect_ends : (n : ℕ) (l h area : List ℤ) → Ends (Intersects n l h area) (intersect_checked n l h area) n
    (intersect_list n (left n h) (right n h) (vectors n l)) area
unfolding intersect_of
intersect_ends n l h area = ends (Intersects n l h area) (intersect_checked n l h area) n
    (intersect_list n (left n h) (right n h) (vectors n l)) area (intersect_meets n l h area)

-- the words of a half-space within its limits
pub half_each : (n : ℕ) (h : List ℤ) → length h ≡ 2 * suc n → HalfLimits n h → Each 1000000 h
half_each n h long limits = record { each = λ j l. loose_within (limits j (omega (arith, long))) }
