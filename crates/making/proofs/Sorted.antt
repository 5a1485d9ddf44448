-- Sorting: `earlier` tells the order of a canonical list, and `sorted` is rising and has the members of the list.
use mathlib.Core.Bool.{Bool, true, false, ◌&&◌, cond}
use mathlib.Core.List.{List, [], ◌∷◌}
use mathlib.Core.Logic.{◌⊎◌, inl, inr, ◌≢◌, ◌↔◌}
use mathlib.Core.Path.{◌≡◌, refl, sym, ◌∙◌, subst}
use Prim.Native.Nat.{ℕ, zero, suc, ◌+◌, ◌≤◌, ◌<◌}
use native.Mathlib.Omega.{arith}
use native.Mathlib.Decide.{ℕ_discrete}
use lib.ListN.{length}
use Rattle.numbers.specs.Numbers.{Num, ◌≼◌, at_most}
use Rattle.numbers.proofs.Tells.{Tells, always, never, means, both}
use Rattle.numbers.proofs.NumberLaws.{≼_antisym, ≼_of_eq, tells_at_most, dec_≼, fin_low, Num-discrete}
use Rattle.algebra.specs.Vectors.{Vector, entry, vector, IsPoint, IsRay}
use Rattle.algebra.specs.Canonical.{Lower, Before, kinds, clocks}
use Rattle.algebra.proofs.Entries.{Same, places}
use Rattle.making.specs.Clean.{lower_from, earlier, insert, sorted}
use Rattle.sorting.proofs.Order.{same_vector, chain}
use Rattle.making.proofs.Members.{Has, has_none, has_cons, has_head, has_tail, has_at}

-- ---- the test of the order
-- v is before w by one of k clocks from j on
record LowerIn (j k : ℕ) (v w : Vector) : Type 0 where
  at : ℕ
  from : j ≤ at
  inside : at < j + k
  same : (i : ℕ) → j ≤ i → i < at → entry v i ≡ entry w i
  smaller : ¬ (entry w at ≼ entry v at)

tells_lower_in : (k j : ℕ) (v w : Vector) → Tells (lower_from j k v w) (LowerIn j k v w)
unfolding lower_from
tells_lower_in zero j v w = never (λ l. let a = l.from in let b = l.inside in omega arith)
tells_lower_in (suc k) j v w =
    go (tells_lower_in k (suc j) v w) (at_most (entry w j) (entry v j)) (tells_at_most (entry w j) (entry v j))
  where
    wider : (entry v j ≼ entry w j) → (entry w j ≼ entry v j) → LowerIn (suc j) k v w → LowerIn j (suc k) v w
    wider a b l = record {
      at = l.at;
      from = let h = l.from in omega arith;
      inside = let h = l.inside in omega arith;
      same = λ i p q. at i p q (ℕ_discrete i j);
      smaller = l.smaller;
    }
      where
        at : (i : ℕ) → j ≤ i → i < l.at → Dec (i ≡ j) → entry v i ≡ entry w i
        at i p q (yes e) = rw e (≼_antisym a b)
        at i p q (no n) = l.same i (omega arith) q

    narrower : (entry w j ≼ entry v j) → LowerIn j (suc k) v w → (entry v j ≼ entry w j) × LowerIn (suc j) k v w
    narrower b l = (
      ≼_of_eq (l.same j (omega arith) past),
      record {
        at = l.at;
        from = past;
        inside = let h = l.inside in omega arith;
        same = λ i p q. l.same i (omega arith) q;
        smaller = l.smaller;
      },
    )
      where
        other : l.at ≢ j
        other e = l.smaller (subst (λ i. entry w i ≼ entry v i) (sym e) b)

        past : j < l.at
        past = let h = l.from in omega (arith, other)

    go : Tells (lower_from (suc j) k v w) (LowerIn (suc j) k v w) → (b : Bool) → Tells b (entry w j ≼ entry v j)
        → Tells (cond b (at_most (entry v j) (entry w j) && lower_from (suc j) k v w) true) (LowerIn j (suc k) v w)
    go r false t = always (record {
      at = j;
      from = omega arith;
      inside = omega arith;
      same = λ i p q. absurd (omega arith);
      smaller = t.no refl;
    })
    go r true t = means (λ h. wider h.0 (t.yes refl) h.1) (narrower (t.yes refl))
        (both (at_most (entry v j) (entry w j)) (lower_from (suc j) k v w) (tells_at_most (entry v j) (entry w j)) r)

-- the test of the clocks tells which vector is lower
pub tells_lower : (n : ℕ) (v w : Vector) → Tells (lower_from 0 n v w) (Lower n v w)
tells_lower n v w = means to from (tells_lower_in n 0 v w)
  where
    to : LowerIn 0 n v w → Lower n v w
    to l = record {
      at = l.at;
      inside = let h = l.inside in omega arith;
      same = λ i q. l.same i (omega arith) q;
      smaller = l.smaller;
    }

    from : Lower n v w → LowerIn 0 n v w
    from l = record {
      at = l.at;
      from = omega arith;
      inside = let h = l.inside in omega arith;
      same = λ i p q. l.same i q;
      smaller = l.smaller;
    }

-- `earlier` tells the order of points and rays
pub tells_earlier : (n : ℕ) (v w : Vector) → IsPoint n v ⊎ IsRay n v → IsPoint n w ⊎ IsRay n w
    → Tells (earlier n v w) (Before n v w)
unfolding earlier
tells_earlier n v w k l = go k l
  where
    Told : Num → Num → Type 0
    Told x y = Tells (cond (at_most x y) (at_most y x && lower_from 0 n v w) true) (Before n v w)

    alike : entry v n ≡ entry w n → Tells (lower_from 0 n v w) (Before n v w)
    alike e = means (clocks e) from (tells_lower n v w)
      where
        from : Before n v w → Lower n v w
        from (kinds p q) = absurd (fin_low (sym p ∙ e ∙ q))
        from (clocks d h) = h

    later : IsRay n v → IsPoint n w → ¬ Before n v w
    later p q (kinds a b) = fin_low (sym a ∙ p)
    later p q (clocks d h) = fin_low (sym q ∙ sym d ∙ p)

    go : IsPoint n v ⊎ IsRay n v → IsPoint n w ⊎ IsRay n w → Told (entry v n) (entry w n)
    go (inl p) (inl q) = rw (p, q) (alike (p ∙ sym q))
    go (inl p) (inr q) = rw (p, q) (always (kinds p q))
    go (inr p) (inl q) = rw (p, q) (never (later p q))
    go (inr p) (inr q) = rw (p, q) (alike (p ∙ sym q))

-- ---- the order
-- a vector of n + 1 entries that is a point or a ray
pub record Fit (n : ℕ) (v : Vector) : Type 0 where
  pub long : length v ≡ suc n
  pub kind : IsPoint n v ⊎ IsRay n v

-- the first of k places where two vectors differ
record Differ (k : ℕ) (v w : Vector) : Type 0 where
  at : ℕ
  inside : at < k
  agree : Same at (entry v) (entry w)
  apart : entry v at ≢ entry w at

differ : (k : ℕ) (v w : Vector) → Same k (entry v) (entry w) ⊎ Differ k v w
differ zero v w = inl (λ j l. absurd (omega arith))
differ (suc k) v w = go (differ k v w) (Num-discrete (entry v k) (entry w k))
  where
    go : Same k (entry v) (entry w) ⊎ Differ k v w → Dec (entry v k ≡ entry w k)
        → Same (suc k) (entry v) (entry w) ⊎ Differ (suc k) v w
    go (inl s) (yes e) = inl (places k (λ j. entry v j ≡ entry w j) e s)
    go (inl s) (no n) = inr (record { at = k; inside = omega arith; agree = s; apart = n })
    go (inr d) x =
        inr (record { at = d.at; inside = let h = d.inside in omega arith; agree = d.agree; apart = d.apart })

-- of two points or rays one is before the other, or they have the same entries
pub compared : (n : ℕ) (v w : Vector) → IsPoint n v ⊎ IsRay n v → IsPoint n w ⊎ IsRay n w
    → Before n v w ⊎ (Before n w v ⊎ Same (suc n) (entry v) (entry w))
compared n v w k l = go k l
  where
    Compared : Type 0
    Compared = Before n v w ⊎ (Before n w v ⊎ Same (suc n) (entry v) (entry w))

    alike : entry v n ≡ entry w n → Compared
    alike e = by (differ n v w)
      where
        at : (d : Differ n v w) → Dec (entry w d.at ≼ entry v d.at) → Compared
        at d (no h) = inl (clocks e (record { at = d.at; inside = d.inside; same = d.agree; smaller = h }))
        at d (yes h) = inr (inl (clocks (sym e) (record {
          at = d.at;
          inside = d.inside;
          same = λ j m. sym (d.agree j m);
          smaller = λ g. d.apart (≼_antisym g h);
        })))

        by : Same n (entry v) (entry w) ⊎ Differ n v w → Compared
        by (inl s) = inr (inr (places n (λ j. entry v j ≡ entry w j) e s))
        by (inr d) = at d (dec_≼ (entry w d.at) (entry v d.at))

    go : IsPoint n v ⊎ IsRay n v → IsPoint n w ⊎ IsRay n w → Compared
    go (inl p) (inl q) = alike (p ∙ sym q)
    go (inl p) (inr q) = inl (kinds p q)
    go (inr p) (inl q) = inr (inl (kinds q p))
    go (inr p) (inr q) = alike (p ∙ sym q)

-- ---- insertion
-- each vector is before all behind it
pub data Climbs (n : ℕ) : List Vector → Type 0 where
  none : Climbs n []
  more : {v : Vector} {L : List Vector} → ((u : Vector) → Has L u → Before n v u) → Climbs n L → Climbs n (v ∷ L)

-- where v is put into a list that begins with w: in front, behind w, or nowhere since it is w
data Put (n : ℕ) (v w : Vector) (L R : List Vector) : Type 0 where
  front : Before n v w → R ≡ v ∷ w ∷ L → Put n v w L R
  behind : Before n w v → R ≡ w ∷ insert n v L → Put n v w L R
  there : w ≡ v → R ≡ w ∷ L → Put n v w L R

put : (n : ℕ) (v w : Vector) (L : List Vector) → Fit n v → Fit n w → Put n v w L (insert n v (w ∷ L))
unfolding insert
put n v w L a b = first (earlier n v w) (tells_earlier n v w a.kind b.kind)
  where
    same : ¬ Before n v w → ¬ Before n w v → w ≡ v
    same p q = by (compared n v w a.kind b.kind)
      where
        by : Before n v w ⊎ (Before n w v ⊎ Same (suc n) (entry v) (entry w)) → w ≡ v
        by (inl h) = absurd (p h)
        by (inr (inl h)) = absurd (q h)
        by (inr (inr e)) = sym (same_vector n v w a.long b.long e)

    second : ¬ Before n v w → (t : Bool) → Tells t (Before n w v)
        → Put n v w L (cond t (w ∷ insert n v L) (w ∷ L))
    second p true t = behind (t.yes refl) refl
    second p false t = there (same p (t.no refl)) refl

    first : (t : Bool) → Tells t (Before n v w)
        → Put n v w L (cond t (v ∷ w ∷ L) (cond (earlier n w v) (w ∷ insert n v L) (w ∷ L)))
    first true t = front (t.yes refl) refl
    first false t = second (t.no refl) (earlier n w v) (tells_earlier n w v b.kind a.kind)

-- all vectors of a list are of n + 1 entries, points and rays
abbrev pub Fits : ℕ → List Vector → Type 0
Fits n L = (u : Vector) → Has L u → Fit n u

module _ (n : ℕ) (v : Vector) (a : Fit n v) where
  -- the list with v in its place has v and the vectors that it had
  pub insert_has : (L : List Vector) → Fits n L → (u : Vector) → Has (insert n v L) u ↔ ((v ≡ u) ⊎ Has L u)
  unfolding insert
  insert_has [] f u = (has_cons, one)
    where
      one : (v ≡ u) ⊎ Has [] u → Has (v ∷ []) u
      one (inl e) = has_head e
      one (inr h) = absurd (has_none h)
  insert_has (w ∷ L) f u =
      by (insert_has L (λ u h. f u (has_tail h)) u) (put n v w L a (f w (has_head refl)))
    where
      by : Has (insert n v L) u ↔ ((v ≡ u) ⊎ Has L u) → Put n v w L (insert n v (w ∷ L))
          → Has (insert n v (w ∷ L)) u ↔ ((v ≡ u) ⊎ Has (w ∷ L) u)
      by r (front h e) = subst (λ R. Has R u ↔ ((v ≡ u) ⊎ Has (w ∷ L) u)) (sym e) (has_cons, to)
        where
          to : (v ≡ u) ⊎ Has (w ∷ L) u → Has (v ∷ w ∷ L) u
          to (inl q) = has_head q
          to (inr h) = has_tail h
      by r (behind h e) = subst (λ R. Has R u ↔ ((v ≡ u) ⊎ Has (w ∷ L) u)) (sym e) (λ h. from (has_cons h), to)
        where
          rest : (v ≡ u) ⊎ Has L u → (v ≡ u) ⊎ Has (w ∷ L) u
          rest (inl q) = inl q
          rest (inr h) = inr (has_tail h)

          from : (w ≡ u) ⊎ Has (insert n v L) u → (v ≡ u) ⊎ Has (w ∷ L) u
          from (inl q) = inr (has_head q)
          from (inr h) = rest (r.0 h)

          tail : (w ≡ u) ⊎ Has L u → Has (w ∷ insert n v L) u
          tail (inl q) = has_head q
          tail (inr h) = has_tail (r.1 (inr h))

          to : (v ≡ u) ⊎ Has (w ∷ L) u → Has (w ∷ insert n v L) u
          to (inl q) = has_tail (r.1 (inl q))
          to (inr h) = tail (has_cons h)
      by r (there q e) = subst (λ R. Has R u ↔ ((v ≡ u) ⊎ Has (w ∷ L) u)) (sym e) (inr, to)
        where
          to : (v ≡ u) ⊎ Has (w ∷ L) u → Has (w ∷ L) u
          to (inl d) = has_head (q ∙ d)
          to (inr h) = h

  -- it climbs
  pub insert_climbs : (L : List Vector) → Fits n L → Climbs n L → Climbs n (insert n v L)
  unfolding insert
  insert_climbs [] f none = more (λ u h. absurd (has_none h)) none
  insert_climbs (w ∷ L) f (more above c) = by (insert_climbs L rest c) (put n v w L a (f w (has_head refl)))
    where
      rest : Fits n L
      rest u h = f u (has_tail h)

      by : Climbs n (insert n v L) → Put n v w L (insert n v (w ∷ L)) → Climbs n (insert n v (w ∷ L))
      by r (front h e) = subst (Climbs n) (sym e) (more (λ u m. at u (has_cons m)) (more above c))
        where
          at : (u : Vector) → (w ≡ u) ⊎ Has L u → Before n v u
          at u (inl q) = subst (Before n v) q h
          at u (inr m) = chain h (above u m)
      by r (behind h e) = subst (Climbs n) (sym e) (more (λ u m. at u ((insert_has L rest u).0 m)) r)
        where
          at : (u : Vector) → (v ≡ u) ⊎ Has L u → Before n w u
          at u (inl q) = subst (Before n w) q h
          at u (inr m) = above u m
      by r (there q e) = subst (Climbs n) (sym e) (more above c)

-- ---- the sorted list
-- the sorted list has exactly the members of the list
pub sorted_has : (n : ℕ) (L : List Vector) → Fits n L → (u : Vector) → Has (sorted n L) u ↔ Has L u
unfolding sorted
sorted_has n [] f = λ u. (λ h. h, λ h. h)
sorted_has n (v ∷ L) f = by (sorted_has n L (λ u h. f u (has_tail h)))
  where
    by : ((u : Vector) → Has (sorted n L) u ↔ Has L u) → (u : Vector) → Has (insert n v (sorted n L)) u ↔ Has (v ∷ L) u
    by r u = (λ h. to (put_in.0 h), λ h. put_in.1 (from (has_cons h)))
      where
        put_in : Has (insert n v (sorted n L)) u ↔ ((v ≡ u) ⊎ Has (sorted n L) u)
        put_in = insert_has n v (f v (has_head refl)) (sorted n L) (λ w h. f w (has_tail ((r w).0 h))) u

        to : (v ≡ u) ⊎ Has (sorted n L) u → Has (v ∷ L) u
        to (inl e) = has_head e
        to (inr h) = has_tail ((r u).0 h)

        from : (v ≡ u) ⊎ Has L u → (v ≡ u) ⊎ Has (sorted n L) u
        from (inl e) = inl e
        from (inr h) = inr ((r u).1 h)

-- it climbs
sorted_climbs : (n : ℕ) (L : List Vector) → Fits n L → Climbs n (sorted n L)
unfolding sorted
sorted_climbs n [] f = none
sorted_climbs n (v ∷ L) f = insert_climbs n v (f v (has_head refl)) (sorted n L)
    (λ u h. rest u ((sorted_has n L rest u).0 h)) (sorted_climbs n L rest)
  where
    rest : Fits n L
    rest u h = f u (has_tail h)

-- each vector of a list is before the next
abbrev pub RisingList : ℕ → List Vector → Type 0
RisingList n R = (i : ℕ) → suc i < length R → Before n (vector R i) (vector R (suc i))

climbs_rising : (n : ℕ) (L : List Vector) → Climbs n L → RisingList n L
climbs_rising n [] none i l = absurd (omega arith)
climbs_rising n (v ∷ L) (more above c) zero l = above (vector L 0) (has_at L 0 (omega arith))
climbs_rising n (v ∷ L) (more above c) (suc i) l = climbs_rising n L c i (omega arith)

-- the sorted list is rising
pub sorted_rising : (n : ℕ) (L : List Vector) → Fits n L → RisingList n (sorted n L)
sorted_rising n L f = climbs_rising n (sorted n L) (sorted_climbs n L f)
