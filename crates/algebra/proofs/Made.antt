-- What the calls make, by lists: when one set lies in another, and which lists have the hull of two sets, the part of
-- a set in a half-space, the set after a delay and after a reset.
use mathlib.Core.List.{List, [], ◌++◌, map}
use mathlib.Core.Logic.{◌⊎◌, inl, inr, ◌↔◌}
use mathlib.Core.Path.{◌≡◌, sym, ◌∙◌, ap, subst}
use Prim.Native.Nat.{ℕ, suc, ◌<◌}
use native.Mathlib.Omega.{arith}
use native.Mathlib.Decide.{ℕ_discrete}
use lib.IntN.{ℤ, pos}
use lib.ListN.{length, set, length-map, length-set, get_or-map}
use lib.Seq.{get_or-set_same, get_or-set_other, ext_get_or}
use Rattle.numbers.specs.Numbers.{Num, −∞, fin, ◌▷◌, ◌⊗◌, ◌⊕◌, ⨁, nought}
use Rattle.numbers.specs.Places.{Vec, side_of}
use Rattle.numbers.proofs.NumberLaws.{⊗_nought, ⨁_ext}
use Rattle.algebra.specs.Vectors.{Vector, entry, vector, IsPoint, IsRay, PointsAndRays}
use Rattle.algebra.specs.Sets.{In, Included}
pub use Rattle.algebra.specs.Working.{to_ray, delay_list, reset_vector, reset_list}
use Rattle.algebra.specs.Wanted.{side, Satisfies, Intersected, Delayed, Reset, Hull}
use Rattle.algebra.proofs.Entries.{Same, replace, replace_same, replace_other, places}
use Rattle.algebra.proofs.Generation.{Span, span_self, span_same, span_trans}
use Rattle.algebra.proofs.Residuation.{Row, rows}
use Rattle.algebra.proofs.Rays.{Member}
use Rattle.algebra.proofs.Inclusion.{Kinds, HasPoint, Sub, inclusion, empty}
use Rattle.algebra.proofs.HalfSpace.{Sat, Cut, cut, half_space_lem, span_sat}
use Rattle.algebra.proofs.Hull.{join, join_least}
use Rattle.algebra.proofs.Delay.{later, later_last, later_clock, Up, old, ray, up, delay}
use Rattle.algebra.proofs.Reset.{reset, reset_set}
use Rattle.algebra.proofs.Lists.{family, listed, Spans, spot, spot_last, spot_clock, in_span, tab, tab_length}
use Rattle.algebra.proofs.Lists.{tab_at, in_tab, included_sub, span_in, own, split, own_l, own_r}

-- a list has a point
abbrev pub Pointed : ℕ → List Vector → Type 0
Pointed n L = (i : ℕ) × (i < length L) × IsPoint n (vector L i)

-- every vector of a list has n + 1 entries
abbrev pub Long : ℕ → List Vector → Type 0
Long n L = (i : ℕ) → i < length L → length (vector L i) ≡ suc n

kinds_of : (n : ℕ) (L : List Vector) → PointsAndRays n L → Kinds n (listed L)
kinds_of n L k r = k r.0 r.1

point_of : (n : ℕ) (L : List Vector) → Pointed n L → HasPoint n (listed L)
point_of n L p = ((p.0, p.1), p.2)

-- ---- inclusion

-- a list without points has the empty set
pub rays_only : (n : ℕ) (L : List Vector) → ((i : ℕ) → i < length L → IsRay n (vector L i)) → (x : Vector) → ¬ In n L x
rays_only n L h x r = empty n (listed L) (λ i. h i.0 i.1) (spot n nought x)
    (spot_last n nought x, ((in_span n L (λ i l. inr (h i l)) x).0 r).1)

-- the set of a list with a point lies in another's exactly if the other list generates each of its vectors
pub included_iff : (n : ℕ) (L K : List Vector) → PointsAndRays n L → PointsAndRays n K → Pointed n L
    → Included (In n L) (In n K) ↔ ((i : ℕ) → i < length L → Spans n K (family L i))
included_iff n L K k k' p = (
  λ h i l. (inclusion n (listed L) (length K) (family K) (kinds_of n L k) (point_of n L p)).0
      (included_sub n L K k k' h) (i, l),
  span_in n L K k k',
)

-- ---- the hull

-- two lists with points, one behind the other, have the hull of their sets
pub hull_exact : (n : ℕ) (A B : List Vector) → PointsAndRays n A → PointsAndRays n B → Pointed n A → Pointed n B
    → (x : Vector) → In n (A ++ B) x ↔ Hull n (In n A) (In n B) x
hull_exact n A B a b p q x = (to, from)
  where
    both : PointsAndRays n (A ++ B)
    both = split A B (λ v. IsPoint n v ⊎ IsRay n v) a b

    J : Row (length A) ⊎ Row (length B) → Vec
    J = join (listed A) (listed B)

    -- the list of both is the family of both
    joined : (X : Vec) → Spans n (A ++ B) X → Span (suc n) J X
    joined X s = span_trans (suc n) (listed (A ++ B)) J s (λ i. split A B (λ v. Span (suc n) J (entry v))
        (λ i l. span_self (suc n) J (inl (i, l))) (λ i l. span_self (suc n) J (inr (i, l))) i.0 i.1)

    least : (L : List Vector) → PointsAndRays n L → Included (In n A) (In n L) → Included (In n B) (In n L)
        → Sub n J (listed L)
    least L k f g = join_least n (listed A) (listed B) (kinds_of n A a) (kinds_of n B b) (point_of n A p)
        (point_of n B q) (length L) (family L) (included_sub n A L a k f) (included_sub n B L b k g)

    to : In n (A ++ B) x → Hull n (In n A) (In n B) x
    to r L k f g =
        let (long, s) = (in_span n (A ++ B) both x).0 r in
        let X : Vec = spot n nought x in
        (in_span n L k x).1 (long, (least L k f g X (spot_last n nought x, joined X s)).1)

    from : Hull n (In n A) (In n B) x → In n (A ++ B) x
    from h = h (A ++ B) both (span_in n A (A ++ B) a both (own_l n A B)) (span_in n B (A ++ B) b both (own_r n A B))

-- ---- a half-space

-- a side of a half-space at x is the side over n + 1 places at x with 0 behind it
pub side_is : (n : ℕ) (a x : Vector) → side n a x ≡ side_of (suc n) (entry a) (spot n nought x)
unfolding side_of ⨁
side_is n a x = ap (λ z. z ⊕ entry a n) (⨁_ext n (λ j. entry a j ⊗ entry x j) term clock)
    ∙ ap (λ z. ⨁ n term ⊕ z) (sym last)
  where
    term : ℕ → Num
    term j = entry a j ⊗ spot n nought x j

    clock : (j : ℕ) → j < n → entry a j ⊗ entry x j ≡ term j
    clock j l = ap (λ z. entry a j ⊗ z) (sym (spot_clock n nought x j l))

    last : term n ≡ entry a n
    last = ap (λ z. entry a n ⊗ z) (spot_last n nought x) ∙ ⊗_nought (entry a n)

-- x satisfies a half-space exactly if x with 0 behind it does so over n + 1 places
pub satisfies_iff : (n : ℕ) (ab cd x : Vector)
    → Satisfies n ab cd x ↔ Sat (suc n) (entry ab) (entry cd) (spot n nought x)
satisfies_iff n ab cd x =
    (λ s. rw (side_is n ab x, side_is n cd x) at s, λ s. rw (side_is n ab x, side_is n cd x) s)

-- a list of satisfying vectors that L generates, and that generates the cut family of L, has the part of L's set in it
pub intersect_exact : (n : ℕ) (L R : List Vector) (ab cd : Vector) → PointsAndRays n L → PointsAndRays n R
    → ((i : ℕ) → i < length R → Spans n L (family R i) × Sat (suc n) (entry ab) (entry cd) (family R i))
    → ((u : Cut (suc n) (entry ab) (entry cd) (listed L)) → Spans n R (cut (suc n) (entry ab) (entry cd) (listed L) u))
    → (x : Vector) → In n R x ↔ Intersected n (In n L) ab cd x
intersect_exact n L R ab cd k k' part cover x = (to, from)
  where
    X : Vec
    X = spot n nought x

    C : Cut (suc n) (entry ab) (entry cd) (listed L) → Vec
    C = cut (suc n) (entry ab) (entry cd) (listed L)

    to : In n R x → Intersected n (In n L) ab cd x
    to r = record {
      from = span_in n R L k' k (λ i l. (part i l).0) x r;
      satisfies = (satisfies_iff n ab cd x).1 (span_sat (suc n) (entry ab) (entry cd) (listed R) X
          (λ i. (part i.0 i.1).1) ((in_span n R k' x).0 r).1);
    }

    from : Intersected n (In n L) ab cd x → In n R x
    from r =
        let (long, s) = (in_span n L k x).0 r.from in
        let sat = (satisfies_iff n ab cd x).0 r.satisfies in
        let c = (half_space_lem (suc n) (entry ab) (entry cd) (listed L) X).0 (s, sat) in
        (in_span n R k' x).1 (long, span_trans (suc n) C (listed R) c cover)

-- ---- a replaced entry
set_entry : (v : Vector) (i : ℕ) (z : Num) → i < length v → (j : ℕ) → entry (set v i z) j ≡ replace (entry v) i z j
set_entry v i z l j = go (ℕ_discrete j i)
  where
    go : Dec (j ≡ i) → entry (set v i z) j ≡ replace (entry v) i z j
    go (yes e) = rw e (get_or-set_same v i z −∞ l ∙ sym (replace_same (entry v) i z))
    go (no e) = get_or-set_other v i j z −∞ e ∙ sym (replace_other (entry v) i z j e)

-- ---- the delay

module _ (n : ℕ) (L : List Vector) (k : PointsAndRays n L) (h : Long n L) where
  ray_entry : (i : ℕ) → i < length L → (j : ℕ) → family (map (to_ray n) L) i j ≡ replace (family L i) n −∞ j
  ray_entry i l j = ap (λ v. entry v j) (get_or-map (to_ray n) L i [])
      ∙ set_entry (vector L i) n −∞ (omega (arith, h i l)) j

  shorter : (i : ℕ) → i < length (map (to_ray n) L) → i < length L
  shorter i l = subst (λ m. i < m) (length-map L (to_ray n)) l

  -- the vectors of the delay's list are points and rays
  pub delay_kinds : PointsAndRays n (delay_list n L)
  delay_kinds = split L (map (to_ray n) L) (λ v. IsPoint n v ⊎ IsRay n v) k
      (λ i l. inr (ray_entry i (shorter i l) n ∙ replace_same (family L i) n −∞))

  grown : (Y : Vec) → Spans n (delay_list n L) Y → Span (suc n) (up n (listed L)) Y
  grown Y s = span_trans (suc n) (listed (delay_list n L)) U s (λ i. split L (map (to_ray n) L)
      (λ v. Span (suc n) U (entry v)) (λ i l. span_self (suc n) U (old (i, l))) copied i.0 i.1)
    where
      U : Up n (listed L) → Vec
      U = up n (listed L)

      by_kind : (i : ℕ) (l : i < length L) → IsPoint n (vector L i) ⊎ IsRay n (vector L i)
          → Span (suc n) U (replace (family L i) n −∞)
      by_kind i l (inl e) = span_self (suc n) U (ray (i, l) e)
      by_kind i l (inr e) = span_same (suc n) U (places n (λ j. replace (family L i) n −∞ j ≡ family L i j)
          (replace_same (family L i) n −∞ ∙ sym e)
          (λ j m. replace_other (family L i) n −∞ j (λ q. absurd (omega arith)))) (span_self (suc n) U (old (i, l)))

      copied : (i : ℕ) → i < length (map (to_ray n) L) → Span (suc n) U (entry (vector (map (to_ray n) L) i))
      copied i l = span_same (suc n) U (λ j m. ray_entry i (shorter i l) j)
          (by_kind i (shorter i l) (k i (shorter i l)))

  shrunk : (Y : Vec) → Span (suc n) (up n (listed L)) Y → Spans n (delay_list n L) Y
  shrunk Y s = span_trans (suc n) (up n (listed L)) (listed (delay_list n L)) s each
    where
      each : (u : Up n (listed L)) → Spans n (delay_list n L) (up n (listed L) u)
      each (old i) = own_l n L (map (to_ray n) L) i.0 i.1
      each (ray i e) = span_same (suc n) (listed (delay_list n L)) (λ j m. sym (ray_entry i.0 i.1 j))
          (own_r n L (map (to_ray n) L) i.0 (rw length-map i.1))

  -- the delay's list has the set after the delay
  pub delay_exact : (y : Vector) → In n (delay_list n L) y ↔ Delayed (In n L) y
  delay_exact y = (to, from)
    where
      Y : Vec
      Y = spot n nought y

      moved : length y ≡ n → (δ : ℕ) (X : Vec) → Same (suc n) Y (later n (pos δ) X)
          → y ≡ map (λ z. pos δ ▷ z) (tab n X)
      moved long δ X e = ext_get_or −∞ y (map (λ z. pos δ ▷ z) (tab n X))
          (long ∙ sym (length-map (tab n X) (λ z. pos δ ▷ z) ∙ tab_length n X)) one
        where
          one : (j : ℕ) → j < length y → entry y j ≡ entry (map (λ z. pos δ ▷ z) (tab n X)) j
          one j m =
              let l : j < n = subst (λ k. j < k) long m in
              sym (spot_clock n nought y j l) ∙ e j (omega arith) ∙ later_clock n (pos δ) X j l
              ∙ ap (λ z. pos δ ▷ z) (tab_at n X j l) ∙ sym (get_or-map (λ z. pos δ ▷ z) (tab n X) j −∞)

      to : In n (delay_list n L) y → Delayed (In n L) y
      to r =
          let (long, s) = (in_span n (delay_list n L) delay_kinds y).0 r in
          let (δ, (X, (x0, t), e)) = (delay n (listed L) (kinds_of n L k) Y).0 (spot_last n nought y, grown Y s) in
          record { x = tab n X; δ = δ; from = in_tab n L k X x0 t; is = moved long δ X e }

      same : (d : Delayed (In n L) y) → Same (suc n) Y (later n (pos d.δ) (spot n nought d.x))
      same d = places n (λ j. Y j ≡ later n D X j)
          (spot_last n nought y ∙ sym (later_last n D X ∙ spot_last n nought d.x))
          (λ j l. spot_clock n nought y j l ∙ ap (λ v. entry v j) d.is ∙ get_or-map (λ z. D ▷ z) d.x j −∞
          ∙ ap (λ z. D ▷ z) (sym (spot_clock n nought d.x j l)) ∙ sym (later_clock n D X j l))
        where
          D : ℤ
          D = pos d.δ

          X : Vec
          X = spot n nought d.x

      from : Delayed (In n L) y → In n (delay_list n L) y
      from d =
          let (long, s) = (in_span n L k d.x).0 d.from in
          let X : Vec = spot n nought d.x in
          let r = (delay n (listed L) (kinds_of n L k) Y).1 (d.δ, (X, (spot_last n nought d.x, s), same d)) in
          (in_span n (delay_list n L) delay_kinds y).1 (
            ap (λ v. length v) d.is ∙ length-map d.x (λ z. pos d.δ ▷ z) ∙ long,
            shrunk Y r.1,
          )

-- ---- the reset

module _ (n : ℕ) (L : List Vector) (k : PointsAndRays n L) (h : Long n L) (i : ℕ) (inside : i < n) (c : ℤ) where
  abbrev R : ℕ → Vec
  R r = reset n i (fin c) (family L r)

  new_entry : (r : ℕ) → r < length L → (j : ℕ) → family (reset_list n i c L) r j ≡ R r j
  new_entry r l j = ap (λ v. entry v j) (get_or-map (reset_vector n i c) L r [])
      ∙ set_entry (vector L r) i (fin c ⊗ entry (vector L r) n) (omega (arith, h r l)) j

  fewer : (r : ℕ) → r < length (reset_list n i c L) → r < length L
  fewer r l = subst (λ m. r < m) (length-map L (reset_vector n i c)) l

  -- the vectors of the reset's list are points and rays
  pub reset_kinds : PointsAndRays n (reset_list n i c L)
  reset_kinds r l = by_kind (k r (fewer r l))
    where
      last : family (reset_list n i c L) r n ≡ family L r n
      last = new_entry r (fewer r l) n
          ∙ replace_other (family L r) i (fin c ⊗ family L r n) n (λ q. absurd (omega arith))

      by_kind : IsPoint n (vector L r) ⊎ IsRay n (vector L r)
          → IsPoint n (vector (reset_list n i c L) r) ⊎ IsRay n (vector (reset_list n i c L) r)
      by_kind (inl e) = inl (last ∙ e)
      by_kind (inr e) = inr (last ∙ e)

  to_rows : (Y : Vec) → Spans n (reset_list n i c L) Y → Span (suc n) (rows (length L) R) Y
  to_rows Y s = span_trans (suc n) (listed (reset_list n i c L)) (rows (length L) R) s
      (λ r. let l = fewer r.0 r.1 in span_same (suc n) (rows (length L) R) (λ j m. new_entry r.0 l j)
      (span_self (suc n) (rows (length L) R) (r.0, l)))

  from_rows : (Y : Vec) → Span (suc n) (rows (length L) R) Y → Spans n (reset_list n i c L) Y
  from_rows Y s = span_trans (suc n) (rows (length L) R) (listed (reset_list n i c L)) s
      (λ r. span_same (suc n) (listed (reset_list n i c L)) (λ j m. sym (new_entry r.0 r.1 j))
      (own n (reset_list n i c L) r.0 (rw length-map r.1)))

  -- where the last entry is 0, the reset replaces entry i by c
  reset_is : (X : Vec) → X n ≡ nought → (j : ℕ) → reset n i (fin c) X j ≡ replace X i (fin c) j
  reset_is X x0 j = ap (λ z. replace X i z j) (ap (λ z. fin c ⊗ z) x0 ∙ ⊗_nought (fin c))

  -- replacing entry i keeps vectors the same that agree at the clocks
  replaced : (X Z : Vec) → Same n X Z → (j : ℕ) → j < n → replace X i (fin c) j ≡ replace Z i (fin c) j
  replaced X Z e j l = go (ℕ_discrete j i)
    where
      go : Dec (j ≡ i) → replace X i (fin c) j ≡ replace Z i (fin c) j
      go (yes q) = rw q (replace_same X i (fin c) ∙ sym (replace_same Z i (fin c)))
      go (no q) = replace_other X i (fin c) j q ∙ (e j l ∙ sym (replace_other Z i (fin c) j q))

  -- the reset's list has the set after the reset
  pub reset_exact : (y : Vector) → In n (reset_list n i c L) y ↔ Reset (In n L) i c y
  reset_exact y = (to, from)
    where
      Y : Vec
      Y = spot n nought y

      set_is : Member n (rows (length L) R) Y
          ↔ ((X : Vec) × Member n (listed L) X × Same (suc n) Y (reset n i (fin c) X))
      set_is = reset_set n (length L) (family L) i (fin c) inside Y

      moved : length y ≡ n → (X : Vec) → X n ≡ nought → Same (suc n) Y (reset n i (fin c) X)
          → y ≡ set (tab n X) i (fin c)
      moved long X x0 e = ext_get_or −∞ y (set (tab n X) i (fin c))
          (long ∙ sym (length-set (tab n X) i (fin c) ∙ tab_length n X)) one
        where
          one : (j : ℕ) → j < length y → entry y j ≡ entry (set (tab n X) i (fin c)) j
          one j m =
              let l : j < n = subst (λ k. j < k) long m in
              sym (spot_clock n nought y j l) ∙ e j (omega arith) ∙ reset_is X x0 j
              ∙ replaced X (entry (tab n X)) (tab_at n X) j l
              ∙ sym (set_entry (tab n X) i (fin c) (omega (arith, tab_length n X)) j)

      to : In n (reset_list n i c L) y → Reset (In n L) i c y
      to r =
          let (long, s) = (in_span n (reset_list n i c L) reset_kinds y).0 r in
          let (X, (x0, t), e) = set_is.0 (spot_last n nought y, to_rows Y s) in
          record { x = tab n X; from = in_tab n L k X x0 t; is = moved long X x0 e }

      same : (d : Reset (In n L) i c y) → length d.x ≡ n
          → Same (suc n) Y (reset n i (fin c) (spot n nought d.x))
      same d long = places n (λ j. Y j ≡ reset n i (fin c) X j) end clock
        where
          X : Vec
          X = spot n nought d.x

          x0 : X n ≡ nought
          x0 = spot_last n nought d.x

          end : Y n ≡ reset n i (fin c) X n
          end = spot_last n nought y
              ∙ sym (replace_other X i (fin c ⊗ X n) n (λ q. absurd (omega arith)) ∙ x0)

          clock : (j : ℕ) → j < n → Y j ≡ reset n i (fin c) X j
          clock j l = spot_clock n nought y j l ∙ ap (λ v. entry v j) d.is
              ∙ set_entry d.x i (fin c) (omega (arith, long)) j
              ∙ replaced (entry d.x) X (λ q m. sym (spot_clock n nought d.x q m)) j l
              ∙ sym (reset_is X x0 j)

      from : Reset (In n L) i c y → In n (reset_list n i c L) y
      from d =
          let (long, s) = (in_span n L k d.x).0 d.from in
          let X : Vec = spot n nought d.x in
          let r = set_is.1 (X, (spot_last n nought d.x, s), same d long) in
          (in_span n (reset_list n i c L) reset_kinds y).1 (
            ap (λ v. length v) d.is ∙ length-set d.x i (fin c) ∙ long,
            from_rows Y r.1,
          )
