-- What each step of the walk does to a set of clock values.
use Rattle.std.proofs.Common.{Err, Ok, false}
use mathlib.Core.Bool.{true}
use mathlib.Core.List.{List, [], ◌∷◌, map}
use mathlib.Core.Logic.{◌↔◌}
use mathlib.Core.Path.{◌≡◌, refl, sym, ◌∙◌, ap, subst}
use Prim.Native.Nat.{ℕ, zero, suc, ◌+◌, ◌<◌}
use native.Mathlib.Decide.{ℕ_discrete}
use native.Mathlib.Omega.{arith}
use lib.IntN.{ℤ, pos}
use lib.ListN.{length, set, length-map, get_or-map}
use lib.Seq.{get_or-set_same, get_or-set_other}
use Rattle.numbers.specs.Numbers.{Num, −∞, fin, ◌≼◌, ◌▷◌, nought}
use Rattle.numbers.proofs.Tells.{clash}
use Rattle.numbers.proofs.NumberLaws.{≼_trans, ≼_of_eq, ▷_up}
use Rattle.algebra.specs.Vectors.{Vector, entry, vectors}
use Rattle.algebra.specs.Sets.{In, set_of, Included}
use Rattle.algebra.specs.Wanted.{left, right, Intersected, Delayed, Reset}
use Rattle.algebra.specs.Working.{intersect_list, delay_list, reset_list}
use Rattle.sets.specs.Calls.{included_input}
use Rattle.sets.specs.Types.{Told}
use Rattle.sets.specs.Answers.{Asks, said_by}
use Rattle.sets.specs.Rules.{included_of}
use Rattle.sets.proofs.Membership.{kinds}
use Rattle.sets.proofs.Asking.{included_meets}
use Rattle.making.specs.Clean.{canonical_of}
use Rattle.making.proofs.Existence.{canonical_made}
use Rattle.making.proofs.Exact.{intersect_made, delay_made, reset_made}
use Rattle.making.proofs.WorkingLists.{vectors_long}
use Rattle.runs.specs.Models.{Bound}
use Rattle.runs.specs.ModelLimits.{BoundLimits}
use Rattle.runs.specs.Runs.{Values, later, Holds}
use Rattle.runs.specs.Closure.{numbers, Has}
use Rattle.runs.specs.Table.{half_of}
use Rattle.runs.specs.Rule.{made, fitted, cut, delayed, reset_to0, included, is_yes}
use Rattle.runs.proofs.TableLaws.{table_means}
use Rattle.runs.proofs.ProperLists.{Proper, set_low, values_of, made_vectors, made_proper}

-- the list t is proper, and its set is the wanted one
pub record Gives (n : ℕ) (t : List ℤ) (wanted : Vector → Type 0) : Type 0 where
  pub proper : Proper n t
  pub exact : (x : Vector) → set_of n t x ↔ wanted x

gives : (n : ℕ) (L : List Vector) (wanted : Vector → Type 0) (t : List ℤ) → fitted n (canonical_of n L) ≡ made t
    → ((x : Vector) → In n (canonical_of n L) x ↔ wanted x)
    → ((x : Vector) → wanted x → (j : ℕ) → j < n → nought ≼ entry x j) → Gives n t wanted
gives n L wanted t e f low = record {
  proper = made_proper n (canonical_of n L) (canonical_made n L) bound t e;
  exact = λ x. subst (λ K. In n K x ↔ wanted x)
      (sym (made_vectors n (canonical_of n L) (canonical_made n L) bound t e)) (f x);
}
  where
    bound : (x : Vector) → In n (canonical_of n L) x → (j : ℕ) → j < n → nought ≼ entry x j
    bound x h = low x ((f x).0 h)

-- ---- the steps make the wanted sets
module _ (n : ℕ) (l : List ℤ) (p : Proper n l) where
  -- what satisfies a half-space
  pub cut_gives : (h t : List ℤ) → cut n h l ≡ made t
      → Gives n t (Intersected n (set_of n l) (left n h) (right n h))
  unfolding cut
  cut_gives h t e = gives n (intersect_list n (left n h) (right n h) (vectors n l))
      (Intersected n (set_of n l) (left n h) (right n h)) t e
      (intersect_made n (left n h) (right n h) (vectors n l) (kinds n l p.limits))
      (λ x s. set_low n l p.limits x s.from)

  -- a delay
  pub delayed_gives : (t : List ℤ) → delayed n l ≡ made t → Gives n t (Delayed (set_of n l))
  unfolding delayed
  delayed_gives t e = gives n (delay_list n (vectors n l)) (Delayed (set_of n l)) t e
      (delay_made n (vectors n l) (kinds n l p.limits) (vectors_long n l)) low
    where
      low : (y : Vector) → Delayed (set_of n l) y → (j : ℕ) → j < n → nought ≼ entry y j
      low y d j m = ≼_trans (set_low n l p.limits d.x d.from j m)
          (≼_trans (▷_up {c = pos d.δ} (omega arith) (entry d.x j))
          (≼_of_eq (sym (ap (λ v. entry v j) d.is ∙ get_or-map (λ z. pos d.δ ▷ z) d.x j −∞))))

  -- a reset to 0
  pub reset_gives : (i : ℕ) → i < n → (t : List ℤ) → reset_to0 n i l ≡ made t → Gives n t (Reset (set_of n l) i (pos 0))
  unfolding reset_to0
  reset_gives i m t e = gives n (reset_list n i (pos 0) (vectors n l)) (Reset (set_of n l) i (pos 0)) t e
      (reset_made n (vectors n l) (kinds n l p.limits) (vectors_long n l) i m (pos 0)) low
    where
      low : (y : Vector) → Reset (set_of n l) i (pos 0) y → (j : ℕ) → j < n → nought ≼ entry y j
      low y r j k = by (ℕ_discrete j i)
        where
          by : Dec (j ≡ i) → nought ≼ entry y j
          by (yes q) = ≼_of_eq (sym (ap (λ v. entry v j) r.is
              ∙ (ap (λ (j : ℕ). entry (set r.x i (fin (pos 0))) j) q
              ∙ get_or-set_same r.x i (fin (pos 0)) −∞ (omega (arith, r.from.long)))))
          by (no q) = ≼_trans (set_low n l p.limits r.x r.from j k)
              (≼_of_eq (sym (ap (λ v. entry v j) r.is ∙ get_or-set_other r.x i j (fin (pos 0)) −∞ q)))

-- ---- the same of clock values
pub values_long : (n : ℕ) (l : List ℤ) (v : Values) → Has n l v → length v ≡ n
values_long n l v h = sym (length-map v (λ k. fin (pos k))) ∙ h.long

-- the numbers of clock values settle them
pub numbers_inj : (u v : Values) → numbers u ≡ numbers v → u ≡ v
numbers_inj u v e = sym (back u) ∙ (ap (map whole) e ∙ back v)
  where
    whole : Num → ℕ
    whole −∞ = 0
    whole (fin (pos k)) = k
    whole (fin (lib.IntN.negsuc k)) = 0

    back : (v : Values) → map whole (numbers v) ≡ v
    back [] = refl
    back (k ∷ v) = ap (λ v. k ∷ v) (back v)

-- a delay of values is a shift of their numbers
pub later_numbers : (δ : ℕ) (v : Values) → map (λ z. pos δ ▷ z) (numbers v) ≡ numbers (later δ v)
later_numbers δ [] = refl
later_numbers δ (k ∷ v) = ap (λ x. fin (pos (δ + k)) ∷ x) (later_numbers δ v)

set_numbers : (v : Values) (i : ℕ) → set (numbers v) i (fin (pos 0)) ≡ numbers (set v i 0)
set_numbers [] i = refl
set_numbers (k ∷ v) zero = refl
set_numbers (k ∷ v) (suc i) = ap (λ x. fin (pos k) ∷ x) (set_numbers v i)

module _ (n : ℕ) (l : List ℤ) (p : Proper n l) where
  -- a bound
  pub cut_values : (b : Bound) → BoundLimits n b → (t : List ℤ) → cut n (half_of n b) l ≡ made t
      → (v : Values) → Has n t v ↔ (Has n l v × Holds b v)
  cut_values b h t e v = (
    λ s. let i = (g.exact (numbers v)).0 s in
        (i.from, (table_means n v (values_long n l v i.from) b h).1 i.satisfies),
    λ s. (g.exact (numbers v)).1 (record {
      from = s.0;
      satisfies = (table_means n v (values_long n l v s.0) b h).0 s.1;
    }),
  )
    where
      g : Gives n t (Intersected n (set_of n l) (left n (half_of n b)) (right n (half_of n b)))
      g = cut_gives n l p (half_of n b) t e

  -- a delay
  pub delayed_values : (t : List ℤ) → delayed n l ≡ made t → (v : Values)
      → Has n t v ↔ ((δ : ℕ) × (u : Values) × Has n l u × (v ≡ later δ u))
  delayed_values t e v = (to, from)
    where
      g : Gives n t (Delayed (set_of n l))
      g = delayed_gives n l p t e

      to : Has n t v → (δ : ℕ) × (u : Values) × Has n l u × (v ≡ later δ u)
      to h =
          let d = (g.exact (numbers v)).0 h in
          let (u, q) = values_of n l p.limits d.x d.from in (
            d.δ,
            u,
            subst (set_of n l) q d.from,
            numbers_inj v (later d.δ u) (d.is ∙ (ap (map (λ z. pos d.δ ▷ z)) q ∙ later_numbers d.δ u)),
          )

      from : (δ : ℕ) × (u : Values) × Has n l u × (v ≡ later δ u) → Has n t v
      from (δ, u, h, q) = (g.exact (numbers v)).1 (record {
        x = numbers u;
        δ = δ;
        from = h;
        is = ap numbers q ∙ sym (later_numbers δ u);
      })

  -- a reset
  pub reset_values : (i : ℕ) → i < n → (t : List ℤ) → reset_to0 n i l ≡ made t → (v : Values)
      → Has n t v ↔ ((u : Values) × Has n l u × (v ≡ set u i 0))
  reset_values i m t e v = (to, from)
    where
      g : Gives n t (Reset (set_of n l) i (pos 0))
      g = reset_gives n l p i m t e

      to : Has n t v → (u : Values) × Has n l u × (v ≡ set u i 0)
      to h =
          let d = (g.exact (numbers v)).0 h in
          let (u, q) = values_of n l p.limits d.x d.from in (
            u,
            subst (set_of n l) q d.from,
            numbers_inj v (set u i 0) (d.is ∙ (ap (λ x. set x i (fin (pos 0))) q ∙ set_numbers u i)),
          )

      from : (u : Values) × Has n l u × (v ≡ set u i 0) → Has n t v
      from (u, h, q) = (g.exact (numbers v)).1 (record {
        x = numbers u;
        from = h;
        is = ap numbers q ∙ sym (set_numbers u i);
      })

-- ---- inclusion
-- the test passes only if the one set is included in the other
pub included_yes : (n : ℕ) (inner outer : List ℤ) → included n inner outer ≡ true
    → Included (set_of n inner) (set_of n outer)
unfolding included
included_yes n inner outer e = by (included_of n inner outer) e (included_meets n inner outer)
  where
    by : (a : Told) → is_yes a ≡ true
        → Asks (included_input n inner outer) (Included (set_of n inner) (set_of n outer)) (said_by a)
        → Included (set_of n inner) (set_of n outer)
    by (Ok true) e h = h.1
    by (Ok false) e h = absurd (clash (sym e))
    by (Err f) e h = absurd (clash (sym e))
