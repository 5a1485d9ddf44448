-- Lists of vectors as families: the set of a list is what the family of its vectors generates over n + 1 places.
use mathlib.Core.List.{List, [], ◌++◌, map}
use mathlib.Core.Logic.{◌⊎◌, inl, inr, ◌↔◌}
use mathlib.Core.Path.{◌≡◌, refl, sym, ◌∙◌, ap, subst}
use Prim.Native.Nat.{ℕ, zero, suc, ◌+◌, ◌-◌, ◌<◌}
use native.Mathlib.Omega.{arith}
use native.Mathlib.Decide.{dec_lt}
use lib.IntN.{ℤ}
use lib.ListN.{length, drop, length-append, get_or-append}
use lib.Seq.{get_or-append-add}
use Rattle.numbers.specs.Numbers.{Num, −∞, ◌⊗◌, ⨁, nought}
use Rattle.numbers.specs.Words.{number}
use Rattle.numbers.specs.Places.{Vec}
use Rattle.numbers.proofs.NumberLaws.{⊗_low, ⊗_nought, ⨁_ext}
use Rattle.algebra.specs.Vectors.{Vector, entry, vector, PointsAndRays, pieces, count, vectors}
pub use Rattle.algebra.specs.Vectors.{family, tab}
use Rattle.algebra.specs.Sets.{on_point, Combines, In, Included}
use Rattle.algebra.proofs.Entries.{Same, replace, replace_same, replace_other, places}
use Rattle.algebra.proofs.Generation.{Span, span_self, span_same, span_trans}
use Rattle.algebra.proofs.Residuation.{Gen, Row, rows, gen_iff_span}
use Rattle.algebra.proofs.Inclusion.{Sub}

-- the vectors of a list as a family
abbrev pub listed : (L : List Vector) → Row (length L) → Vec
listed L = rows (length L) (family L)

-- the vectors of a list generate X
abbrev pub Spans : ℕ → List Vector → Vec → Type 0
Spans n L X = Span (suc n) (listed L) X

-- ---- combinations
on_point_lem : (c g : Num) → (g ≡ nought) ⊎ (g ≡ −∞) → on_point g c ≡ c ⊗ g
on_point_lem c g (inl e) = rw e (sym (⊗_nought c))
on_point_lem c g (inr e) = rw e (sym (⊗_low c))

-- the largest scalar on a point is the combination's last entry
pub last_entry : (n : ℕ) (L : List Vector) → PointsAndRays n L → (c : ℕ → Num)
    → ⨁ (length L) (λ i. on_point (entry (vector L i) n) (c i)) ≡ ⨁ (length L) (λ i. c i ⊗ family L i n)
last_entry n L k c = ⨁_ext (length L) (λ i. on_point (entry (vector L i) n) (c i)) (λ i. c i ⊗ family L i n)
    (λ i l. on_point_lem (c i) (entry (vector L i) n) (k i l))

-- a combination with the largest scalar X n on a point is one over n + 1 places, with the same scalars
unfoldable pub combines_gen : (n : ℕ) (L : List Vector) → PointsAndRays n L → (x : Vector) (X : Vec)
    → Combines n L (X n) x → ((j : ℕ) → j < n → X j ≡ entry x j) → Gen (suc n) (length L) (family L) X
unfolding Gen
combines_gen n L k x X c e = (
  c.scalar,
  places n (λ j. X j ≡ ⨁ (length L) (λ i. c.scalar i ⊗ family L i j))
      (sym c.points ∙ last_entry n L k c.scalar) (λ j l. e j l ∙ c.entries j l),
)

-- a combination over n + 1 places is one with the largest scalar X n on a point, with the same scalars
unfoldable pub gen_combines : (n : ℕ) (L : List Vector) → PointsAndRays n L → (x : Vector) (X : Vec)
    → Gen (suc n) (length L) (family L) X → ((j : ℕ) → j < n → X j ≡ entry x j) → Combines n L (X n) x
unfolding Gen
gen_combines n L k x X (c, h) e = record {
  scalar = c;
  points = last_entry n L k c ∙ sym (h n (omega arith));
  entries = λ j l. sym (e j l) ∙ h j (omega arith);
}

-- the n clocks of x, with the entry `top` behind them
abbrev pub spot : ℕ → Num → Vector → Vec
spot n top x = replace (entry x) n top

-- the last entry of `spot`
pub spot_last : (n : ℕ) (top : Num) (x : Vector) → spot n top x n ≡ top
spot_last n top x = replace_same (entry x) n top

-- the clocks of `spot`
pub spot_clock : (n : ℕ) (top : Num) (x : Vector) (j : ℕ) → j < n → spot n top x j ≡ entry x j
spot_clock n top x j l = replace_other (entry x) n top j (λ e. absurd (omega arith))

-- x is a combination with the largest scalar `top` on a point exactly if x with `top` behind it is a combination
pub combines_iff : (n : ℕ) (L : List Vector) → PointsAndRays n L → (top : Num) (x : Vector)
    → Combines n L top x ↔ Gen (suc n) (length L) (family L) (spot n top x)
combines_iff n L k top x = (to, from)
  where
    last : spot n top x n ≡ top
    last = spot_last n top x

    to : Combines n L top x → Gen (suc n) (length L) (family L) (spot n top x)
    to c = combines_gen n L k x (spot n top x) (subst (λ t. Combines n L t x) (sym last) c) (spot_clock n top x)

    from : Gen (suc n) (length L) (family L) (spot n top x) → Combines n L top x
    from g = subst (λ t. Combines n L t x) last (gen_combines n L k x (spot n top x) g (spot_clock n top x))

-- x is in the set of a list exactly if it has n entries and the list's vectors generate x with 0 behind it
pub in_span : (n : ℕ) (L : List Vector) → PointsAndRays n L → (x : Vector)
    → In n L x ↔ ((length x ≡ n) × Spans n L (spot n nought x))
in_span n L k x = (
  λ h. (h.long, spans.0 ((combines_iff n L k nought x).0 h.made)),
  λ h. record { long = h.0; made = (combines_iff n L k nought x).1 (spans.1 h.1) },
)
  where
    spans : Gen (suc n) (length L) (family L) (spot n nought x) ↔ Spans n L (spot n nought x)
    spans = gen_iff_span (suc n) (length L) (family L) (spot n nought x)

-- ---- vectors by place as lists

-- the first n entries of a vector are n entries
pub tab_length : (n : ℕ) (X : Vec) → length (tab n X) ≡ n
unfolding tab
tab_length zero X = refl
tab_length (suc n) X = ap suc (tab_length n (λ j. X (suc j)))

-- each is the vector's entry
pub tab_at : (n : ℕ) (X : Vec) (j : ℕ) → j < n → X j ≡ entry (tab n X) j
unfolding tab
tab_at zero X j l = absurd (omega arith)
tab_at (suc n) X zero l = refl
tab_at (suc n) X (suc j) l = tab_at n (λ j. X (suc j)) j (omega arith)

-- the first n entries with 0 behind them are the vector, if its last entry is 0
pub spot_tab : (n : ℕ) (X : Vec) → X n ≡ nought → Same (suc n) (spot n nought (tab n X)) X
spot_tab n X e = places n (λ j. spot n nought (tab n X) j ≡ X j) (spot_last n nought (tab n X) ∙ sym e)
    (λ j l. spot_clock n nought (tab n X) j l ∙ sym (tab_at n X j l))

-- the first n entries of a generated vector whose last entry is 0 are in the set
pub in_tab : (n : ℕ) (L : List Vector) → PointsAndRays n L → (X : Vec) → X n ≡ nought → Spans n L X → In n L (tab n X)
in_tab n L k X e s = (in_span n L k (tab n X)).1 (tab_length n X, span_same (suc n) (listed L) (spot_tab n X e) s)

-- ---- inclusion

-- an inclusion of the sets of two lists is one of the sets of their families
pub included_sub : (n : ℕ) (L K : List Vector) → PointsAndRays n L → PointsAndRays n K
    → Included (In n L) (In n K) → Sub n (listed L) (listed K)
included_sub n L K k k' h X (e, s) = (e, span_same (suc n) (listed K) (λ j l. sym (spot_tab n X e j l)) there.1)
  where
    there : (length (tab n X) ≡ n) × Spans n K (spot n nought (tab n X))
    there = (in_span n K k' (tab n X)).0 (h (tab n X) (in_tab n L k X e s))

-- a list whose vectors another list generates has its set in the other's
pub span_in : (n : ℕ) (A B : List Vector) → PointsAndRays n A → PointsAndRays n B
    → ((i : ℕ) → i < length A → Spans n B (family A i)) → Included (In n A) (In n B)
span_in n A B a b h x r =
    let (long, s) = (in_span n A a x).0 r in
    (in_span n B b x).1 (long, span_trans (suc n) (listed A) (listed B) s (λ i. h i.0 i.1))

-- ---- the vectors of a list, and of two together
pieces_length : (k w : ℕ) (v : Vector) → length (pieces k w v) ≡ k
unfolding pieces
pieces_length zero w v = refl
pieces_length (suc k) w v = ap suc (pieces_length k w (drop w v))

-- a list of words has as many vectors as it has pieces of n + 1 words
pub vectors_length : (n : ℕ) (l : List ℤ) → length (vectors n l) ≡ count n l
unfolding vectors
vectors_length n l = pieces_length (count n l) (suc n) (map number l)

-- a list generates its own vectors
pub own : (n : ℕ) (L : List Vector) (i : ℕ) → i < length L → Spans n L (family L i)
own n L i l = span_self (suc n) (listed L) (i, l)

vector_l : (A B : List Vector) (i : ℕ) → i < length A → vector (A ++ B) i ≡ vector A i
vector_l A B i l = get_or-append A B [] i l

vector_r : (A B : List Vector) (i : ℕ) → vector (A ++ B) (length A + i) ≡ vector B i
vector_r A B i = get_or-append-add A B i []

-- what holds of the vectors of two lists holds of the vectors of both together
pub split : (A B : List Vector) (P : Vector → Type 0) → ((i : ℕ) → i < length A → P (vector A i))
    → ((i : ℕ) → i < length B → P (vector B i)) → (i : ℕ) → i < length (A ++ B) → P (vector (A ++ B) i)
split A B P f g i l = go (dec_lt i (length A))
  where
    go : Dec (i < length A) → P (vector (A ++ B) i)
    go (yes h) = rw (vector_l A B i h) (f i h)
    go (no h) =
        let e : length A + (i - length A) ≡ i = omega arith in
        let r : i - length A < length B = omega (arith, length-append A B) in
        subst (λ k. P (vector (A ++ B) k)) e (rw (vector_r A B (i - length A)) (g (i - length A) r))

-- two lists together generate the vectors of the first
pub own_l : (n : ℕ) (A B : List Vector) (i : ℕ) → i < length A → Spans n (A ++ B) (family A i)
own_l n A B i l = subst (λ v. Spans n (A ++ B) (entry v)) (vector_l A B i l)
    (own n (A ++ B) i (omega (arith, length-append A B)))

-- two lists together generate the vectors of the second
pub own_r : (n : ℕ) (A B : List Vector) (i : ℕ) → i < length B → Spans n (A ++ B) (family B i)
own_r n A B i l = subst (λ v. Spans n (A ++ B) (entry v)) (vector_r A B i)
    (own n (A ++ B) (length A + i) (omega (arith, length-append A B)))
