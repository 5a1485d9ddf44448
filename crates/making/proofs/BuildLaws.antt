-- Lists of vectors put into working memory, vector by vector.
use mathlib.Core.List.{List, [], ◌∷◌, ◌++◌, map, map-append, append_assoc, append-nil}
use mathlib.Core.Path.{◌≡◌, refl, sym, ◌∙◌, ap, subst}
use Prim.Native.Nat.{ℕ, suc, ◌+◌, ◌*◌, ◌/◌, ◌≤◌, ◌<◌}
use native.Mathlib.Nat.{add-zero}
use native.Mathlib.Numerals.{add-one}
use native.Mathlib.Omega.{arith}
use lib.IntN.{ℤ}
use lib.ListN.{length, take, length-append, length-map}
use lib.Seq.{take-suc, take-length, length-take-le}
use Rattle.numbers.specs.Words.{number}
use Rattle.algebra.specs.Vectors.{Vector, vector, vectors, count}
use Rattle.algebra.proofs.Lists.{vectors_length}
use Rattle.sets.specs.Tests.{part}
use Rattle.algebra.specs.Working.{normal}
use Rattle.sets.proofs.RowLaws.{row_ends, row_inside, part_long}
use Rattle.sets.proofs.FallLaws.{each_part, each_wider}
use Rattle.sorting.specs.Rows.{held}
use Rattle.sorting.proofs.Held.{vectors_held, held_vector}
use Rattle.making.specs.Change.{Changeable, Changes, Growable}
use Rattle.making.specs.Work.{Pushable, Pushed, Added, Grown}
use Rattle.making.proofs.Normal.{map_at}

-- nothing added
pub added_none : (n : ℕ) (work : List ℤ) (k : ℕ) → Added n work k [] work
added_none n work k =
    record { long = refl; rows = rw (add-zero k) (sym (append-nil (held (suc n) k work))); near = λ h. h }

-- one vector pushed is one vector more
pub grown_one : (n : ℕ) (work : List ℤ) (k : ℕ) (v after : List ℤ) (c : ℕ) → Pushed n work k v after → c ≡ k + 1
    → Grown n work k (map number v ∷ []) c after
grown_one n work k v after c p e =
    record { added = record { long = p.long; rows = p.rows; near = p.near }; count = e }

-- what is added behind what was added
pub added_append : (n : ℕ) (work : List ℤ) (k : ℕ) (A B : List Vector) (mid after : List ℤ)
    → Added n work k A mid → Added n mid (k + length A) B after → Added n work k (A ++ B) after
added_append n work k A B mid after p q = record {
  long = q.long ∙ p.long;
  rows = ap (λ (c : ℕ). held (suc n) c after) count ∙ q.rows
      ∙ ap (λ (l : List Vector). l ++ map (normal n) B) p.rows
      ∙ append_assoc (held (suc n) k work) (map (normal n) A) (map (normal n) B)
      ∙ ap (λ (l : List Vector). held (suc n) k work ++ l) (sym (map-append (normal n) A B));
  near = λ h. q.near (p.near h);
}
  where
    count : k + length (A ++ B) ≡ k + length A + length B
    count = omega (arith, length-append A B)

-- one list behind the other
pub grown_append : (n : ℕ) (work : List ℤ) (k : ℕ) (A B : List Vector) (m r : ℕ) (mid after : List ℤ)
    → Grown n work k A m mid → Grown n mid m B r after → Grown n work k (A ++ B) r after
grown_append n work k A B m r mid after p q = record {
  added = added_append n work k A B mid after p.added
      (subst (λ (c : ℕ). Added n mid c B after) p.count q.added);
  count = omega (arith, p.count, q.count, length-append A B);
}

-- ---- a list M put there vector by vector: the first i of them are there
module _ (n : ℕ) (work : List ℤ) (k : ℕ) (M : List Vector) where
  -- at first none is
  pub adding_start : Grown n work k (take 0 M) k work
  adding_start = record { added = added_none n work k; count = sym (add-zero k) }

  -- with vector i behind them there is one more
  pub adding_next : (i c d : ℕ) (mid after : List ℤ) (u : Vector) → i < length M → u ≡ vector M i
      → Grown n work k (take i M) c mid → Grown n mid c (u ∷ []) d after → Grown n work k (take (i + 1) M) d after
  adding_next i c d mid after u l e p q =
      subst (λ (A : List Vector). Grown n work k A d after) (sym next)
      (grown_append n work k (take i M) (u ∷ []) c d mid after p q)
    where
      next : take (i + 1) M ≡ take i M ++ (u ∷ [])
      next = ap (λ (c : ℕ). take c M) (add-one i) ∙ take-suc M i [] l
          ∙ ap (λ (x : Vector). take i M ++ (x ∷ [])) (sym e)

  -- when all are there, the list is
  pub adding_done : (i c : ℕ) (after : List ℤ) → i ≡ length M → Grown n work k (take i M) c after
      → Grown n work k M c after
  adding_done i c after e p =
      subst (λ (A : List Vector). Grown n work k A c after) (ap (λ (c : ℕ). take c M) e ∙ take-length M) p

-- there is room for one more
pub room_next : (n k i m room : ℕ) → i < m → (k + m) * suc n ≤ room → (k + i) * suc n + suc n ≤ room
room_next n k i m room l h = row_ends (k + i) (k + m) (suc n) room (omega arith) h

-- ---- the vectors of a list of words, as the code lends them
-- the words of vector i are vector i of the list
pub row_vector : (n : ℕ) (l : List ℤ) (i : ℕ) → i < length l / (n + 1)
    → map number (part l (i * (n + 1)) (n + 1)) ≡ vector (vectors n l) i
unfolding part
row_vector n l i h = rw (add-one n) (sym (ap (λ (L : List Vector). vector L i) (vectors_held n l)
    ∙ held_vector (suc n) (count n l) l i (subst (λ (w : ℕ). i < length l / w) (add-one n) h)))

-- there are as many vectors as the code counts
pub rows_count : (n : ℕ) (l : List ℤ) → length (vectors n l) ≡ length l / (n + 1)
rows_count n l = vectors_length n l ∙ rw (add-one n)

-- a row of words and what it becomes, as one step of the list
pub step_vector : (f : Vector → Vector) (n : ℕ) (l v : List ℤ) (i : ℕ) → i < length l / (n + 1)
    → v ≡ part l (i * (n + 1)) (n + 1) → f (map number v) ≡ vector (map f (vectors n l)) i
step_vector f n l v i h e = ap (λ (v : List ℤ). f (map number v)) e ∙ ap f (row_vector n l i h)
    ∙ sym (map_at f (vectors n l) i (subst (λ (c : ℕ). i < c) (sym (rows_count n l)) h))

-- changing each vector leaves their number
pub steps_count : (f : Vector → Vector) (n : ℕ) (l : List ℤ) → length (map f (vectors n l)) ≡ length l / (n + 1)
steps_count f n l = length-map (vectors n l) f ∙ rows_count n l

-- ---- the vectors of a list, one after the other, into memory that has room for them
module _ (n : ℕ) (l work : List ℤ) (k : ℕ) (g : Growable n l work k) (v : List ℤ) (i : ℕ) (h : i < length l / (n + 1))
    (e : v ≡ part l (i * (n + 1)) (n + 1)) where
  -- vector i can be changed
  pub row_changeable : Changeable n v
  row_changeable = rw e (record {
    clocks = g.clocks;
    long = part_long l (i * (n + 1)) (n + 1) (row_inside i (n + 1) (length l) h) ∙ add-one n;
    near = each_part l (i * (n + 1)) (n + 1) (row_inside i (n + 1) (length l) h) g.near;
  })

  -- with i vectors there, there is room for one more
  pub row_room : (M : List Vector) (c : ℕ) (mid : List ℤ) → length M ≡ length l / (n + 1)
      → Grown n work k (take i M) c mid → c * suc n + suc n ≤ length mid
  row_room M c mid q p = rw (p.count, p.added.long, length-take-le i M (omega arith))
      (room_next n k i (count n l) (length work) (subst (λ (w : ℕ). i < length l / w) (add-one n) h) g.room)

  -- so it can be put there as it is
  pub row_pushable : (M : List Vector) (c : ℕ) (mid : List ℤ) → length M ≡ length l / (n + 1)
      → Grown n work k (take i M) c mid → Pushable n mid c v
  row_pushable M c mid q p = record {
    clocks = g.clocks;
    long = row_changeable.long;
    room = row_room M c mid q p;
    near = each_wider (omega arith) row_changeable.near;
  }

-- a changed vector, lent from seven words, can be put there
pub changed_pushable : (n : ℕ) (u : Vector) (words mid : List ℤ) (c : ℕ) → n ≤ 6 → Changes n u words
    → c * suc n + suc n ≤ length mid → Pushable n mid c (take (n + 1) words)
changed_pushable n u words mid c h p r = rw (add-one n) (record {
  clocks = h;
  long = length-take-le (suc n) words (omega (arith, p.long));
  room = r;
  near = p.near;
})

-- and is there then
pub changed_grown : (n : ℕ) (u : Vector) (words mid after : List ℤ) (c d : ℕ) → Changes n u words
    → Pushed n mid c (take (n + 1) words) after → d ≡ c + 1 → Grown n mid c (u ∷ []) d after
changed_grown n u words mid after c d p q e = subst (λ (x : Vector). Grown n mid c (x ∷ []) d after) p.right
    (grown_one n mid c (take (suc n) words) after d (rw (add-one n) at q) e)
