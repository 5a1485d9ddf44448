-- The sides of a half-space at the vectors of a list, vector by vector.
use mathlib.Core.List.{List, map}
use mathlib.Core.Logic.{◌≢◌}
use mathlib.Core.Path.{◌≡◌, sym, ◌∙◌, ap}
use Prim.Native.Nat.{ℕ, suc, ◌+◌, ◌*◌, ◌/◌, ◌<◌}
use native.Mathlib.Numerals.{add-one}
use native.Mathlib.Omega.{arith}
use borrow.Author.Count.{below_more, below_none}
use lib.IntN.{ℤ, pos}
use lib.ListN.{length, get_or, set, length-set}
use lib.Seq.{get_or-set_same, get_or-set_other}
use Rattle.numbers.specs.Numbers.{◌⊗◌, ⨁}
use Rattle.numbers.specs.Words.{number}
use Rattle.numbers.specs.Places.{entries, side_of}
use Rattle.numbers.proofs.NumberLaws.{⨁_ext}
use Rattle.algebra.specs.Vectors.{Vector, entry, vector, vectors}
use Rattle.algebra.specs.Working.{side_at}
use Rattle.sets.specs.Tests.{part}
use Rattle.sets.proofs.RowLaws.{row_inside, part_long}
use Rattle.making.specs.Work.{Sides}
use Rattle.making.proofs.PushLaws.{words_entry}
use Rattle.making.proofs.BuildLaws.{row_vector}

-- the side at words is the side at the vector
pub side_words : (n : ℕ) (ab v : List ℤ) → length ab ≡ suc n → length v ≡ suc n
    → side_of (length v) (entries ab) (entries v) ≡ side_at n (map number ab) (map number v)
unfolding side_at side_of
side_words n ab v e q = ap (λ (d : ℕ). ⨁ d (λ j. entries ab j ⊗ entries v j)) q
    ∙ ⨁_ext (suc n) (λ j. entries ab j ⊗ entries v j) (λ j. entry (map number ab) j ⊗ entry (map number v) j)
    (λ j l. sym (rw (words_entry n ab e j l, words_entry n v q j l)))

-- at vector i of a list
pub side_row : (n : ℕ) (ab l v : List ℤ) (i : ℕ) → length ab ≡ suc n → i < length l / (n + 1)
    → v ≡ part l (i * (n + 1)) (n + 1)
    → side_of (length v) (entries ab) (entries v) ≡ side_at n (map number ab) (vector (vectors n l) i)
side_row n ab l v i e h q =
    ap (λ (v : List ℤ). side_of (length v) (entries ab) (entries v)) q
    ∙ side_words n ab (part l (i * (n + 1)) (n + 1)) e
    (part_long l (i * (n + 1)) (n + 1) (row_inside i (n + 1) (length l) h) ∙ add-one n)
    ∙ ap (side_at n (map number ab)) (row_vector n l i h)

-- the first i sides are there
pub record Siding (n : ℕ) (ab : Vector) (L : List Vector) (sides : List ℤ) (i : ℕ) : Type 0 where
  pub long : length sides ≡ 32
  pub done : (k : ℕ) → k < i → number (get_or sides k (pos 0)) ≡ side_at n ab (vector L k)

module _ (n : ℕ) (ab : Vector) (L : List Vector) where
  -- at first none is there
  pub siding_start : (sides : List ℤ) → length sides ≡ 32 → Siding n ab L sides 0
  siding_start sides e = record { long = e; done = below_none _ }

  -- with the side at vector i there is one more
  pub siding_next : (sides : List ℤ) (i : ℕ) (x : ℤ) → Siding n ab L sides i → i < 32
      → number x ≡ side_at n ab (vector L i)
      → Siding n ab L (set sides i x) (i + 1)
  siding_next sides i x s l e = record {
    long = length-set sides i x ∙ s.long;
    done = below_more (λ (k : ℕ). number (get_or (set sides i x) k (pos 0)) ≡ side_at n ab (vector L k)) i
        (λ k b. let ne : k ≢ i = omega arith in rw (get_or-set_other sides i k x (pos 0) ne) (s.done k b))
        (rw (get_or-set_same sides i x (pos 0) (omega (arith, s.long))) e);
  }

  -- when the side at each vector is there, all are
  pub siding_done : (sides : List ℤ) (i : ℕ) → i ≡ length L → Siding n ab L sides i → Sides n ab L sides
  siding_done sides i e s = record { long = s.long; right = λ k l. s.done k (omega arith) }
