-- The vectors of a list of words, entry by entry.
use mathlib.Core.List.{List, [], ◌∷◌, map}
use mathlib.Core.Path.{◌≡◌, refl, sym, ◌∙◌, ap, subst}
use Prim.Native.Nat.{ℕ, zero, suc, ◌+◌, ◌*◌, ◌<◌}
use native.Mathlib.Nat.{zero-mul, suc-mul, add_comm}
use native.Mathlib.Omega.{arith}
use lib.IntN.{ℤ, pos}
use lib.ListN.{length, get_or, take, drop, get_or-map}
use lib.Seq.{get_or-take, get_or-drop, drop-drop}
use Rattle.numbers.specs.Numbers.{Num, −∞}
use Rattle.numbers.specs.Words.{mark, number}
use Rattle.numbers.specs.Places.{entries}
use Rattle.numbers.proofs.WordLaws.{number_mark}
use Rattle.algebra.specs.Vectors.{Vector, entry, vector, pieces, count, vectors}
use Rattle.algebra.proofs.Lists.{family}
use Rattle.sets.specs.Tests.{part}
use Rattle.sets.specs.Rules.{flat}
use Rattle.sets.proofs.RowLaws.{row_inside}

-- piece i of w entries starts at i * w
pieces_at : (k w i : ℕ) (v : Vector) → i < k → vector (pieces k w v) i ≡ take w (drop (i * w) v)
unfolding pieces
pieces_at zero w i v l = absurd (omega arith)
pieces_at (suc k) w zero v l = rw zero-mul
pieces_at (suc k) w (suc i) v l =
    pieces_at k w i (drop w v) (omega arith) ∙ ap (take w) (drop-drop (i * w) w v ∙ ap (λ (a : ℕ). drop a v) place)
  where
    place : w + i * w ≡ suc i * w
    place = add_comm w (i * w) ∙ sym (suc-mul i w)

-- within a list, what stands for a missing item does not matter
pub in_range : {A : Type 0} (l : List A) (k : ℕ) (d e : A) → k < length l → get_or l k d ≡ get_or l k e
in_range [] k d e h = absurd (omega arith)
in_range (x ∷ l) zero d e h = refl
in_range (x ∷ l) (suc k) d e h = in_range l k d e (omega arith)

-- entry k of the numbers of a list is the number of word k
pub number_at : (l : List ℤ) (k : ℕ) → k < length l → get_or (map number l) k −∞ ≡ entries l k
number_at l k h =
    subst (λ (x : Num). get_or (map number l) k x ≡ number (get_or l k mark)) number_mark (get_or-map number l k mark)
    ∙ ap number (in_range l k mark (pos 0) h)

-- entry j of vector i is the number of word i * (n + 1) + j
pub family_flat : (n : ℕ) (l : List ℤ) (i j : ℕ) → i < count n l → j < suc n
    → family (vectors n l) i j ≡ flat (suc n) l i j
unfolding vectors flat
family_flat n l i j h b =
    ap (λ (v : Vector). entry v j) (pieces_at (count n l) (suc n) i (map number l) h)
    ∙ get_or-take (suc n) (drop (i * suc n) (map number l)) j −∞ b
    ∙ get_or-drop (i * suc n) (map number l) j −∞
    ∙ number_at l (i * suc n + j) (omega (arith, row_inside i (suc n) (length l) h))

-- so it is of the words lent as vector i
pub part_flat : (w : ℕ) (l : List ℤ) (i j : ℕ) → j < w → entries (part l (i * w) w) j ≡ flat w l i j
unfolding part flat
part_flat w l i j b = rw (get_or-take, get_or-drop)
