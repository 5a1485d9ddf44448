-- The rule by which each making call finds its set: the vectors that stand before cleaning, for the vectors of a list.
use Rattle.std.specs.Prelude.{Bool, true, false, cond, List, [], ◌∷◌, ◌++◌, map, ℕ, suc, ℤ, pos, neg_ℤ, length, set}
use Rattle.numbers.specs.Numbers.{Num, −∞, fin, at_most, ◌▷◌, ◌⊗◌, ◌⊕◌, ⨁}
use Rattle.numbers.specs.Places.{side_of}
use Rattle.numbers.specs.Tests.{some}
use Rattle.algebra.specs.Vectors.{Vector, entry, vector, tab}

-- what f makes of each vector, one behind the other
unfoldable pub each : (Vector → List Vector) → List Vector → List Vector
each f [] = []
each f (v ∷ L) = f v ++ each f L

-- ---- half-space: satisfying vectors stay; with each violating one they give where the way leaves the half-space
-- one side of a half-space at a vector of n + 1 entries: at a ray, b and d count as −∞
unfoldable pub side_at : ℕ → Vector → Vector → Num
side_at n ab v = side_of (suc n) (entry ab) (entry v)

-- whether a vector satisfies: its left side is at most its right side
unfoldable pub satisfies : ℕ → Vector → Vector → Vector → Bool
satisfies n ab cd v = at_most (side_at n ab v) (side_at n cd v)

-- g weighted by the left side at h, or h weighted by the right side at g, whichever is larger at each entry
unfoldable pub crossing : ℕ → Vector → Vector → Vector → Vector → Vector
crossing n ab cd g h = tab (suc n) (λ j. (side_at n ab h ⊗ entry g j) ⊕ (side_at n cd g ⊗ entry h j))

-- what a satisfying g gives with each vector of L that violates
unfoldable pub crossings : ℕ → Vector → Vector → List Vector → Vector → List Vector
crossings n ab cd L g = each (λ h. cond (satisfies n ab cd h) [] (crossing n ab cd g h ∷ [])) L

-- each satisfying vector of L, and behind it what it gives
unfoldable pub intersect_list : ℕ → Vector → Vector → List Vector → List Vector
intersect_list n ab cd L = each (λ g. cond (satisfies n ab cd g) (g ∷ crossings n ab cd L g) []) L

-- ---- delay: the points are copied among the rays (the rays once more, which changes nothing)
-- a vector among the rays
abbrev pub to_ray : ℕ → Vector → Vector
to_ray n v = set v n −∞

-- the list and its copy among the rays
abbrev pub delay_list : ℕ → List Vector → List Vector
delay_list n L = L ++ map (to_ray n) L

-- ---- reset of clock i to c: points get c, rays −∞
-- a vector with clock i replaced: c at a point, −∞ at a ray
abbrev pub reset_vector : ℕ → ℕ → ℤ → Vector → Vector
reset_vector n i c v = set v i (fin c ⊗ entry v n)

-- the list with clock i replaced in each vector
abbrev pub reset_list : ℕ → ℕ → ℤ → List Vector → List Vector
reset_list n i c L = map (reset_vector n i c) L

-- ---- hull: both lists; the rays of a list without points add nothing
-- whether the last entry is one of a point
abbrev pub is_point : Num → Bool
is_point −∞ = false
is_point (fin z) = true

-- whether a list has a point
unfoldable pub some_point : ℕ → List Vector → Bool
some_point n L = some (length L) (λ i. is_point (entry (vector L i) n))

-- a list with a point; one without gives no vectors
unfoldable pub with_point : ℕ → List Vector → List Vector
with_point n L = cond (some_point n L) L []

-- the vectors of both lists that have a point
unfoldable pub hull_list : ℕ → List Vector → List Vector → List Vector
hull_list n A B = with_point n A ++ with_point n B

-- ---- shifted so that a point's last entry, or a ray's largest, is 0
-- the shift, by the last entry and the largest of the clocks
abbrev pub shift_by : Num → Num → ℤ
shift_by (fin z) largest = neg_ℤ z
shift_by −∞ (fin z) = neg_ℤ z
shift_by −∞ −∞ = pos 0

-- a vector shifted as a canonical list wants it
unfoldable pub normal : ℕ → Vector → Vector
normal n v = tab (suc n) (λ j. shift_by (entry v n) (⨁ n (entry v)) ▷ entry v j)
