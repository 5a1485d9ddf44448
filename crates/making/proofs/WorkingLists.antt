-- Vectors before cleaning: those of a list of words have n + 1 entries, and how many a working list has.
use mathlib.Core.Bool.{Bool, true, false, cond}
use mathlib.Core.List.{List, [], ◌∷◌, ◌++◌, map}
use mathlib.Core.Path.{◌≡◌, refl, ap, subst}
use Prim.Native.Nat.{ℕ, zero, suc, ◌+◌, ◌*◌, ◌-◌, ◌≤◌, ◌<◌}
use native.Mathlib.Nat.{mul-le-mul_left, suc-mul, div-mul-le_self}
use native.Mathlib.Omega.{arith}
use lib.Dec.{leb}
use lib.IntN.{ℤ}
use lib.ListN.{length, drop, length-append, length-drop, length-map}
use lib.Seq.{length-take-le}
use Rattle.numbers.specs.Words.{number}
use Rattle.numbers.proofs.Tells.{tells_every, tells_leb}
use Rattle.algebra.specs.Vectors.{Vector, vector, pieces, count, vectors}
use Rattle.algebra.specs.Working.{each, satisfies, crossing, crossings, intersect_list, to_ray, delay_list}
use Rattle.algebra.specs.Working.{reset_vector, reset_list, some_point, with_point, hull_list}
use Rattle.algebra.proofs.Lists.{vectors_length}
use Rattle.algebra.proofs.Made.{Long}

-- ---- n + 1 entries
pieces_long : (k w : ℕ) (v : Vector) → k * w ≤ length v → (i : ℕ) → i < k → length (vector (pieces k w v) i) ≡ w
unfolding pieces
pieces_long zero w v h i l = absurd (omega arith)
pieces_long (suc k) w v h zero l = length-take-le w v (omega (arith, suc-mul k w))
pieces_long (suc k) w v h (suc i) l =
    pieces_long k w (drop w v) (omega (arith, suc-mul k w, length-drop w v)) i (omega arith)

-- the vectors of a list of words have n + 1 entries
pub vectors_long : (n : ℕ) (l : List ℤ) → Long n (vectors n l)
unfolding vectors
vectors_long n l i h = pieces_long (count n l) (suc n) (map number l)
    (omega (arith, div-mul-le_self (length l) (suc n), length-map l number)) i
    (subst (λ k. i < k) (vectors_length n l) h)

-- ---- how many
-- how many vectors pass a test
unfoldable pub passing : (Vector → Bool) → List Vector → ℕ
passing p [] = 0
passing p (v ∷ L) = cond (p v) (suc (passing p L)) (passing p L)

-- how many vectors do not pass it
unfoldable pub failing : (Vector → Bool) → List Vector → ℕ
failing p [] = 0
failing p (v ∷ L) = cond (p v) (failing p L) (suc (failing p L))

-- together they are all
pub passing_failing : (p : Vector → Bool) (L : List Vector) → passing p L + failing p L ≡ length L
unfolding passing failing
passing_failing p [] = refl
passing_failing p (v ∷ L) = go (p v) (passing_failing p L)
  where
    go : (b : Bool) → passing p L + failing p L ≡ length L
        → cond b (suc (passing p L)) (passing p L) + cond b (failing p L) (suc (failing p L)) ≡ suc (length L)
    go true e = omega arith
    go false e = omega arith

each_passing : (p : Vector → Bool) (f : Vector → List Vector) (c : ℕ) → ((v : Vector) → length (f v) ≡ c)
    → (L : List Vector) → length (each (λ g. cond (p g) (f g) []) L) ≡ passing p L * c
unfolding each passing
each_passing p f c h [] = omega arith
each_passing p f c h (v ∷ L) = go (p v) (each_passing p f c h L)
  where
    rest : List Vector
    rest = each (λ g. cond (p g) (f g) []) L

    go : (b : Bool) → length rest ≡ passing p L * c
        → length (cond b (f v) [] ++ rest) ≡ cond b (suc (passing p L)) (passing p L) * c
    go true e = omega (arith, length-append (f v) rest, h v, suc-mul (passing p L) c)
    go false e = e

each_failing : (p : Vector → Bool) (x : Vector → Vector) (L : List Vector)
    → length (each (λ h. cond (p h) [] (x h ∷ [])) L) ≡ failing p L
unfolding each failing
each_failing p x [] = refl
each_failing p x (v ∷ L) = go (p v) (each_failing p x L)
  where
    rest : List Vector
    rest = each (λ h. cond (p h) [] (x h ∷ [])) L

    go : (b : Bool) → length rest ≡ failing p L
        → length (cond b [] (x v ∷ []) ++ rest) ≡ cond b (failing p L) (suc (failing p L))
    go true e = e
    go false e = ap suc e

-- s satisfying and v violating vectors give s + s · v
pub intersect_count : (n : ℕ) (ab cd : Vector) (L : List Vector)
    → length (intersect_list n ab cd L) ≡ passing (satisfies n ab cd) L * suc (failing (satisfies n ab cd) L)
unfolding intersect_list crossings
intersect_count n ab cd L = each_passing (satisfies n ab cd) (λ g. g ∷ crossings n ab cd L g)
    (suc (failing (satisfies n ab cd) L)) (λ g. ap suc (each_failing (satisfies n ab cd) (crossing n ab cd g) L)) L

-- two numbers whose sum is 33 have a product of at most 272
product : (s : ℕ) → s < 34 → s * (33 - s) ≤ 272
product = (tells_every (λ s. leb (s * (33 - s)) 272) (λ s. s * (33 - s) ≤ 272) 34
    (λ s l. tells_leb (s * (33 - s)) 272)).yes refl

module _ (n : ℕ) (L : List Vector) (few : length L ≤ 32) where
  -- a half-space's working list of up to 32 vectors has at most 272
  pub intersect_few : (ab cd : Vector) → length (intersect_list n ab cd L) ≤ 272
  intersect_few ab cd = omega (arith, intersect_count n ab cd L, more, product s (omega (arith, sum)))
    where
      s : ℕ
      s = passing (satisfies n ab cd) L

      t : ℕ
      t = failing (satisfies n ab cd) L

      sum : s + t ≤ 32
      sum = omega (arith, passing_failing (satisfies n ab cd) L)

      more : s * suc t ≤ s * (33 - s)
      more = mul-le-mul_left s (omega (arith, sum))

  -- the delay's has at most 64
  pub delay_few : length (delay_list n L) ≤ 64
  delay_few = omega (arith, length-append L (map (to_ray n) L), length-map L (to_ray n))

  -- the reset's has at most 32
  pub reset_few : (i : ℕ) (c : ℤ) → length (reset_list n i c L) ≤ 32
  reset_few i c = omega (arith, length-map L (reset_vector n i c))

  -- a list kept for its point has no more
  pub with_few : length (with_point n L) ≤ 32
  unfolding with_point
  with_few = go (some_point n L)
    where
      go : (b : Bool) → length (cond b L []) ≤ 32
      go true = few
      go false = omega arith

-- the hull's has at most 64
pub hull_few : (n : ℕ) (A B : List Vector) → length A ≤ 32 → length B ≤ 32 → length (hull_list n A B) ≤ 64
unfolding hull_list
hull_few n A B a b =
    omega (arith, length-append (with_point n A) (with_point n B), with_few n A a, with_few n B b)
