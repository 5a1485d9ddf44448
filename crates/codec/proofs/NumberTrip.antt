-- The round trip of a number: its bytes are read as it, and what is read as it are its bytes.
use mathlib.Core.Bool.{Bool, true, false, cond}
use mathlib.Core.List.{List, [], ◌∷◌, ◌++◌}
use mathlib.Core.Path.{◌≡◌, refl}
use Prim.Native.Nat.{ℕ, ◌+◌, ◌-◌, ◌*◌, ◌/◌, ◌%◌, ◌≤◌, ◌<◌}
use native.Mathlib.Decide.{dec_lt}
use native.Mathlib.Omega.{arith}
use lib.Dec.{ltb, eqb}
use borrow.Author.Tests.{lt-ltb, le-ltb, ne_eqb, ltb-true, ltb-false, eqb-false}
use Rattle.numbers.specs.Refusals.{refusal_number}
use Rattle.numbers.specs.declared.Refusal.TheVariants.{Bytes}
use Rattle.codec.specs.Number.{got, refused, number_in, second, third, bytes_of}
use Rattle.codec.specs.Arrays.{AreBytes}
use Rattle.codec.proofs.NumberBytes.{small, middle, large}

-- the bytes of v are read as v
module _ (v : ℕ) (t : List ℕ) (h : v < 2097152) where
  one : v < 128 → number_in (bytes_of v ++ t) ≡ got v t
  unfolding number_in
  one l = rw (small v l) (simp (lt-ltb _ _ l))

  two : 128 ≤ v → v < 16384 → number_in (bytes_of v ++ t) ≡ got v t
  unfolding number_in
  two l k =
      let value : v % 128 + 128 - 128 + v / 128 * 128 ≡ v = omega arith in
      rw (middle v l k)
      (rw (
        le-ltb (v % 128 + 128) 128 (omega arith),
        ne_eqb (v / 128) 0 (λ e. omega arith),
        lt-ltb (v / 128) 128 (omega arith),
        value,
      )
      refl)

  three : 16384 ≤ v → number_in (bytes_of v ++ t) ≡ got v t
  unfolding number_in
  three l =
      let value : v % 128 + 128 - 128 + (v / 128 % 128 + 128 - 128) * 128 + v / 16384 * 16384 ≡ v = omega arith in
      rw (large v l)
      (rw (
        le-ltb (v % 128 + 128) 128 (omega arith),
        ne_eqb (v / 128 % 128 + 128) 0 (λ e. omega arith),
        le-ltb (v / 128 % 128 + 128) 128 (omega arith),
        ne_eqb (v / 16384) 0 (λ e. omega arith),
        lt-ltb (v / 16384) 128 (omega arith),
        value,
      )
      refl)

  -- a number's bytes are read as it
  pub number_there : number_in (bytes_of v ++ t) ≡ got v t
  number_there = by_size (dec_lt v 128) (dec_lt v 16384)
    where
      by_size : Dec (v < 128) → Dec (v < 16384) → number_in (bytes_of v ++ t) ≡ got v t
      by_size (yes l) d = one l
      by_size (no l) (yes k) = two (omega arith) k
      by_size (no l) (no k) = three (omega arith)

-- the bytes s are those of v, with t behind them
pub record Stood (s : List ℕ) (v : ℕ) (t : List ℕ) : Type 0 where
  pub fits : v < 2097152
  pub whole : s ≡ bytes_of v ++ t

-- a refusal is no value
pub refusal_no : {A : Type 0} {a : A} {s : List ℕ} {n : ℕ} → refused n ≡ got a s → ⊥
refusal_no e = let z : ◌≡◌ {A = ℕ} 0 1 = cc in omega arith

digit : (y c : ℕ) → y < 128 → (y + c * 128) % 128 ≡ y
digit y c h = omega arith

module _ (v : ℕ) (t : List ℕ) where
  by_one : (a : ℕ) (s : List ℕ) → a < 128 → got a s ≡ got v t → Stood (a ∷ s) v t
  by_one a s l e =
      let same : a ≡ v = cc in
      let rest : s ≡ t = cc in
      record { fits = omega arith; whole = rw (small v (omega arith), same, rest) refl }

  by_two : (a b : ℕ) (s : List ℕ) → 128 ≤ a → a < 256 → 1 ≤ b → b < 128 → got (a - 128 + b * 128) s ≡ got v t
      → Stood (a ∷ b ∷ s) v t
  by_two a b s la ha lb hb e =
      let same : a - 128 + b * 128 ≡ v = cc in
      let rest : s ≡ t = cc in
      let ea : a ≡ v % 128 + 128 = omega arith in
      let eb : b ≡ v / 128 = omega arith in
      record { fits = omega arith; whole = rw (middle v (omega arith) (omega arith)) (cc) }

  by_three : (a b c : ℕ) (s : List ℕ) → 128 ≤ a → a < 256 → 128 ≤ b → b < 256 → 1 ≤ c → c < 128
      → got (a - 128 + (b - 128) * 128 + c * 16384) s ≡ got v t → Stood (a ∷ b ∷ c ∷ s) v t
  by_three a b c s la ha lb hb lc hc e =
      let same : a - 128 + (b - 128) * 128 + c * 16384 ≡ v = cc in
      let rest : s ≡ t = cc in
      let ea : a ≡ v % 128 + 128 = omega arith in
      let high : v / 128 ≡ b - 128 + c * 128 = omega arith in
      let eb : b ≡ v / 128 % 128 + 128 = rw high (omega (arith, digit (b - 128) c (omega arith))) in
      let ec : c ≡ v / 16384 = omega arith in
      record { fits = omega arith; whole = rw (large v (omega arith)) (cc) }

  from_third : (a b : ℕ) (s : List ℕ) → 128 ≤ a → a < 256 → 128 ≤ b → b < 256
      → third (a - 128 + (b - 128) * 128) s ≡ got v t → Stood (a ∷ b ∷ s) v t
  from_third a b [] la ha lb hb e = absurd (refusal_no e)
  from_third a b (c ∷ s) la ha lb hb e = by_tests (eqb c 0) (ltb c 128) refl refl e
    where
      by_tests : (p q : Bool) → eqb c 0 ≡ p → ltb c 128 ≡ q
          → cond p (refused (refusal_number Bytes))
          (cond q (got (a - 128 + (b - 128) * 128 + c * 16384) s) (refused (refusal_number Bytes)))
          ≡ got v t
          → Stood (a ∷ b ∷ c ∷ s) v t
      by_tests true q hp hq e = absurd (refusal_no e)
      by_tests false true hp hq e =
          let some : c ≡ 0 → ⊥ = eqb-false c 0 hp in by_three a b c s la ha lb hb (omega arith) (ltb-true c 128 hq) e
      by_tests false false hp hq e = absurd (refusal_no e)

  from_second : (a : ℕ) (s : List ℕ) → 128 ≤ a → a < 256 → AreBytes s → second (a - 128) s ≡ got v t → Stood (a ∷ s)
      v t
  from_second a [] la ha hs e = absurd (refusal_no e)
  from_second a (b ∷ s) la ha hs e = by_tests (eqb b 0) (ltb b 128) refl refl e
    where
      by_tests : (p q : Bool) → eqb b 0 ≡ p → ltb b 128 ≡ q
          → cond p (refused (refusal_number Bytes))
          (cond q (got (a - 128 + b * 128) s) (third (a - 128 + (b - 128) * 128) s))
          ≡ got v t
          → Stood (a ∷ b ∷ s) v t
      by_tests true q hp hq e = absurd (refusal_no e)
      by_tests false true hp hq e =
          let some : b ≡ 0 → ⊥ = eqb-false b 0 hp in by_two a b s la ha (omega arith) (ltb-true b 128 hq) e
      by_tests false false hp hq e = from_third a b s la ha (ltb-false b 128 hq) hs.0 e

  -- what is read as v are the bytes of v
  pub number_back : (s : List ℕ) → AreBytes s → number_in s ≡ got v t → Stood s v t
  unfolding number_in
  number_back [] hs e = absurd (refusal_no e)
  number_back (a ∷ s) hs e = by_test (ltb a 128) refl e
    where
      by_test : (p : Bool) → ltb a 128 ≡ p → cond p (got a s) (second (a - 128) s) ≡ got v t → Stood (a ∷ s) v t
      by_test true hp e = by_one a s (ltb-true a 128 hp) e
      by_test false hp e = from_second a s (ltb-false a 128 hp) hs.0 hs.1 e
