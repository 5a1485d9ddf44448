-- A number as bytes: groups of seven bits, lowest first, top bit set when another follows, at most three groups,
-- shortest form only.
use Rattle.std.specs.Prelude.{cond, List, [], ◌∷◌, ℕ, ◌+◌, ◌-◌, ◌*◌, ◌/◌, ◌%◌, ltb, eqb, ℤ, pos, negsuc, set}
use Rattle.numbers.specs.Refusals.{refusal_number}
use Rattle.numbers.specs.declared.Refusal.TheVariants.{Bytes}

-- what reading finds: a value and the bytes behind it, or the number of a refusal
pub data Got (A : Type 0) : Type 0 where
  got : A → List ℕ → Got A
  refused : ℕ → Got A

-- the third group, behind groups that make `low`: it is the last, and not 0
abbrev pub third : ℕ → List ℕ → Got ℕ
third low [] = refused (refusal_number Bytes)
third low (c ∷ s) =
    cond (eqb c 0) (refused (refusal_number Bytes))
    (cond (ltb c 128) (got (low + c * 16384) s) (refused (refusal_number Bytes)))

-- the second group, behind a first that makes `low`: a last group is not 0
abbrev pub second : ℕ → List ℕ → Got ℕ
second low [] = refused (refusal_number Bytes)
second low (b ∷ s) =
    cond (eqb b 0) (refused (refusal_number Bytes))
    (cond (ltb b 128) (got (low + b * 128) s) (third (low + (b - 128) * 128) s))

-- the number that stands at the start of some bytes
unfoldable pub number_in : List ℕ → Got ℕ
number_in [] = refused (refusal_number Bytes)
number_in (a ∷ s) = cond (ltb a 128) (got a s) (second (a - 128) s)

-- the bytes of a number below 2 ^ 21
unfoldable pub bytes_of : ℕ → List ℕ
bytes_of v =
    cond (ltb v 128) (v ∷ [])
    (cond (ltb v 16384) ((v % 128 + 128) ∷ (v / 128) ∷ [])
    ((v % 128 + 128) ∷ (v / 128 % 128 + 128) ∷ (v / 16384) ∷ []))

-- a signed number, folded: 2k, and −2k − 1 where k is negative (`negsuc n` is −n − 1)
abbrev pub folded : ℤ → ℕ
folded (pos n) = n * 2
folded (negsuc n) = n * 2 + 1

-- and back
abbrev pub unfolded : ℕ → ℤ
unfolded v = cond (eqb (v % 2) 0) (pos (v / 2)) (negsuc (v / 2))

-- `out` with `xs` stored from `at` on
unfoldable pub put : List ℕ → ℕ → List ℕ → List ℕ
put out at [] = out
put out at (x ∷ xs) = put (set out at x) (at + 1) xs
