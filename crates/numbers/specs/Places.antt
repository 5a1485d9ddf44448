-- Vectors by place, the numbers of a list of words, and what the vector functions make of them.
use Rattle.std.specs.Prelude.{List, ◌++◌, ◌∷◌, [], ◌≡◌, ℕ, ◌≤◌, ◌<◌, ℤ, pos, length, get_or}
use Rattle.numbers.specs.Numbers.{Num, ◌⊗◌, ◌⊕◌, ⨁, Within}
use Rattle.numbers.specs.Words.{number}

-- a vector is its entry at each place; how many places count is said beside it
abbrev pub Vec : Type 0
Vec = ℕ → Num

-- the numbers of a list of words
abbrev pub entries : List ℤ → Vec
entries xs j = number (get_or xs j (pos 0))

-- each word of the list stands for −∞ or an integer from −k to k
pub record Each (k : ℕ) (xs : List ℤ) : Type 0 where
  pub each : (j : ℕ) → j < length xs → Within k (entries xs j)

-- one side of a half-space at a vector: the largest of a + x over the first d places
unfoldable pub side_of : ℕ → Vec → Vec → Num
side_of d a x = ⨁ d (λ j. a j ⊗ x j)

-- at each place `after` has the larger of `before` weighted by s and h weighted by t
pub record Mixed (before : List ℤ) (s : Num) (h : List ℤ) (t : Num) (after : List ℤ) : Type 0 where
  pub long : length after ≡ length before
  pub right : (j : ℕ) → j < length before → entries after j ≡ (s ⊗ entries before j) ⊕ (t ⊗ entries h j)

-- from place `from` on `after` has the larger of `before` and h weighted by t; the places before are as they were
pub record Lifted (from : ℕ) (before h : List ℤ) (t : Num) (after : List ℤ) : Type 0 where
  pub long : length after ≡ length before
  pub right : (j : ℕ) → from ≤ j → j < length before → entries after j ≡ entries before j ⊕ (t ⊗ entries h j)
  pub rest : (j : ℕ) → j < from → get_or after j (pos 0) ≡ get_or before j (pos 0)

-- seven words: the clocks, the last word behind them, and 0 behind that
pub record Ended (clocks : List ℤ) (last : ℤ) (words : List ℤ) : Type 0 where
  pub long : length words ≡ 7
  pub same : (j : ℕ) → get_or words j (pos 0) ≡ get_or (clocks ++ (last ∷ [])) j (pos 0)
