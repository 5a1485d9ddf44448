-- The text of an answer, in ASCII: a first line, and under REACHED a line for each edge of the path.
use Rattle.std.specs.Prelude.{cond, List, [], ◌∷◌, ◌++◌, ℕ, zero, suc, ◌+◌, ◌/◌, ◌%◌, ◌≤◌, ◌<◌, ltb}
use Rattle.codec.specs.Arrays.{each}
use Rattle.runs.specs.Verdicts.{Answer, reached, never, open_to, refused}

-- the code of a digit
abbrev pub digit : ℕ → ℕ
digit d = d + 48

-- the digits of n, at most k of them: those of n / 10, and n % 10 behind them
unfoldable pub digits : ℕ → ℕ → List ℕ
digits zero n = []
digits (suc k) n = cond (ltb n 10) (digit n ∷ []) (digits k (n / 10) ++ (digit (n % 10) ∷ []))

-- a number, which has no more digits than n + 1
unfoldable pub decimal : ℕ → List ℕ
decimal n = digits (suc n) n

-- a space and a number
unfoldable pub spaced : ℕ → List ℕ
spaced n = 32 ∷ decimal n

abbrev pub newline : List ℕ
newline = 10 ∷ []

-- REACHED, NEVER, OPEN, REFUSED
abbrev pub reached_word : List ℕ
reached_word = 82 ∷ 69 ∷ 65 ∷ 67 ∷ 72 ∷ 69 ∷ 68 ∷ []

abbrev pub never_word : List ℕ
never_word = 78 ∷ 69 ∷ 86 ∷ 69 ∷ 82 ∷ []

abbrev pub open_word : List ℕ
open_word = 79 ∷ 80 ∷ 69 ∷ 78 ∷ []

abbrev pub refused_word : List ℕ
refused_word = 82 ∷ 69 ∷ 70 ∷ 85 ∷ 83 ∷ 69 ∷ 68 ∷ []

-- the end of a first line: the counts
abbrev pub counts : ℕ → ℕ → List ℕ
counts kept tried = spaced kept ++ (spaced tried ++ newline)

-- the first line
abbrev pub head_of : Answer → List ℕ
head_of (reached edges kept tried) = reached_word ++ (spaced edges ++ counts kept tried)
head_of (never kept tried) = never_word ++ counts kept tried
head_of (open_to depth kept tried) = open_word ++ (spaced depth ++ counts kept tried)
head_of (refused number) = refused_word ++ (spaced number ++ newline)

-- an edge of the path, and the location that it enters
pub record Stop : Type 0 where
  pub edge : ℕ
  pub location : ℕ

-- their line
unfoldable pub line_of : Stop → List ℕ
line_of s = decimal s.edge ++ (spaced s.location ++ newline)

-- the lines below the first: those of the path, under REACHED only
abbrev pub lines_of : List Stop → Answer → List ℕ
lines_of stops (reached edges kept tried) = each line_of stops
lines_of stops (never kept tried) = []
lines_of stops (open_to depth kept tried) = []
lines_of stops (refused number) = []

-- the text of an answer, with the path's stops in order
unfoldable pub text_of : List Stop → Answer → List ℕ
text_of stops a = head_of a ++ lines_of stops a

-- ---- limits
-- numbers of at most two digits
pub record StopLimits (s : Stop) : Type 0 where
  pub edge : s.edge < 100
  pub location : s.location < 100

-- at most 63 edges of a path, 64 kept states, 64 · 64 tried edges, depth 200
abbrev pub AnswerLimits : Answer → Type 0
AnswerLimits (reached edges kept tried) = (edges ≤ 63) × (kept ≤ 64) × (tried ≤ 4096)
AnswerLimits (never kept tried) = (kept ≤ 64) × (tried ≤ 4096)
AnswerLimits (open_to depth kept tried) = (depth ≤ 200) × (kept ≤ 64) × (tried ≤ 4096)
AnswerLimits (refused number) = number ≤ 8
