-- How long a text is: an answer in limits takes at most 19 + 63 · 6 bytes.
use mathlib.Core.List.{List, [], ◌∷◌, ◌++◌}
use Prim.Native.Nat.{ℕ, ◌+◌, ◌*◌, ◌≤◌}
use native.Mathlib.Omega.{arith}
use lib.ListN.{length, length-append}
use Rattle.codec.specs.Arrays.{All, each}
use Rattle.runs.specs.Verdicts.{Answer, reached, never, open_to, refused}
use Rattle.printing.specs.Text.{decimal, spaced, newline, counts, head_of, Stop, line_of, lines_of, text_of}
use Rattle.printing.specs.Text.{StopLimits, AnswerLimits}
use Rattle.printing.proofs.NumberText.{below_10, below_100, below_1000, below_10000}

spaced_long : (n k : ℕ) → length (decimal n) ≤ k → length (spaced n) ≤ k + 1
unfolding spaced
spaced_long n k h = omega arith

counts_long : (kept tried : ℕ) → kept ≤ 64 → tried ≤ 4096 → length (counts kept tried) ≤ 9
counts_long kept tried h k =
    omega (
      arith,
      length-append (spaced kept) (spaced tried ++ newline),
      length-append (spaced tried) newline,
      spaced_long kept 2 (below_100 kept (omega arith)),
      spaced_long tried 4 (below_10000 tried (omega arith)),
    )

-- a first line has at most 19 bytes
pub head_long : (a : Answer) → AnswerLimits a → length (head_of a) ≤ 19
head_long (reached edges kept tried) (h, k, t) =
    omega (
      arith,
      length-append (spaced edges) (counts kept tried),
      spaced_long edges 2 (below_100 edges (omega arith)),
      counts_long kept tried k t,
    )
head_long (never kept tried) (k, t) = omega (arith, counts_long kept tried k t)
head_long (open_to depth kept tried) (h, k, t) =
    omega (
      arith,
      length-append (spaced depth) (counts kept tried),
      spaced_long depth 3 (below_1000 depth (omega arith)),
      counts_long kept tried k t,
    )
head_long (refused number) h =
    omega (arith, length-append (spaced number) newline, spaced_long number 1 (below_10 number (omega arith)))

-- a line of the path has at most 6
pub line_long : (s : Stop) → StopLimits s → length (line_of s) ≤ 6
unfolding line_of
line_long s h =
    omega (
      arith,
      length-append (decimal s.edge) (spaced s.location ++ newline),
      length-append (spaced s.location) newline,
      below_100 s.edge h.edge,
      spaced_long s.location 2 (below_100 s.location h.location),
    )

lines_long : (stops : List Stop) → All StopLimits stops → length (each line_of stops) ≤ length stops * 6
lines_long [] h = omega arith
lines_long (s ∷ stops) (h, k) =
    omega (
      arith,
      length-append (line_of s) (each line_of stops),
      line_long s h,
      lines_long stops k,
    )

below_long : (stops : List Stop) (a : Answer) → All StopLimits stops → length (lines_of stops a) ≤ length stops * 6
below_long stops (reached edges kept tried) h = lines_long stops h
below_long stops (never kept tried) h = omega arith
below_long stops (open_to depth kept tried) h = omega arith
below_long stops (refused number) h = omega arith

-- a text has at most 397
pub text_long : (stops : List Stop) (a : Answer) → length stops ≤ 63 → All StopLimits stops → AnswerLimits a
    → length (text_of stops a) ≤ 397
unfolding text_of
text_long stops a n h l =
    omega (arith, length-append (head_of a) (lines_of stops a), head_long a l, below_long stops a h)
