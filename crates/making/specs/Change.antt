-- A vector before it is put into working memory: as it is in a list, or changed, in the words of the code.
use Rattle.std.specs.Prelude.{List, map, ◌≡◌, ℕ, suc, ◌+◌, ◌*◌, ◌≤◌, ℤ, length, take}
use Rattle.numbers.specs.Words.{number}
use Rattle.numbers.specs.Places.{Each}
use Rattle.algebra.specs.Vectors.{Vector, count}

-- a vector of n + 1 words within limits can be changed
pub record Changeable (n : ℕ) (v : List ℤ) : Type 0 where
  pub clocks : n ≤ 6
  pub long : length v ≡ suc n
  pub near : Each 1000000 v

-- the first n + 1 of seven words are the changed vector u
pub record Changes (n : ℕ) (u : Vector) (words : List ℤ) : Type 0 where
  pub long : length words ≡ 7
  pub right : map number (take (suc n) words) ≡ u
  pub near : Each 10000000 (take (suc n) words)

-- a list of words within limits, of n clocks, and room in `work` for its vectors behind k others
pub record Growable (n : ℕ) (list work : List ℤ) (k : ℕ) : Type 0 where
  pub clocks : n ≤ 6
  pub near : Each 1000000 list
  pub room : (k + count n list) * suc n ≤ length work
