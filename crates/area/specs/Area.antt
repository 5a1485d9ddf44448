-- The state area: a record for each kept state, in order kept.
use Rattle.std.specs.Prelude.{cond, List, [], ◌∷◌, ◌++◌, ℕ, suc, ◌+◌, ◌-◌, ◌*◌, ◌/◌, ltb, ℤ, pos, length, drop, replicate}
use Rattle.algebra.specs.Vectors.{count}
use Rattle.runs.specs.Rule.{State, Ending, ends_reached, ends_never, ends_open, ends_refused}

-- how many words a record over n clocks has
unfoldable pub record_size : ℕ → ℕ
record_size n = 4 + 32 * suc n

-- a record: location, parent, edge, vector count, then the list, unused words 0
unfoldable pub record_of : ℕ → State → List ℤ
record_of n s =
    pos s.location ∷ s.parent ∷ s.edge ∷ pos (count n s.list)
    ∷ s.list ++ replicate (32 * suc n - length s.list) (pos 0)

-- the records of the kept states
unfoldable pub records_of : ℕ → List State → List ℤ
records_of n [] = []
records_of n (s ∷ kept) = record_of n s ++ records_of n kept

-- the area with the records at its start; words past the last of them are as they were
unfoldable pub holding : ℕ → List State → List ℤ → List ℤ
holding n kept area = records_of n kept ++ drop (length kept * record_size n) area

-- the room: the whole records of the area, at most 64
unfoldable pub room_of : ℕ → List ℤ → ℕ
room_of n area = let records = length area / record_size n in cond (ltb records 64) records 64

-- the area after a walk: a refusal leaves every word 0
unfoldable pub area_after : ℕ → Ending → List ℤ → List ℤ
area_after n (ends_reached w) area = holding n w.kept area
area_after n (ends_never w) area = holding n w.kept area
area_after n (ends_open w) area = holding n w.kept area
area_after n (ends_refused e) area = replicate (length area) (pos 0)
