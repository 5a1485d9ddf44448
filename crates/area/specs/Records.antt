-- Kept states, written into the area and read back from it.
use Rattle.std.specs.Prelude.{Bool, ◌&&◌, List, [], ◌∷◌, ◌++◌, ◌≡◌, ℕ, zero, suc, ◌-◌, ◌*◌, ◌≤◌, ◌<◌, eqb, ℤ, pos, nat_abs, length, take, drop, get_or, replicate}
use Rattle.sets.specs.Limits.{Whole}
use Rattle.sorting.specs.Rows.{put}
use Rattle.runs.specs.Rule.{State, included}
use Rattle.runs.proofs.ProperLists.{Proper}
use Rattle.area.specs.Area.{record_size, record_of}
use Rattle.area.specs.declared.Located.{Located}

-- ---- written
-- a record of so many words: four numbers, the list, and 0 behind it
unfoldable pub written : ℕ → ℤ → ℤ → ℤ → ℤ → List ℤ → List ℤ
written size location parent edge number list =
    location ∷ parent ∷ edge ∷ number ∷ list ++ replicate (size - 4 - length list) (pos 0)

-- a state by its parts
abbrev pub state : ℕ → ℤ → ℤ → List ℤ → State
state location parent edge list = record { location = location; parent = parent; edge = edge; list = list }

-- a state may be kept as record k
pub record Keepable (n : ℕ) (area : List ℤ) (k location : ℕ) (list : List ℤ) : Type 0 where
  pub clocks : n ≤ 6
  pub room : suc k * record_size n ≤ length area
  pub inside : location ≤ 32
  pub whole : Whole n list

-- the area with the record of a state written as record k
unfoldable pub kept : ℕ → List ℤ → ℕ → State → List ℤ
kept n area k s = put area (k * record_size n) (record_of n s) (record_size n)

-- ---- read back
-- the words of record i
unfoldable pub record_at : ℕ → List ℤ → ℕ → List ℤ
record_at n area i = take (record_size n) (drop (i * record_size n) area)

-- the state that the words of a record stand for
unfoldable pub state_of : ℕ → List ℤ → State
state_of n r =
    record {
      location = nat_abs (get_or r 0 (pos 0));
      parent = get_or r 1 (pos 0);
      edge = get_or r 2 (pos 0);
      list = take (nat_abs (get_or r 3 (pos 0)) * suc n) (drop 4 r);
    }

-- the state in record i
abbrev pub state_in : ℕ → List ℤ → ℕ → State
state_in n area i = state_of n (record_at n area i)

-- the states in the first k records
unfoldable pub states_in : ℕ → ℕ → List ℤ → List State
states_in n zero area = []
states_in n (suc k) area = states_in n k area ++ (state_in n area k ∷ [])

-- record i is there whole, it is the record of a state, and that state's list is proper
pub record Stands (n : ℕ) (area : List ℤ) (i : ℕ) : Type 0 where
  pub fits : suc i * record_size n ≤ length area
  pub exact : record_at n area i ≡ record_of n (state_in n area i)
  pub proper : Proper n (state_in n area i).list

-- the first k records stand so
abbrev pub Recorded : ℕ → ℕ → List ℤ → Type 0
Recorded n k area = (i : ℕ) → i < k → Stands n area i

-- a state is in location q and includes the list
abbrev pub covers_by : ℕ → ℕ → List ℤ → State → Bool
covers_by n q list s = eqb s.location q && included n list s.list

-- the location and the list of the state in record i
pub record Locates (n : ℕ) (area : List ℤ) (i : ℕ) (s : Located) : Type 0 where
  pub location : s.location ≡ (state_in n area i).location
  pub list : s.list.now ≡ (state_in n area i).list
