-- The state area, computed: room, records, and what an ending leaves.
use mathlib.Core.List.{[], ◌∷◌, ◌++◌}
use mathlib.Core.Path.{◌≡◌, refl}
use lib.IntN.{pos, negsuc}
use lib.ListN.{replicate}
use Rattle.numbers.specs.declared.Refusal.TheVariants.{Room}
use Rattle.runs.specs.Rule.{ends_never, ends_refused, nothing}
use Rattle.area.specs.Area.{record_size, record_of, records_of, holding, room_of, area_after}
use Rattle.area.specs.Records.{state}

-- two clocks: records of 100 words, at most 64 of them
pub room_99 : room_of 2 (replicate 99 (pos 7)) ≡ 0
unfolding room_of record_size
room_99 = refl

pub room_100 : room_of 2 (replicate 100 (pos 7)) ≡ 1
unfolding room_of record_size
room_100 = refl

pub room_6399 : room_of 2 (replicate 6399 (pos 7)) ≡ 63
unfolding room_of record_size
room_6399 = refl

pub room_6500 : room_of 2 (replicate 6500 (pos 7)) ≡ 64
unfolding room_of record_size
room_6500 = refl

-- one clock: state 0 in location 3 with the point 5, and state 1 behind it, in an area of 140 words
pub two_records : holding 1
    (state 3 (negsuc 0) (negsuc 0) (pos 5 ∷ pos 0 ∷ []) ∷ state 4 (pos 0) (pos 2) (pos 6 ∷ pos 0 ∷ []) ∷ [])
    (replicate 140 (pos 7))
    ≡ (pos 3 ∷ negsuc 0 ∷ negsuc 0 ∷ pos 1 ∷ pos 5 ∷ pos 0 ∷ replicate 62 (pos 0))
    ++ ((pos 4 ∷ pos 0 ∷ pos 2 ∷ pos 1 ∷ pos 6 ∷ pos 0 ∷ replicate 62 (pos 0)) ++ replicate 4 (pos 7))
unfolding holding records_of record_of record_size
two_records = refl

-- an empty state 0 leaves the area as it was, a refusal every word 0
pub nothing_kept : area_after 1 (ends_never nothing) (replicate 70 (pos 7)) ≡ replicate 70 (pos 7)
unfolding area_after holding records_of record_size
nothing_kept = refl

pub all_zero : area_after 1 (ends_refused Room) (replicate 70 (pos 7)) ≡ replicate 70 (pos 0)
unfolding area_after
all_zero = refl
