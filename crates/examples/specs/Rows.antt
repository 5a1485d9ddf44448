-- The worked examples (docs/RULES.md, "Examples"): each row is a call, its arguments and the answer expected; of a
-- call that makes a set, also the result area before and after.
use Rattle.std.specs.Prelude.{List, [], ◌∷◌, ◌++◌, ◌≡◌, ℕ, suc, ◌*◌, ℤ, pos, negsuc, length, drop, replicate, Err, Ok, false, true}
use Rattle.numbers.specs.Words.{mark}
use Rattle.numbers.specs.declared.Refusal.TheVariants.{Range}
use Rattle.sets.specs.Calls.{Contains, IsIncluded}
use Rattle.sets.specs.Types.{Told}
use Rattle.making.specs.Calls.{Intersects, Delays, Resets, Hulls}
use Rattle.making.specs.Types.{Made}
use Rattle.runs.specs.Verdicts.{Judged}
use Rattle.runs.specs.declared.Verdict.TheVariants.{Reached, Never, Open}
use Rattle.walk.specs.Walks.{Walks}
use Rattle.answer.specs.Printed.{report_of}
use Rattle.codec.specs.Number.{got, refused, bytes_of, number_in, folded}

-- a call with its arguments, then the answer; where a set is made, the area, the answer and the area afterwards;
-- a number and its bytes; bytes that are no number, and the refusal; a signed number and what it is folded to;
-- a model's bytes, the state area, the verdict of the walk and the area afterwards; a model's bytes and what is printed
pub data Row : Type 0 where
  contains : ℕ → List ℤ → List ℤ → Told → Row
  included : ℕ → List ℤ → List ℤ → Told → Row
  intersect : ℕ → List ℤ → List ℤ → List ℤ → Made → List ℤ → Row
  delay : ℕ → List ℤ → List ℤ → Made → List ℤ → Row
  reset : ℕ → List ℤ → ℕ → ℤ → List ℤ → Made → List ℤ → Row
  hull : ℕ → List ℤ → List ℤ → List ℤ → Made → List ℤ → Row
  in_bytes : ℕ → List ℕ → Row
  no_number : List ℕ → ℕ → Row
  fold : ℤ → ℕ → Row
  walk : List ℕ → List ℤ → Judged → List ℤ → Row
  prints : List ℕ → List ℕ → Row

-- a row is right if the call's contract allows the answer and the area afterwards
abbrev pub Right : Row → Type 0
Right (contains n list point answer) = Contains n list point answer
Right (included n inner outer answer) = IsIncluded n inner outer answer
Right (intersect n list half before answer after) = Intersects n list half before answer after
Right (delay n list before answer after) = Delays n list before answer after
Right (reset n list clock value before answer after) = Resets n list clock value before answer after
Right (hull n one other before answer after) = Hulls n one other before answer after
Right (in_bytes v bytes) = (bytes_of v ≡ bytes) × (number_in bytes ≡ got v [])
Right (no_number bytes refusal) = number_in bytes ≡ refused refusal
Right (fold k v) = folded k ≡ v
Right (walk bytes before verdict after) = Walks bytes before verdict after
Right (prints bytes text) = report_of bytes ≡ text

-- every row of a list is right
abbrev pub AllRight : List Row → Type 0
AllRight [] = Unit {0}
AllRight (r ∷ rows) = Right r × AllRight rows

-- ---- result areas
-- an area of 32(n + 1) words, each 7
abbrev area : ℕ → List ℤ
area n = replicate (32 * suc n) (pos 7)

-- that area with a list at its start, and nothing behind the list touched
abbrev area_with : ℕ → List ℤ → List ℤ
area_with n list = list ++ drop (length list) (area n)

-- ---- lists
-- points (1,1), (3,1) and (1,3)
abbrev corner : List ℤ
corner = pos 1 ∷ pos 1 ∷ pos 0 ∷ pos 3 ∷ pos 1 ∷ pos 0 ∷ pos 1 ∷ pos 3 ∷ pos 0 ∷ []

-- point (1,1) with rays (−2,0) and (0,−2)
abbrev cone : List ℤ
cone = pos 1 ∷ pos 1 ∷ pos 0 ∷ negsuc 1 ∷ pos 0 ∷ mark ∷ pos 0 ∷ negsuc 1 ∷ mark ∷ []

-- point (0,1) with ray (−∞,0)
abbrev upright : List ℤ
upright = pos 0 ∷ pos 1 ∷ pos 0 ∷ mark ∷ pos 0 ∷ mark ∷ []

-- points (0,0) and (2,1)
abbrev pair : List ℤ
pair = pos 0 ∷ pos 0 ∷ pos 0 ∷ pos 2 ∷ pos 1 ∷ pos 0 ∷ []

-- points (k,0) and (5,0)
abbrev segment : ℕ → List ℤ
segment k = pos k ∷ pos 0 ∷ pos 0 ∷ pos 5 ∷ pos 0 ∷ pos 0 ∷ []

-- the ray (0,−5) alone
abbrev ray : List ℤ
ray = pos 0 ∷ negsuc 4 ∷ mark ∷ []

-- point (1000000,k) with ray (0,z)
abbrev far : ℕ → ℤ → List ℤ
far k z = pos 1000000 ∷ pos k ∷ pos 0 ∷ pos 0 ∷ z ∷ mark ∷ []

-- ---- half-spaces, in the order a, b, c, d
-- clock 0 ≥ 2
abbrev late : List ℤ
late = mark ∷ mark ∷ pos 2 ∷ pos 0 ∷ mark ∷ mark ∷ []

-- clock 1 ≥ 1
abbrev above : List ℤ
above = mark ∷ mark ∷ pos 1 ∷ mark ∷ pos 0 ∷ mark ∷ []

-- ---- the worked model
-- its bytes, with the least value of clock 0 in the target list, and the depth
abbrev model : ℕ → ℕ → List ℕ
model k depth =
    2 ∷ 2 ∷ 2 ∷ 0 ∷ 1 ∷ 0 ∷ 0 ∷ 4 ∷ 1 ∷ 0 ∷ 1 ∷ 6 ∷ 0 ∷ 0 ∷ 1 ∷ 1 ∷ 0 ∷ 2 ∷ 3 ∷ 0 ∷ 1 ∷ 0 ∷ 2 ∷ 1 ∷ 1 ∷ 1 ∷ 0 ∷ k ∷ depth ∷ []

-- a state area of two records of 100 words and 50 words more, each 7
abbrev states : List ℤ
states = replicate 250 (pos 7)

-- with both states kept: points (0,0), (4,4) in location 0; points (0,0), (6,6), (10,6) in location 1, from state 0 over edge 1
abbrev both_kept : List ℤ
both_kept =
    pos 0 ∷ negsuc 0 ∷ negsuc 0 ∷ pos 2 ∷ pos 0 ∷ pos 0 ∷ pos 0 ∷ pos 4 ∷ pos 4 ∷ pos 0 ∷ replicate 90 (pos 0)
    ++ (pos 1 ∷ pos 0 ∷ pos 1 ∷ pos 3 ∷ pos 0 ∷ pos 0 ∷ pos 0 ∷ pos 6 ∷ pos 6 ∷ pos 0 ∷ pos 10 ∷ pos 6 ∷ pos 0 ∷ replicate 87 (pos 0))
    ++ replicate 50 (pos 7)

-- ---- a model in whose first layer two states are kept
-- one clock, four locations without bounds, edges 0 to 1, 0 to 2, 2 to 3, 1 to 3, target 3
abbrev fork : List ℕ
fork =
    1 ∷ 4 ∷ 4 ∷ 0 ∷ 0 ∷ 0 ∷ 0 ∷ 0 ∷ 0 ∷ 1 ∷ 0 ∷ 0 ∷ 0 ∷ 2 ∷ 0 ∷ 0 ∷ 2 ∷ 3 ∷ 0 ∷ 0 ∷ 1 ∷ 3 ∷ 0 ∷ 0 ∷ 3 ∷ 0 ∷ 8 ∷ []

-- the record of a state with point 0 and ray 0
abbrev anytime : ℕ → ℤ → ℤ → List ℤ
anytime location parent edge =
    pos location ∷ parent ∷ edge ∷ pos 2 ∷ pos 0 ∷ pos 0 ∷ pos 0 ∷ mark ∷ replicate 60 (pos 0)

-- an area of four records of 68 words and 8 words more, each 7; state 1 is expanded before state 2, so edge 3 is taken
abbrev four : List ℤ
four = replicate 280 (pos 7)

abbrev four_kept : List ℤ
four_kept =
    anytime 0 (negsuc 0) (negsuc 0) ++ anytime 1 (pos 0) (pos 0) ++ anytime 2 (pos 0) (pos 1)
    ++ anytime 3 (pos 1) (pos 3) ++ replicate 8 (pos 7)

-- the table
unfoldable pub rows : List Row
rows =
    -- 1: one clock, point 0, delayed: point 0, ray 0
    delay 1 (pos 0 ∷ pos 0 ∷ []) (area 1) (Ok 2) (area_with 1 (pos 0 ∷ pos 0 ∷ pos 0 ∷ mark ∷ []))
    -- 2: the points (1,1), (3,1) and (1,3) delayed are the cone
    ∷ delay 2 corner (area 2) (Ok 3) (area_with 2 cone)
    -- 3: the cone with clock 0 reset to 0 is (0,1) with ray (−∞,0)
    ∷ reset 2 cone 0 (pos 0) (area 2) (Ok 2) (area_with 2 upright)
    -- 4: in the cone, (2,4) is and (2,5) is not
    ∷ contains 2 cone (pos 2 ∷ pos 4 ∷ []) (Ok true)
    ∷ contains 2 cone (pos 2 ∷ pos 5 ∷ []) (Ok false)
    -- 5: the hull of (0,0) and (2,1) has these two points; in it, (1,0) is and (1,1) is not
    ∷ hull 2 (pos 0 ∷ pos 0 ∷ pos 0 ∷ []) (pos 2 ∷ pos 1 ∷ pos 0 ∷ []) (area 2) (Ok 2) (area_with 2 pair)
    ∷ contains 2 pair (pos 1 ∷ pos 0 ∷ []) (Ok true)
    ∷ contains 2 pair (pos 1 ∷ pos 1 ∷ []) (Ok false)
    -- 6: points (0,0) and (5,0) with clock 0 ≥ 2: (2,0) and (5,0)
    ∷ intersect 2 (segment 0) late (area 2) (Ok 2) (area_with 2 (segment 2))
    -- 7: a ray without points is included in the empty set
    ∷ included 2 ray [] (Ok true)
    -- 8: point (1000000,0) with clock 1 ≥ 1: RANGE with ray (0,−1000000); with ray (0,0), point (1000000,1)
    ∷ intersect 2 (far 0 (negsuc 999999)) above (area 2) (Err Range) (area 2)
    ∷ intersect 2 (far 0 (pos 0)) above (area 2) (Ok 2) (area_with 2 (far 1 (pos 0)))
    -- 10: the worked model; with 11 for 10; then depth 1
    ∷ walk (model 10 8) states (Ok (Reached 1 2 2)) both_kept
    ∷ walk (model 11 8) states (Ok (Never 2 2)) both_kept
    ∷ walk (model 11 1) states (Ok (Open 1 2 2)) both_kept
    -- what is printed of it: REACHED 1 2 2, and the line 1 1; NEVER 2 2
    ∷ prints (model 10 8) (82 ∷ 69 ∷ 65 ∷ 67 ∷ 72 ∷ 69 ∷ 68 ∷ 32 ∷ 49 ∷ 32 ∷ 50 ∷ 32 ∷ 50 ∷ 10 ∷ 49 ∷ 32 ∷ 49 ∷ 10 ∷ [])
    ∷ prints (model 11 8) (78 ∷ 69 ∷ 86 ∷ 69 ∷ 82 ∷ 32 ∷ 50 ∷ 32 ∷ 50 ∷ 10 ∷ [])
    -- a layer with two states to expand, in order
    ∷ walk fork four (Ok (Reached 2 4 3)) four_kept
    -- 11: numbers as bytes
    ∷ in_bytes 127 (127 ∷ [])
    ∷ in_bytes 128 (128 ∷ 1 ∷ [])
    ∷ in_bytes 1000000 (192 ∷ 132 ∷ 61 ∷ [])
    ∷ no_number (128 ∷ 0 ∷ []) 7
    ∷ fold (negsuc 0) 1
    ∷ []
