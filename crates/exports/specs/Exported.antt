-- The exported calls: the number of each answer, and the contract of each call.
use Rattle.std.specs.Prelude.{cond, List, [], ◌∷◌, ◌++◌, ◌≡◌, ℕ, ltb, ℤ, pos, neg_ℤ, length, drop, Err, Ok, false, true}
use Rattle.numbers.specs.Refusals.{refusal_number}
use Rattle.numbers.specs.declared.Refusal.TheVariants.{Shape}
use Rattle.sets.specs.Types.{Told}
use Rattle.sets.specs.Calls.{Contains, IsIncluded}
use Rattle.making.specs.Types.{Made}
use Rattle.making.specs.Calls.{Intersects, Delays, Resets, Hulls}
use Rattle.runs.specs.Verdicts.{Answer, reached, never, open_to, refused, answer_by}
use Rattle.runs.specs.Verdicts.{Judged}
use Rattle.model.specs.Answers.{Said, value, refusal, read_of}
use Rattle.model.specs.declared.Model.{Model}
use Rattle.walk.specs.Walks.{Walks}
use Rattle.answer.specs.Printed.{Prints}

-- ---- the number of an answer
-- a refusal: minus its number
abbrev pub minus : ℕ → ℤ
minus k = neg_ℤ (pos k)

-- yes and no
abbrev pub told_number : Told → ℤ
told_number (Ok true) = pos 1
told_number (Ok false) = pos 0
told_number (Err e) = minus (refusal_number e)

-- the count of vectors
abbrev pub made_number : Made → ℤ
made_number (Ok k) = pos k
made_number (Err e) = minus (refusal_number e)

-- a count
abbrev pub said_number : Said ℕ → ℤ
said_number (value k) = pos k
said_number (refusal k) = minus k

-- the walk's answer
abbrev pub answer_number : Answer → ℤ
answer_number (never kept tried) = pos 0
answer_number (reached edges kept tried) = pos 1
answer_number (open_to depth kept tried) = pos 2
answer_number (refused number) = minus number

-- its counts: edges or depth, kept, tried; a refusal leaves those that were there
abbrev pub counts_of : Answer → List ℕ → List ℕ
counts_of (never kept tried) before = 0 ∷ kept ∷ tried ∷ []
counts_of (reached edges kept tried) before = edges ∷ kept ∷ tried ∷ []
counts_of (open_to depth kept tried) before = depth ∷ kept ∷ tried ∷ []
counts_of (refused number) before = before

-- ---- the contracts
-- r is the number of an answer that the call may give
pub record Numbered (A : Type 0) (call : A → Type 0) (number : A → ℤ) (r : ℤ) : Type 0 where
  pub answer : A
  pub gives : call answer
  pub is : r ≡ number answer

abbrev pub ContainsNumbered : ℕ → List ℤ → List ℤ → ℤ → Type 0
ContainsNumbered n l p r = Numbered Told (Contains n l p) told_number r

abbrev pub IncludedNumbered : ℕ → List ℤ → List ℤ → ℤ → Type 0
IncludedNumbered n inner outer r = Numbered Told (IsIncluded n inner outer) told_number r

abbrev pub IntersectsNumbered : ℕ → List ℤ → List ℤ → List ℤ → ℤ → List ℤ → Type 0
IntersectsNumbered n l h before r after = Numbered Made (λ a. Intersects n l h before a after) made_number r

abbrev pub DelaysNumbered : ℕ → List ℤ → List ℤ → ℤ → List ℤ → Type 0
DelaysNumbered n l before r after = Numbered Made (λ a. Delays n l before a after) made_number r

abbrev pub ResetsNumbered : ℕ → List ℤ → ℕ → ℤ → List ℤ → ℤ → List ℤ → Type 0
ResetsNumbered n l i c before r after = Numbered Made (λ a. Resets n l i c before a after) made_number r

abbrev pub HullsNumbered : ℕ → List ℤ → List ℤ → List ℤ → ℤ → List ℤ → Type 0
HullsNumbered n l m before r after = Numbered Made (λ a. Hulls n l m before a after) made_number r

-- a number, and the area afterwards
pub record Rewritten : Type 0 where
  pub number : ℤ
  pub area : List ℕ

-- bytes read and written are the same bytes; the reader's refusal comes first, then SHAPE, both with the area as it was
unfoldable pub rewritten_of : Said Model → List ℕ → List ℕ → Rewritten
rewritten_of (refusal e) bytes before = record { number = minus e; area = before }
rewritten_of (value m) bytes before =
    let copied : Rewritten
    = record { number = pos (length bytes); area = bytes ++ drop (length bytes) before } in
    cond (ltb (length before) (length bytes)) (record { number = minus (refusal_number Shape); area = before }) copied

abbrev pub Rewrites : List ℕ → List ℕ → ℤ → List ℕ → Type 0
Rewrites bytes before r after = record { number = r; area = after } ≡ rewritten_of (read_of bytes) bytes before

-- the counts are those of the verdict that is numbered
pub record WalksNumbered (bytes : List ℕ) (before : List ℤ) (earlier : List ℕ) (r : ℤ) (after : List ℤ)
    (counts : List ℕ) : Type 0 where
  pub verdict : Judged
  pub gives : Walks bytes before verdict after
  pub is : r ≡ answer_number (answer_by verdict)
  pub counted : counts ≡ counts_of (answer_by verdict) earlier

abbrev pub PrintsNumbered : List ℕ → List ℤ → List ℕ → ℤ → List ℤ → List ℕ → Type 0
PrintsNumbered bytes area text r area' text' = Numbered ℕ (λ k. Prints bytes area text k area' text') pos r
