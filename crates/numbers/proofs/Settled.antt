-- The leaves' contracts settle their results: a word is known by its number, a vector by its entries.
use mathlib.Core.List.{List}
use mathlib.Core.Path.{◌≡◌, sym, ◌∙◌, ap}
use Prim.Native.Nat.{ℕ, ◌<◌}
use native.Mathlib.Decide.{dec_lt}
use native.Mathlib.Omega.{arith}
use lib.IntN.{ℤ, pos}
use lib.ListN.{length, get_or}
use lib.Seq.{ext_get_or}
use mir.Syntax.{w32}
use mir.Val.{SFits}
use Rattle.numbers.specs.Numbers.{Num}
use Rattle.numbers.specs.Words.{number, word}
use Rattle.numbers.specs.Places.{Mixed, Lifted, Ended}
use Rattle.numbers.proofs.WordLaws.{word_number}

-- two words that stand for one number are one word
pub word_settled : {a b : ℤ} {x : Num} → SFits w32 a → SFits w32 b → number a ≡ x → number b ≡ x → a ≡ b
word_settled f g p q = sym (word_number f) ∙ ap word (p ∙ sym q) ∙ word_number g

-- two vectors that a mixing may leave are one
pub mixed_settled : (before : List ℤ) (s : Num) (h : List ℤ) (t : Num) (a b : List ℤ)
    → ((j : ℕ) → SFits w32 (get_or a j (pos 0))) → ((j : ℕ) → SFits w32 (get_or b j (pos 0)))
    → Mixed before s h t a → Mixed before s h t b → a ≡ b
mixed_settled before s h t a b f g p q = ext_get_or (pos 0) a b (p.long ∙ sym q.long)
    (λ j l. word_settled (f j) (g j) (p.right j (omega (arith, p.long))) (q.right j (omega (arith, p.long))))

-- two vectors that a lifting may leave are one
pub lifted_settled : (from : ℕ) (before h : List ℤ) (t : Num) (a b : List ℤ)
    → ((j : ℕ) → SFits w32 (get_or a j (pos 0))) → ((j : ℕ) → SFits w32 (get_or b j (pos 0)))
    → Lifted from before h t a → Lifted from before h t b → a ≡ b
lifted_settled from before h t a b f g p q =
    ext_get_or (pos 0) a b (p.long ∙ sym q.long) (λ j l. at j (omega (arith, p.long)) (dec_lt j from))
  where
    at : (j : ℕ) → j < length before → Dec (j < from) → get_or a j (pos 0) ≡ get_or b j (pos 0)
    at j l (yes k) = p.rest j k ∙ sym (q.rest j k)
    at j l (no k) = word_settled (f j) (g j) (p.right j (omega arith) l) (q.right j (omega arith) l)

-- two vectors that a constructor may make are one
pub ended_settled : (clocks : List ℤ) (last : ℤ) (a b : List ℤ) → Ended clocks last a → Ended clocks last b → a ≡ b
ended_settled clocks last a b p q = ext_get_or (pos 0) a b (p.long ∙ sym q.long) (λ j l. p.same j ∙ sym (q.same j))
