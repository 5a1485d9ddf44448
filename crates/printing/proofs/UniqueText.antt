-- A text is read in one way only: equal texts have equal answers and equal stops.
use mathlib.Core.Bool.{cond}
use mathlib.Core.List.{List, [], ◌∷◌, ◌++◌, append_assoc}
use mathlib.Core.Path.{◌≡◌, refl, sym, ap, ◌∙◌}
use Prim.Native.Nat.{ℕ, zero, suc, ◌+◌, ◌-◌, ◌*◌, ◌/◌, ◌%◌, ◌<◌}
use native.Mathlib.Decide.{dec_lt}
use native.Mathlib.Omega.{arith}
use lib.Dec.{ltb}
use lib.ListN.{length, length-append}
use borrow.Author.Tests.{lt-ltb, le-ltb}
use Rattle.codec.specs.Arrays.{each}
use Rattle.runs.specs.Verdicts.{Answer, reached, never, open_to, refused}
use Rattle.printing.specs.Text.{digit, digits, decimal, spaced, counts, Stop, line_of, text_of}
use Rattle.printing.proofs.NumberText.{last_digit, next_digit}

-- ---- numbers
-- what is read of a text: the number that its digits make behind those of v, and the rest
record Spelt : Type 0 where
  number : ℕ
  rest : List ℕ

abbrev spelt : ℕ → List ℕ → Spelt
spelt v s = record { number = v; rest = s }

unfoldable reading : ℕ → List ℕ → Spelt
reading v [] = spelt v []
reading v (c ∷ s) = let more = reading (v * 10 + (c - 48)) s in cond (ltb c 48) (spelt v (c ∷ s)) (cond (ltb c 58) more (spelt v (c ∷ s)))

digit_on : (v d : ℕ) (s : List ℕ) → d < 10 → reading v (digit d ∷ s) ≡ reading (v * 10 + d) s
unfolding reading
digit_on v d s h =
    let back : (d + 48) - 48 ≡ d = omega arith in
    rw (le-ltb (d + 48) 48 (omega arith), lt-ltb (d + 48) 58 (omega arith), back)

ends : (v c : ℕ) (s : List ℕ) → c < 48 → reading v (c ∷ s) ≡ spelt v (c ∷ s)
unfolding reading
ends v c s h = rw (lt-ltb c 48 h)

digits_read : (k n : ℕ) → n < k → (s : List ℕ) → reading 0 (digits k n ++ s) ≡ reading n s
digits_read zero n h s = absurd (omega arith)
digits_read (suc k) n h s = by (digits_read k (n / 10)) (dec_lt n 10)
  where
    by : (n / 10 < k → (t : List ℕ) → reading 0 (digits k (n / 10) ++ t) ≡ reading (n / 10) t) → Dec (n < 10)
        → reading 0 (digits (suc k) n ++ s) ≡ reading n s
    by tenth (yes l) =
        let alone : 0 * 10 + n ≡ n = omega arith in
        rw (last_digit k n l) (digit_on 0 n s l ∙ ap (λ (m : ℕ). reading m s) alone)
    by tenth (no l) =
        let whole : (n / 10) * 10 + n % 10 ≡ n = omega arith in
        rw (next_digit k n (omega (arith, l)), append_assoc) (tenth (omega (arith, l)) (digit (n % 10) ∷ s)
        ∙ (digit_on (n / 10) (n % 10) s (omega arith) ∙ ap (λ (m : ℕ). reading m s) whole))

number_read : (n c : ℕ) (s : List ℕ) → c < 48 → reading 0 (decimal n ++ (c ∷ s)) ≡ spelt n (c ∷ s)
unfolding decimal
number_read n c s h = digits_read (suc n) n (omega arith) (c ∷ s) ∙ ends n c s h

-- two numbers with something behind them that is no digit
number_unique : (n m c d : ℕ) (s t : List ℕ) → c < 48 → d < 48 → decimal n ++ (c ∷ s) ≡ decimal m ++ (d ∷ t)
    → (n ≡ m) × ((c ∷ s) ≡ (d ∷ t))
number_unique n m c d s t h k e =
    let same = sym (number_read n c s h) ∙ (ap (reading 0) e ∙ number_read m d t k) in
    (ap (λ (x : Spelt). x.number) same, ap (λ (x : Spelt). x.rest) same)

-- the parts of equal lists
pub tail_same : {a b : ℕ} {s t : List ℕ} → (a ∷ s) ≡ (b ∷ t) → s ≡ t
tail_same e = cc

pub head_same : {a b : ℕ} {s t : List ℕ} → (a ∷ s) ≡ (b ∷ t) → a ≡ b
head_same e = cc

-- ---- lines
-- a number, its end and what follows: two of them
numbered : (n m : ℕ) (c : ℕ) (s t : List ℕ) → c < 48 → decimal n ++ (c ∷ s) ≡ decimal m ++ (c ∷ t) → (n ≡ m) × (s ≡ t)
numbered n m c s t h e = let both = number_unique n m c c s t h h e in (both.0, tail_same both.1)

line_long : (s : Stop) (l : List ℕ)
    → line_of s ++ l ≡ decimal s.edge ++ (32 ∷ (decimal s.location ++ (10 ∷ l)))
unfolding line_of spaced
line_long s l = simp append_assoc

-- digits stand at the start of a number
none_empty : (n c : ℕ) (s : List ℕ) → decimal n ++ (c ∷ s) ≡ [] → ⊥
none_empty n c s e = omega (arith, ap length e, length-append (decimal n) (c ∷ s))

lines_unique : (a b : List Stop) → each line_of a ≡ each line_of b → a ≡ b
lines_unique [] [] e = refl
lines_unique [] (y ∷ b) e = absurd (none_empty _ _ _ (sym (e ∙ line_long y (each line_of b))))
lines_unique (x ∷ a) [] e = absurd (none_empty _ _ _ (sym (line_long x (each line_of a)) ∙ e))
lines_unique (x ∷ a) (y ∷ b) e =
    let e' = sym (line_long x (each line_of a)) ∙ (e ∙ line_long y (each line_of b)) in
    let first = numbered x.edge y.edge 32 _ _ (omega arith) e' in
    let second = numbered x.location y.location 10 _ _ (omega arith) first.1 in
    same_stops x y a b first.0 second.0 (lines_unique a b second.1)
  where
    same_stops : (x y : Stop) (a b : List Stop) → x.edge ≡ y.edge → x.location ≡ y.location → a ≡ b
        → (x ∷ a) ≡ (y ∷ b)
    same_stops x y a b p q r =
        let one : x ≡ y
        = ap (λ (k : ℕ). record { edge = k; location = x.location }) p ∙ ap (λ (k : ℕ). record { edge = y.edge; location = k }) q in
        cc

-- ---- first lines
two_long : (a b : ℕ) (l : List ℕ) → counts a b ++ l ≡ 32 ∷ (decimal a ++ (32 ∷ (decimal b ++ (10 ∷ l))))
unfolding spaced
two_long a b l = simp append_assoc

three_long : (a b c : ℕ) (l : List ℕ)
    → (spaced a ++ counts b c) ++ l ≡ 32 ∷ (decimal a ++ (32 ∷ (decimal b ++ (32 ∷ (decimal c ++ (10 ∷ l))))))
unfolding spaced
three_long a b c l = simp append_assoc

two_unique : (a b a' b' : ℕ) (l l' : List ℕ) → counts a b ++ l ≡ counts a' b' ++ l'
    → (a ≡ a') × (b ≡ b') × (l ≡ l')
two_unique a b a' b' l l' e =
    let e' = tail_same (sym (two_long a b l) ∙ (e ∙ two_long a' b' l')) in
    let first = numbered a a' 32 _ _ (omega arith) e' in
    let second = numbered b b' 10 _ _ (omega arith) first.1 in
    (first.0, second.0, second.1)

three_unique : (a b c a' b' c' : ℕ) (l l' : List ℕ) → (spaced a ++ counts b c) ++ l ≡ (spaced a' ++ counts b' c') ++ l'
    → (a ≡ a') × (b ≡ b') × (c ≡ c') × (l ≡ l')
three_unique a b c a' b' c' l l' e =
    let e' = tail_same (sym (three_long a b c l) ∙ (e ∙ three_long a' b' c' l')) in
    let first = numbered a a' 32 _ _ (omega arith) e' in
    let second = numbered b b' 32 _ _ (omega arith) first.1 in
    let third = numbered c c' 10 _ _ (omega arith) second.1 in
    (first.0, second.0, third.0, third.1)

-- ---- texts
-- a text that is read as REACHED with its lines is that of REACHED, with these numbers and stops
pub reached_unique : (d k t : ℕ) (stops : List Stop) (a : Answer) (others : List Stop)
    → text_of stops (reached d k t) ≡ text_of others a → (a ≡ reached d k t) × (others ≡ stops)
unfolding text_of
reached_unique d k t stops (reached d' k' t') others e =
    let all = three_unique d k t d' k' t' (each line_of stops) (each line_of others)
    (tail_same (tail_same (tail_same (tail_same (tail_same (tail_same (tail_same e))))))) in
    let p = all.0 in
    let q = all.1 in
    let r = all.2 in
    (cc, sym (lines_unique stops others all.3))
reached_unique d k t stops (never k' t') others e = absurd (omega (arith, head_same e))
reached_unique d k t stops (open_to d' k' t') others e = absurd (omega (arith, head_same e))
reached_unique d k t stops (refused n) others e = absurd (omega (arith, head_same (tail_same (tail_same e))))

-- so is one that is read as OPEN
pub open_unique : (d k t : ℕ) (stops : List Stop) (a : Answer) (others : List Stop)
    → text_of stops (open_to d k t) ≡ text_of others a → a ≡ open_to d k t
unfolding text_of
open_unique d k t stops (open_to d' k' t') others e =
    let all = three_unique d k t d' k' t' [] [] (tail_same (tail_same (tail_same (tail_same e)))) in
    let p = all.0 in
    let q = all.1 in
    let r = all.2 in
    cc
open_unique d k t stops (reached d' k' t') others e = absurd (omega (arith, head_same e))
open_unique d k t stops (never k' t') others e = absurd (omega (arith, head_same e))
open_unique d k t stops (refused n) others e = absurd (omega (arith, head_same e))
