-- Laws of a number's digits.
use mathlib.Core.List.{List, [], ◌∷◌, ◌++◌}
use mathlib.Core.Path.{◌≡◌, sym, ap, ◌∙◌}
use Prim.Native.Nat.{ℕ, zero, suc, ◌*◌, ◌/◌, ◌%◌, ◌≤◌, ◌<◌}
use native.Mathlib.Decide.{dec_lt}
use native.Mathlib.Omega.{arith}
use borrow.Author.Tests.{lt-ltb, le-ltb}
use lib.ListN.{length, length-append}
use Rattle.printing.specs.Text.{digit, digits, decimal}

-- one step, and more steps than n are enough
pub last_digit : (k n : ℕ) → n < 10 → digits (suc k) n ≡ digit n ∷ []
unfolding digits
last_digit k n h = simp (lt-ltb _ _ h)

-- a digit more
pub next_digit : (k n : ℕ) → 10 ≤ n → digits (suc k) n ≡ digits k (n / 10) ++ (digit (n % 10) ∷ [])
unfolding digits
next_digit k n h = simp (le-ltb _ _ h)

enough : (j k n : ℕ) → n < j → n < k → digits j n ≡ digits k n
enough zero k n h l = absurd (omega arith)
enough (suc j) zero n h l = absurd (omega arith)
enough (suc j) (suc k) n h l = by (enough j k (n / 10)) (dec_lt n 10)
  where
    by : (n / 10 < j → n / 10 < k → digits j (n / 10) ≡ digits k (n / 10)) → Dec (n < 10)
        → digits (suc j) n ≡ digits (suc k) n
    by tenth (yes s) = last_digit j n s ∙ sym (last_digit k n s)
    by tenth (no s) =
        next_digit j n (omega (arith, s))
        ∙ ap (λ (ds : List ℕ). ds ++ (digit (n % 10) ∷ [])) (tenth (omega (arith, s)) (omega (arith, s)))
        ∙ sym (next_digit k n (omega (arith, s)))

-- a digit, or the digits of a tenth and one behind them
pub one_digit : (n : ℕ) → n < 10 → decimal n ≡ digit n ∷ []
unfolding decimal
one_digit n h = last_digit n n h

-- a number of 10 or more is the text of its tenth and a digit
pub more_digits : (n : ℕ) → 10 ≤ n → decimal n ≡ decimal (n / 10) ++ (digit (n % 10) ∷ [])
unfolding decimal
more_digits n h =
    next_digit n n h
    ∙ ap (λ (ds : List ℕ). ds ++ (digit (n % 10) ∷ []))
    (enough n (suc (n / 10)) (n / 10) (omega arith) (omega arith))

-- a number by its last digit
pub ruleset by_digits = (one_digit, more_digits)

-- ---- how long a number is
tenfold : (b k : ℕ) → 1 ≤ k → ((m : ℕ) → m < b → length (decimal m) ≤ k) → (n : ℕ) → n < 10 * b
    → length (decimal n) ≤ suc k
tenfold b k o h n l = by (dec_lt n 10)
  where
    by : Dec (n < 10) → length (decimal n) ≤ suc k
    by (yes s) = omega (arith, ap length (one_digit n s))
    by (no s) =
        omega (
          arith,
          ap length (more_digits n (omega (arith, s))),
          length-append (decimal (n / 10)) (digit (n % 10) ∷ []),
          h (n / 10) (omega arith),
        )

-- how many digits a number has at most
pub below_10 : (n : ℕ) → n < 10 → length (decimal n) ≤ 1
below_10 n l = omega (arith, ap length (one_digit n l))

pub below_100 : (n : ℕ) → n < 100 → length (decimal n) ≤ 2
below_100 n l = tenfold 10 1 (omega arith) below_10 n l

pub below_1000 : (n : ℕ) → n < 1000 → length (decimal n) ≤ 3
below_1000 n l = tenfold 100 2 (omega arith) below_100 n l

pub below_10000 : (n : ℕ) → n < 10000 → length (decimal n) ≤ 4
below_10000 n l = tenfold 1000 3 (omega arith) below_1000 n l
