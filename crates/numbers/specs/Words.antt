-- Words: a number as a signed 32-bit word. The word −2,147,483,648, the mark, stands for −∞.
use Rattle.std.specs.Prelude.{Bool, false, cond, eqb, ℤ, pos, negsuc}
use Rattle.numbers.specs.Numbers.{Num, −∞, fin}

-- the word for −∞
abbrev pub mark : ℤ
mark = negsuc 2147483647

-- whether a word is the mark
abbrev pub is_mark : ℤ → Bool
is_mark (pos k) = false
is_mark (negsuc k) = eqb k 2147483647

-- the number that a word stands for
unfoldable pub number : ℤ → Num
number z = cond (is_mark z) −∞ (fin z)

-- the word that stands for a number
abbrev pub word : Num → ℤ
word −∞ = mark
word (fin z) = z
