-- Texts and numbers, computed.
use mathlib.Core.List.{[], ◌∷◌}
use mathlib.Core.Path.{◌≡◌, refl}
use Rattle.runs.specs.Verdicts.{reached, never, open_to, refused}
use Rattle.printing.specs.Text.{digits, decimal, spaced, line_of, text_of}

-- REACHED 1 2 2, and the line 1 1
pub reached_text : text_of (record { edge = 1; location = 1 } ∷ []) (reached 1 2 2)
    ≡ 82 ∷ 69 ∷ 65 ∷ 67 ∷ 72 ∷ 69 ∷ 68 ∷ 32 ∷ 49 ∷ 32 ∷ 50 ∷ 32 ∷ 50 ∷ 10 ∷ 49 ∷ 32 ∷ 49 ∷ 10 ∷ []
unfolding text_of line_of spaced decimal digits
reached_text = refl

-- NEVER 2 2
pub never_text : text_of [] (never 2 2) ≡ 78 ∷ 69 ∷ 86 ∷ 69 ∷ 82 ∷ 32 ∷ 50 ∷ 32 ∷ 50 ∷ 10 ∷ []
unfolding text_of spaced decimal digits
never_text = refl

-- OPEN 1 2 2
pub open_text : text_of [] (open_to 1 2 2) ≡ 79 ∷ 80 ∷ 69 ∷ 78 ∷ 32 ∷ 49 ∷ 32 ∷ 50 ∷ 32 ∷ 50 ∷ 10 ∷ []
unfolding text_of spaced decimal digits
open_text = refl

-- REFUSED 7
pub refused_text : text_of [] (refused 7) ≡ 82 ∷ 69 ∷ 70 ∷ 85 ∷ 83 ∷ 69 ∷ 68 ∷ 32 ∷ 55 ∷ 10 ∷ []
unfolding text_of spaced decimal digits
refused_text = refl

-- 0, 9, 10, 100, 4096
pub text_0 : decimal 0 ≡ 48 ∷ []
unfolding decimal digits
text_0 = refl

pub text_9 : decimal 9 ≡ 57 ∷ []
unfolding decimal digits
text_9 = refl

pub text_10 : decimal 10 ≡ 49 ∷ 48 ∷ []
unfolding decimal digits
text_10 = refl

pub text_100 : decimal 100 ≡ 49 ∷ 48 ∷ 48 ∷ []
unfolding decimal digits
text_100 = refl

pub text_4096 : decimal 4096 ≡ 52 ∷ 48 ∷ 57 ∷ 54 ∷ []
unfolding decimal digits
text_4096 = refl
