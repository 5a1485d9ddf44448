-- The contract of the test of a vector against a list settles its answer.
use Rattle.std.proofs.Common.{Option, None, Some}
use mathlib.Core.Path.{◌≡◌, refl, sym, ◌∙◌, ap}
use Prim.Native.Nat.{ℕ, ◌<◌}
use native.Mathlib.Omega.{arith}
use mir.Syntax.{w32}
use mir.Val.{SFits}
use Rattle.numbers.specs.Places.{Vec}
use Rattle.numbers.proofs.Settled.{word_settled}
use Rattle.sets.specs.declared.Short.{Short}
use Rattle.sets.specs.Falls.{Falls}

-- the value in an answer is a word
abbrev pub Worded : Option Short → Type 0
Worded None = Unit {0}
Worded (Some s) = SFits w32 s.reached

-- two answers that say where X falls short of R are equal
pub falls_settled : (d : ℕ) (R X : Vec) (a b : Option Short)
    → Worded a → Worded b → Falls d R X a → Falls d R X b → a ≡ b
falls_settled d R X None None f g p q = refl
falls_settled d R X None (Some t) f g p q = absurd (q.short (p t.at q.inside))
falls_settled d R X (Some s) None f g p q = absurd (p.short (q s.at p.inside))
falls_settled d R X (Some s) (Some t) f g p q =
    same s t place (word_settled f g p.reached (q.reached ∙ ap R (sym place)))
  where
    no_less : ¬ (s.at < t.at)
    no_less h = p.short (q.before s.at h)

    no_more : ¬ (t.at < s.at)
    no_more h = q.short (p.before t.at h)

    place : s.at ≡ t.at
    place = omega (arith, no_less, no_more)

    same : (s t : Short) → s.at ≡ t.at → s.reached ≡ t.reached → Some s ≡ Some t
    same s t e f =
        ap (λ i. Some record { at = i; reached = s.reached }) e
        ∙ ap (λ z. Some record { at = t.at; reached = z }) f
