use Rattle.std.proofs.Common.{Err, Ok, Result}
-- What the calls behind the boundary give: counts that fit, and bytes read and written back.
use mathlib.Core.List.{List}
use mathlib.Core.Path.{◌≡◌, refl, sym, ap, ◌∙◌}
use Prim.Native.Nat.{ℕ, ◌≤◌}
use native.Mathlib.Omega.{arith}
use lib.IntN.{ℤ}
use borrow.Author.Tests.{lt-ltb, le-ltb}
use Rattle.numbers.specs.Integers.{hi}
use Rattle.numbers.specs.Refusals.{refusal_number}
use Rattle.numbers.specs.declared.Refusal.{Refusal}
use Rattle.numbers.specs.declared.Refusal.TheVariants.{Gens}
use Rattle.algebra.specs.Sets.{Set}
use Rattle.sets.specs.Demands.{Input}
use Rattle.making.specs.Types.{Made}
use Rattle.making.specs.Answers.{Makes}
use Rattle.making.specs.Calls.{Resets}
use Rattle.codec.specs.Arrays.{AreBytes}
use Rattle.model.specs.declared.Model.{Model}
use Rattle.model.specs.Answers.{Said, value, read_of, written_said, ReadsModel, Stands}
use Rattle.model.specs.Answers.{WritesModel, outside, short, wrote}
use Rattle.model.proofs.Theorems.{size}
use Rattle.answer.specs.Printed.{Answered, printed_of, Prints}
use Rattle.answer.proofs.Theorems.{text_fits}
use Rattle.exports.specs.Exported.{minus, made_number, said_number, rewritten_of, Rewrites}
use Rattle.exports.proofs.NumberLaws.{not_above}

-- ---- counts fit
-- a set that is made has at most 32 vectors
pub made_fits : (c : Input) (n : ℕ) (wanted : Set) (before : List ℤ) (a : Made) (after : List ℤ)
    → Makes c n wanted before a after → hi (made_number a) ≤ 33664
made_fits c n wanted before (Ok k) after p =
    omega (arith, p.outcome.count, p.outcome.met Gens (omega arith))
made_fits c n wanted before (Err e) after p = omega (arith, not_above (refusal_number e))

-- a model has at most 33,664 bytes
pub written_fits : (m : Model) (before after : List ℕ) (s : Said ℕ) → WritesModel m before after s
    → hi (said_number s) ≤ 33664
written_fits m before after s (outside l a e) = rw e (omega arith)
written_fits m before after s (short l h a e) = rw e (omega arith)
written_fits m before after s (wrote l h a e) = rw e (size m l)

-- a text has at most 397 bytes
pub printed_fits : (bytes : List ℕ) → AreBytes bytes → (area : List ℤ) (text : List ℕ) (r : ℕ) (area' : List ℤ)
    (text' : List ℕ) → Prints bytes area text r area' text' → r ≤ 33664
unfolding printed_of
printed_fits bytes are area text r area' text' v =
    omega (arith, ap (λ (x : Answered). x.length) v.is, text_fits bytes are area)

-- ---- values
-- a reset to the same value
pub resets_same : (n : ℕ) (l : List ℤ) (i : ℕ) (c d : ℤ) (before : List ℤ) (a : Made) (after : List ℤ)
    → Resets n l i c before a after → c ≡ d → Resets n l i d before a after
resets_same n l i c d before a after r e = rw (← e) r

-- ---- bytes read and written back
-- they are refused
pub rewrites_unread : (s : List ℕ) (e : Refusal) (before : List ℕ) → ReadsModel s (Err e)
    → Rewrites s before (made_number (Err e)) before
rewrites_unread s e before p = unfold rewritten_of in rw (← p.said) refl

-- they are those of a model
pub rewrites_read : (s : List ℕ) (m : Model) (before after : List ℕ) (said : Said ℕ) (r : ℤ) → read_of s ≡ value m
    → Stands s m → WritesModel m before after said → r ≡ said_number said → Rewrites s before r after
unfolding rewritten_of
rewrites_read s m before after said r e p (outside l a f) g = absurd (l p.limits)
rewrites_read s m before after said r e p (short l h a f) g = rw (e, g, f, a, p.bytes, lt-ltb _ _ h) refl
rewrites_read s m before after said r e p (wrote l h a f) g = rw (e, g, f, a, p.bytes, le-ltb _ _ h) refl

-- the number of what was written
pub rewrites_written : (s : List ℕ) (m : Model) (before after : List ℕ) (w : Result ℕ Refusal) → ReadsModel s (Ok m)
    → WritesModel m before after (written_said w) → Rewrites s before (made_number w) after
rewrites_written s m before after (Ok n) p w = rewrites_read s m before after _ _ (sym p.said) p.stands w refl
rewrites_written s m before after (Err e) p w = rewrites_read s m before after _ _ (sym p.said) p.stands w refl

-- it is small
pub rewrites_fit : (m : Model) (before after : List ℕ) (w : Result ℕ Refusal) → WritesModel m before after (written_said w)
    → hi (made_number w) ≤ 33664
rewrites_fit m before after (Ok n) w = written_fits m before after _ w
rewrites_fit m before after (Err e) w = written_fits m before after _ w
