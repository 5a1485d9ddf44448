use borrow.Author.Rules.{rules}
use mathlib.Core.Path.{sym, ◌∙◌}
use native.Mathlib.Omega.{arith}
use Rattle.std.proofs.lemmas.Result.{err_from_is_err_and}
use Rattle.codec.specs.Form.{read_in}
use Rattle.codec.proofs.FormLaws.{ask_gave, first_gave, first_refused, gave_below}
use Rattle.codec.proofs.ArrayLaws.{items_gave, items_refused}
use Rattle.bounds.specs.Bounds.{bounds_form, bound_form, no_bound}
use Rattle.bounds.proofs.reader.read_bounds.Goals as goal

pub returns-in_err-s : goal.returns-in_err-s
unfolding bounds_form
returns-in_err-s c =
    let p = err_from_is_err_and c.from_residual-in_err-s.result c.from_residual-in_err-s.ensures.1 in
    let few = gave_below _ _ c.in_ok-count.ensures in
    let items = rw c.no_bound-items.ensures at (c.in_err-s.ensures.read (bound_form c.args.n) (λ x r h. search rules)) in
    rw (p.1, p.2)
    (sym (ask_gave 9 _ _ c.in_ok-count.ensures
    ∙ first_refused _ _ _ (items_refused (bound_form c.args.n) 8 _ no_bound _ (omega (arith, few)) items)))

pub returns : goal.returns
unfolding bounds_form read_in
returns c =
    let few = gave_below _ _ c.in_ok-count.ensures in
    let items = rw c.no_bound-items.ensures at (c.in_ok-s.ensures.read (bound_form c.args.n) (λ x r h. search rules)) in
    rw c.no_bound-items.ensures
    (sym (ask_gave 9 _ _ c.in_ok-count.ensures
    ∙ first_gave _ _ _ (items_gave (bound_form c.args.n) 8 _ no_bound _ (omega (arith, few)) items)))
