use borrow.Author.Rules.{rules}
use Rattle.std.proofs.lemmas.Result.{err_from_is_err_and}
use Rattle.codec.proofs.ArrayLaws.{items_gave, items_refused}
use Rattle.bounds.specs.Bounds.{no_bounds, bounds_form}
use Rattle.model.proofs.reader.read_invariants.Goals as goal

pub returns-in_err-s : goal.returns-in_err-s
returns-in_err-s c =
    let p = err_from_is_err_and c.from_residual.result c.from_residual.ensures.1 in
    rw (p.1, p.2)
    (items_refused (bounds_form c.args.n) 32 _ no_bounds _ c.requires.1
    (rw c.no_bounds-invariants.ensures at (c.in_err-s.ensures.read (bounds_form c.args.n) (λ x r h. search rules))))

pub returns : goal.returns
returns c =
    rw c.no_bounds-invariants.ensures
    (items_gave (bounds_form c.args.n) 32 _ no_bounds _ c.requires.1
    (rw c.no_bounds-invariants.ensures at (c.in_ok-s.ensures.read (bounds_form c.args.n) (λ x r h. search rules))))
