use mathlib.Core.Path.{sym}
use native.Mathlib.Omega.{arith}
use lib.IntN.{pos}
use Rattle.std.proofs.lemmas.Result.{err_from_is_err_and}
use Rattle.codec.specs.Form.{read_in}
use Rattle.codec.proofs.FormLaws.{first_gave, first_refused}
use Rattle.codec.proofs.ArrayLaws.{items_gave, items_refused}
use Rattle.bounds.specs.Bounds.{half_form, entry_form}
use Rattle.bounds.proofs.reader.read_whole.Goals as goal

pub returns-in_err-s : goal.returns-in_err-s
unfolding half_form
returns-in_err-s c =
    let p = err_from_is_err_and c.from_residual.result c.from_residual.ensures.1 in
    rw (p.1, p.2)
    (sym (first_refused _ _ _
    (items_refused entry_form 14 _ (pos 0) _ (omega arith) (c.in_err-s.ensures.read entry_form (λ x r h. h)))))

pub returns : goal.returns
unfolding half_form read_in
returns c =
    sym (first_gave _ _ _
    (items_gave entry_form 14 _ (pos 0) _ (omega arith) (c.in_ok-s.ensures.read entry_form (λ x r h. h))))
