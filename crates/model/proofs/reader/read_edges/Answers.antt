use borrow.Author.Rules.{rules}
use Rattle.std.proofs.lemmas.Result.{err_from_is_err_and}
use Rattle.codec.proofs.ArrayLaws.{items_gave, items_refused}
use Rattle.model.specs.Models.{no_edge, edge_form}
use Rattle.model.proofs.reader.read_edges.Goals as goal

pub returns-in_err-s : goal.returns-in_err-s
returns-in_err-s c =
    let p = err_from_is_err_and c.from_residual.result c.from_residual.ensures.1 in
    rw (p.1, p.2)
    (items_refused (edge_form c.args.n c.args.l) 64 _ no_edge _ c.requires.1
    (rw c.no_edge-steps.ensures at (c.in_err-s.ensures.read (edge_form c.args.n c.args.l) (λ x r h. search rules))))

pub returns : goal.returns
returns c =
    rw c.no_edge-steps.ensures
    (items_gave (edge_form c.args.n c.args.l) 64 _ no_edge _ c.requires.1
    (rw c.no_edge-steps.ensures at (c.in_ok-s.ensures.read (edge_form c.args.n c.args.l) (λ x r h. search rules))))
