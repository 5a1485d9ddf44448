use Rattle.std.proofs.Common.{None, Some}
use Rattle.std.proofs.lemmas.Result.{err_from_is_err_and}
use mathlib.Core.Path.{◌≡◌}
use native.Mathlib.Numerals.{add-one}
use native.Mathlib.Omega.{arith}
use Rattle.numbers.specs.declared.Refusal.TheVariants.{Gens}
use Rattle.making.proofs.FinishLaws.{front_ends, writes_many, writes_done}
use Rattle.making.proofs.finish.write.Goals as goal

pub returns-in_err-k : goal.returns-in_err-k
returns-in_err-k c =
    let p = err_from_is_err_and c.from_residual.result c.from_residual.ensures.1 in
    let none : c.emit.result ≡ None = grind arith in
    let gens : c.in_err-k.field-0.0 ≡ Gens = grind arith in
    rw (p.1, p.2, gens) (writes_many _ _ _ _ c.requires (rw none at c.emit.ensures))

pub returns : goal.returns
returns c =
    let some : c.emit.result ≡ Some c.in_ok-k.k = grind arith in
    let done = rw some at c.emit.ensures in
    let ends = front_ends c.args.n c.in_ok-k.k 224 done.few (omega (arith, c.requires.clocks)) in
    rw (add-one c.args.n) (writes_done _ _ _ _ c.requires _ _ _ _ done (omega (arith, ends, c.result-2-1.given))
    (rw (add-one c.args.n) at c.copy_from_slice.ensures.after))
