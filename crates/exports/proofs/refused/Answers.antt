use mathlib.Core.Path.{◌∙◌, ap}
use Prim.Native.Nat.{◌≤◌}
use native.Mathlib.Omega.{arith}
use Rattle.numbers.proofs.RefusalLaws.{number_range}
use Rattle.exports.specs.Exported.{minus}
use Rattle.exports.proofs.NumberLaws.{less_fits, less_is}
use Rattle.exports.proofs.refused.Goals as goal
use Rattle.exports.proofs.refused.Goals.{After-number}

-- a refusal's number is small
small : (c : After-number) → c.number.result ≤ 8
small c = omega (arith, number_range c.args.e, c.number.ensures)

pub overflow_cast-result : goal.overflow_cast-result
overflow_cast-result c = record { sfits = omega (arith, small (goal.at.overflow_cast-result c).After-number) }

pub overflow_sub-result : goal.overflow_sub-result
overflow_sub-result c = less_fits c.number.result (small (goal.at.overflow_sub-result c).After-number)

pub returns : goal.returns
returns c = less_is c.number.result (small (goal.at.returns c).After-number) ∙ ap minus c.number.ensures
