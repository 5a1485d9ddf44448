use mathlib.Core.Path.{sym, ◌∙◌}
use Prim.Native.Nat.{◌<◌}
use native.Mathlib.Omega.{arith}
use Rattle.std.proofs.lemmas.Result.{err_from_is_err_and}
use Rattle.codec.specs.Form.{read_in}
use Rattle.codec.proofs.FormLaws.{first_gave, first_refused}
use Rattle.codec.proofs.PackedLaws.{all_of}
use Rattle.model.specs.Models.{model_form}
use Rattle.model.proofs.ModelSize.{found_head}
use Rattle.model.proofs.ReadLaws.{read_refuses, read_over, read_gives}
use Rattle.model.proofs.read.Goals as goal

pub returns-in_err-head : goal.returns-in_err-head
unfolding model_form
returns-in_err-head c =
    let p = err_from_is_err_and c.from_residual.result c.from_residual.ensures.1 in
    rw (p.1, p.2) (read_refuses (first_refused _ _ _ c.in_err-head.ensures))

pub read_invariants-requires : goal.read_invariants-requires
read_invariants-requires c = let counts = found_head (record { is = sym c.in_ok-head.ensures }) in (counts.0, counts.1)

pub returns-in_err-invariants : goal.returns-in_err-invariants
unfolding model_form
returns-in_err-invariants c =
    let p = err_from_is_err_and c.from_residual-in_err-invariants.result c.from_residual-in_err-invariants.ensures.1 in
    rw (p.1, p.2)
    (read_refuses (first_gave _ _ _ c.in_ok-head.ensures ∙ first_refused _ _ _ c.in_err-invariants.ensures))

pub read_edges-requires : goal.read_edges-requires
read_edges-requires c = let counts = found_head (record { is = sym c.in_ok-head.ensures }) in (counts.0, counts.2)

pub returns-in_err-steps : goal.returns-in_err-steps
unfolding model_form
returns-in_err-steps c =
    let p = err_from_is_err_and c.from_residual-in_err-steps.result c.from_residual-in_err-steps.ensures.1 in
    rw (p.1, p.2)
    (read_refuses
    (first_gave _ _ _ c.in_ok-head.ensures ∙ first_gave _ _ _ c.in_ok-invariants.ensures
    ∙ first_refused _ _ _ c.in_err-steps.ensures))

pub read_goal-requires : goal.read_goal-requires
read_goal-requires c = (found_head (record { is = sym c.in_ok-head.ensures })).0

pub returns-in_err-goal : goal.returns-in_err-goal
unfolding model_form
returns-in_err-goal c =
    let p = err_from_is_err_and c.from_residual-in_err-goal.result c.from_residual-in_err-goal.ensures.1 in
    rw (p.1, p.2)
    (read_refuses
    (first_gave _ _ _ c.in_ok-head.ensures ∙ first_gave _ _ _ c.in_ok-invariants.ensures
    ∙ first_gave _ _ _ c.in_ok-steps.ensures ∙ first_refused _ _ _ c.in_err-goal.ensures))

pub returns-then-not-is_empty : goal.returns-then-not-is_empty
unfolding model_form read_in
returns-then-not-is_empty c =
    read_over
    (first_gave _ _ _ c.in_ok-head.ensures ∙ first_gave _ _ _ c.in_ok-invariants.ensures
    ∙ first_gave _ _ _ c.in_ok-steps.ensures ∙ first_gave _ _ _ c.in_ok-goal.ensures) c.if-not-is_empty.ensures

pub returns : goal.returns
unfolding model_form read_in
returns c =
    let bytes = all_of (λ b. b < 256) 0 c.args.bytes.now (λ i h. omega (arith, c.type_inv.bytes i)) in
    read_gives bytes
    (first_gave _ _ _ c.in_ok-head.ensures ∙ first_gave _ _ _ c.in_ok-invariants.ensures
    ∙ first_gave _ _ _ c.in_ok-steps.ensures ∙ first_gave _ _ _ c.in_ok-goal.ensures) c.if-not-is_empty.ensures
