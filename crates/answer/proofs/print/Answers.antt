use Rattle.std.proofs.Common.{Ok, ap, ◌∙◌}
use Rattle.answer.proofs.PrintLaws.{head_fits, prints_head, some_kept, lines_printable, prints_lines}
use Rattle.answer.proofs.print.Goals as goal

pub head-at-requires : goal.head-at-requires
head-at-requires c =
    head_fits _ c.requires.outlined.limits _ _ _ c.walk_outline-answer.ensures c.requires.room

pub overflow_sub-kept : goal.overflow_sub-kept
overflow_sub-kept c =
    let is = rw c.in-Ok-Reached.is at c.in-Ok-Reached.field-0-is in
    some_kept _ c.requires.outlined.limits _ _ _ c.walk_outline-answer.ensures (c.in-Ok-Reached.is ∙ ap Ok is)

pub lines-requires : goal.lines-requires
lines-requires c =
    let is = rw c.in-Ok-Reached.is at c.in-Ok-Reached.field-0-is in
    lines_printable _ c.requires.outlined.limits _ _ _ c.walk_outline-answer.ensures (c.in-Ok-Reached.is ∙ ap Ok is)
    c.head-at.ensures c.requires.room

pub returns-in-Ok-Reached : goal.returns-in-Ok-Reached
returns-in-Ok-Reached c =
    let is = rw c.in-Ok-Reached.is at c.in-Ok-Reached.field-0-is in
    prints_lines _ c.requires.outlined.limits _ _ _ c.walk_outline-answer.ensures (c.in-Ok-Reached.is ∙ ap Ok is)
    c.head-at.ensures c.lines.ensures

pub returns-in-Ok-Never : goal.returns-in-Ok-Never
returns-in-Ok-Never c =
    let is = rw c.in-Ok-Never.is at c.in-Ok-Never.field-0-is in
    prints_head _ c.requires.outlined.limits _ _ _ c.walk_outline-answer.ensures (c.in-Ok-Never.is ∙ ap Ok is) tt
    c.head-at.ensures

pub returns-in-Ok-Open : goal.returns-in-Ok-Open
returns-in-Ok-Open c =
    let is = rw c.in-Ok-Open.is at c.in-Ok-Open.field-0-is in
    prints_head _ c.requires.outlined.limits _ _ _ c.walk_outline-answer.ensures (c.in-Ok-Open.is ∙ ap Ok is) tt
    c.head-at.ensures

pub returns-in-Err : goal.returns-in-Err
returns-in-Err c =
    prints_head _ c.requires.outlined.limits _ _ _ c.walk_outline-answer.ensures c.in-Err.is tt c.head-at.ensures
