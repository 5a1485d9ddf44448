use lib.IntN.{pos}
use lib.ListN.{replicate}
use Rattle.model.specs.Plain.{bound_by}
use Rattle.model.proofs.PlainLimits.{bound_plain}
use Rattle.runs.specs.Rule.{cut}
use Rattle.runs.specs.Table.{half_of}
use Rattle.steps.specs.Working.{front, Stepped}
use Rattle.steps.proofs.FrontLaws.{blank_memory, stepped_moved}
use Rattle.steps.proofs.Calls.{cut_called, cut_sound, showable}
use Rattle.steps.proofs.list.cut.Goals as goal
use Rattle.steps.proofs.list.cut.Goals.{After-intersect-answer}

-- what the call leaves
stepped : (c : After-intersect-answer) → let a = c.args in
    Stepped a.n (cut a.n (half_of a.n (bound_by a.n a.b.now a.b.now.kind)) (front a.n a.k a.work.now))
    c.intersect-answer.result c.intersect-answer.new.out
stepped c =
    let a = c.args in
    let h = c.requires.0 in
    cut_called a.n a.k a.work.now h (replicate 224 (pos 0)) (blank_memory a.n h.memory.clocks) _ _
    (bound_by a.n a.b.now a.b.now.kind) (bound_plain a.n a.b.now c.requires.1) _ c.half-words.ensures c.intersect-answer.ensures

pub show-requires : goal.show-requires
show-requires c =
    showable c.args.n c.args.k c.args.work.now c.requires.0 (stepped (goal.at.show-requires c).After-intersect-answer)

pub returns : goal.returns
returns c =
    let a = c.args in
    stepped_moved a.n c.requires.0.memory (cut_sound a.n a.k a.work.now c.requires.0 _)
    (stepped (goal.at.returns c).After-intersect-answer) c.show.ensures
