use lib.IntN.{pos}
use lib.ListN.{replicate}
use Rattle.runs.specs.Rule.{reset_to0}
use Rattle.steps.specs.Working.{front, Stepped}
use Rattle.steps.proofs.FrontLaws.{blank_memory, stepped_moved}
use Rattle.steps.proofs.Calls.{reset_called, reset_sound, showable}
use Rattle.steps.proofs.list.reset.Goals as goal
use Rattle.steps.proofs.list.reset.Goals.{After-reset-answer}

-- what the call leaves
stepped : (c : After-reset-answer) → let a = c.args in
    Stepped a.n (reset_to0 a.n a.i (front a.n a.k a.work.now)) c.reset-answer.result c.reset-answer.new.out
stepped c =
    let a = c.args in
    let h = c.requires.0 in
    reset_called a.n a.k a.work.now h (replicate 224 (pos 0)) (blank_memory a.n h.memory.clocks) _ _ a.i c.requires.1
    c.reset-answer.ensures

pub show-requires : goal.show-requires
show-requires c =
    showable c.args.n c.args.k c.args.work.now c.requires.0 (stepped (goal.at.show-requires c).After-reset-answer)

pub returns : goal.returns
returns c =
    let a = c.args in
    stepped_moved a.n c.requires.0.memory (reset_sound a.n a.k a.work.now c.requires.0 a.i c.requires.1)
    (stepped (goal.at.returns c).After-reset-answer) c.show.ensures
