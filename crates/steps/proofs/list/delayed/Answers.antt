use lib.IntN.{pos}
use lib.ListN.{replicate}
use Rattle.runs.specs.Rule.{delayed}
use Rattle.steps.specs.Working.{front, Stepped}
use Rattle.steps.proofs.FrontLaws.{blank_memory, stepped_moved}
use Rattle.steps.proofs.Calls.{delayed_called, delayed_sound, showable}
use Rattle.steps.proofs.list.delayed.Goals as goal
use Rattle.steps.proofs.list.delayed.Goals.{After-delay-answer}

-- what the call leaves
stepped : (c : After-delay-answer) → let a = c.args in
    Stepped a.n (delayed a.n (front a.n a.k a.work.now)) c.delay-answer.result c.delay-answer.new.out
stepped c =
    let a = c.args in
    delayed_called a.n a.k a.work.now c.requires (replicate 224 (pos 0)) (blank_memory a.n c.requires.memory.clocks) _ _
    c.delay-answer.ensures

pub show-requires : goal.show-requires
show-requires c =
    showable c.args.n c.args.k c.args.work.now c.requires (stepped (goal.at.show-requires c).After-delay-answer)

pub returns : goal.returns
returns c =
    let a = c.args in
    stepped_moved a.n c.requires.memory (delayed_sound a.n a.k a.work.now c.requires)
    (stepped (goal.at.returns c).After-delay-answer) c.show.ensures
