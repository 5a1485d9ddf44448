use Rattle.answer.proofs.+lines.Given as goal

abbrev pub decreases-lines : goal.decreases-lines
decreases-lines l = l.i
