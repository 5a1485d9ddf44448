use native.Mathlib.Omega.{arith}
use mathlib.Core.Path.{sym, ap}
use Rattle.numbers.proofs.WordLaws.{word_is}
use Rattle.runs.specs.Rule.{following}
use Rattle.model.specs.Plain.{edge_of, bounds_of}
use Rattle.area.specs.Records.{state_in}
use Rattle.walk.specs.Control.{walk_in, aimed, formed_to}
use Rattle.walk.proofs.KeepingLaws.{does_as}
use Rattle.walk.proofs.FormLaws.{Gave, candidate_gave}
use Rattle.walk.proofs.layers.form.Goals as goal
use Rattle.walk.proofs.layers.form.Goals.{In_ok-k}

-- the candidate's list
gave : (c : In_ok-k) → let n = c.args.keeper.now.n in
    Gave n (following n (edge_of n c.args.edge.now) (bounds_of n c.args.invariant.now)
    (state_in n c.args.area.now c.args.i).list) c.in_ok-k.k c.candidate.new.out
gave c = let r = c.requires in
    candidate_gave _ _ _ _ c.locate-state.ensures (r.ready.0.recorded _ r.ready.1) c.args.edge.now c.args.invariant.now
    r.bounds_limits.0 r.bounds_limits.1 _ _ _ c.in_ok-k.ensures

pub judge-requires : goal.judge-requires
judge-requires c = let r = c.requires in
    let g = gave (goal.at.judge-requires c).In_ok-k in
    (r.ready.0, record { clocks = r.ready.0.clocks; proper = g.proper }, r.bounds_limits.2, r.ready.3)

pub returns : goal.returns
returns c = let a = c.args in
    let r = c.requires.ready.0 in
    let g = gave (goal.at.returns c).In_ok-k in
    let s = a.keeper.now in
    does_as
    (sym (ap (formed_to (aimed s.n s.goal) s.room a.edge.now.destination a.i a.e (walk_in s.n a.y a.area.now)) g.is))
    (rw (
      word_is a.i (omega (arith, c.requires.ready.1, r.within, r.cap)),
      word_is a.e (omega (arith, c.requires.ready.2)),
    ) at c.judge.ensures)
