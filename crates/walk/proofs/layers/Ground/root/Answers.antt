use native.Mathlib.Omega.{arith}
use mathlib.Core.Path.{refl, ap}
use Rattle.std.proofs.Common.{Ok}
use Rattle.runs.specs.Rule.{nothing, zeroth, keep}
use Rattle.walk.specs.Control.{Does}
use Rattle.walk.specs.Grounds.{system_of}
use Rattle.walk.proofs.FollowLaws.{root_did}
use Rattle.walk.proofs.Turns.{ready_on}
use Rattle.walk.proofs.LayerLaws.{finds_same, root_went, root_deep, root_on, root_met, root_refused}
use Rattle.walk.proofs.layers.Ground.root.Goals as goal
use Rattle.walk.proofs.layers.Ground.root.Goals.{In_ok-moved}

-- state 0 is kept by the rule of the model
kept : (c : In_ok-moved) → let g = c.args.self.now in
    Does g.outline.now.clocks g.room 0 0 (keep (system_of g) g.room (zeroth (system_of g) c.args.list.now) nothing)
    c.args.area.now (Ok c.in_ok-moved.moved) c.store.new.area
kept c = let g = c.args.self.now in
    root_did g.outline.now c.requires.0.outlines g.room c.args.area.now c.args.list.now _ _ refl refl
    (rw c.keeper.ensures at c.in_ok-moved.ensures)

pub returns-in_err-moved : goal.returns-in_err-moved
returns-in_err-moved c = let g = c.args.self.now in
    root_refused _ _ _ _ _
    (root_did g.outline.now c.requires.0.outlines g.room c.args.area.now c.args.list.now _ _ refl refl
    (rw c.keeper.ensures at c.in_err-moved.ensures)) c.from_residual.ensures.1

pub returns-in_default : goal.returns-in_default
returns-in_default c = finds_same (ap Ok c.ended.ensures)
    (root_met _ _ _ _ _ (kept (goal.at.returns-in_default c).In_ok-moved) c.in_default.not-Going)

pub layers-requires : goal.layers-requires
layers-requires c =
    let d = kept (goal.at.layers-requires c).In_ok-moved in
    let g = root_went _ _ _ c.args.self.now.outline.now.depth _ d c.in-Going.is in (
      record { outlines = c.requires.0.outlines; ready = ready_on c.requires.0.ready c.store.auto.area g },
      omega (arith, g.few),
      root_deep _ _ _ c.args.self.now.outline.now.depth _ d c.in-Going.is,
    )

pub returns : goal.returns
returns c = root_on _ _ _ _ _ (kept (goal.at.returns c).In_ok-moved) c.in-Going.is c.layers.ensures
