use native.Mathlib.Omega.{arith}
use mathlib.Core.Path.{◌≡◌, refl, sym, ◌∙◌}
use Prim.Native.Nat.{◌+◌, ◌<◌}
use lib.ListN.{get_or}
use Rattle.std.proofs.Common.{Ok}
use Rattle.runs.specs.Rule.{try_edge, expand}
use Rattle.model.specs.Models.{past_edge}
use Rattle.model.specs.Outlines.{model_by, past_standing}
use Rattle.model.proofs.PlainLimits.{edges_many, edge_at_lem}
use Rattle.walk.specs.declared.Moved.TheVariants.{Going}
use Rattle.walk.specs.Control.{walk_in, Does}
use Rattle.walk.specs.Grounds.{system_of}
use Rattle.walk.proofs.KeepingLaws.{goes_on, stays}
use Rattle.walk.proofs.FormLaws.{try_stays}
use Rattle.walk.proofs.Turns.{turn_first, turns_on, turns_met, turns_refused, turns_done, ready_on, does_more}
use Rattle.walk.proofs.layers.Ground.expand.Goals as goal
use Rattle.walk.proofs.layers.Ground.expand.Goals.{After-locate-state, then-self-e+in_ok-moved+in-Going, else-self-e}

-- an edge that does not leave
remains : (c : After-locate-state) → let g = c.args.self.now in
    let n = g.outline.now.clocks in
    let l = c.loop-e in
    ¬ ((get_or g.outline.now.steps l.e past_standing).source ≡ c.locate-state.result.location)
    → Does n g.room l.s.kept (c.args.y.tried + (l.e + 1))
    (try_edge (system_of g) g.room c.args.i l.e (walk_in n l.s l.area)) l.area (Ok (Going l.s)) l.area
remains c h =
    let g = c.args.self.now in
    let l = c.loop-e in
    let grows = l.invariant.turning.grows in
    let o = c.requires.0.outlines in
    let m = model_by g.outline.now in
    let inside : c.args.i < l.s.kept = omega (arith, c.requires.1, grows.more) in
    goes_on (omega (arith, grows.few)) (ready_on c.requires.0.ready l.invariant.long grows)
    (try_stays m g.room c.args.i l.e l.s l.area inside (get_or m.steps l.e past_edge)
    (edge_at_lem m o.limits past_edge _ c.loop-e-test.true)
    (λ q. h (o.sources _ c.loop-e-test.true ∙ q ∙ sym c.locate-state.ensures.location)))

pub loop-e-init : goal.loop-e-init
loop-e-init c = let g = c.args.self.now in
    record {
      long = refl;
      turning = record {
        grows = stays _ _ c.args.y _ _ (omega arith) c.requires.0.ready;
        left = unfold expand in turn_first _ g.outline.now.edges _ 0 _
            (omega (arith, edges_many (model_by g.outline.now) c.requires.0.outlines.limits));
      };
    }

pub returns-in_err-moved : goal.returns-in_err-moved
returns-in_err-moved c =
    let t = c.loop-e.invariant.turning in
    does_more (omega (arith, c.requires.2, t.grows.few, c.loop-e-test.true, c.requires.0.outlines.limits.numbers.edges))
    (turns_refused t c.loop-e-test.true c.in_err-moved.ensures c.from_residual.ensures.1)

pub returns-in_default : goal.returns-in_default
returns-in_default c =
    let t = c.loop-e.invariant.turning in
    does_more (omega (arith, c.requires.2, t.grows.few, c.loop-e-test.true, c.requires.0.outlines.limits.numbers.edges))
    (turns_met t _ c.loop-e-test.true c.in_ok-moved.ensures c.in_default.not-Going)

pub loop-e-preserved : goal.loop-e-preserved
loop-e-preserved c =
    let l = c.loop-e.invariant in
    let x = (goal.at.loop-e-preserved c).After-locate-state in
    record {
      long = c.if-self-e.auto.area ∙ l.long;
      turning = elim c.if-self-e.branch [
        | then-self-e+in_ok-moved+in-Going w ↦ rw (w.area-is, w.s-is) (turns_on l.turning c.loop-e-test.true
            (does_more (omega (arith, l.turning.grows.few)) w.in_ok-moved.ensures) w.in-Going.is)
        | else-self-e w ↦ rw (w.area-is, w.s-is)
            (turns_on l.turning c.loop-e-test.true (remains x w.if-self-e.false) refl)
      ];
    }

pub returns : goal.returns
returns c =
    does_more (omega (arith, c.requires.2, c.requires.0.outlines.limits.numbers.edges, c.loop-e.auto.e-end))
    (turns_done c.loop-e.invariant.turning (omega arith))
