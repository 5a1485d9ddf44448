use native.Mathlib.Omega.{arith}
use mathlib.Core.Path.{refl}
use Rattle.model.specs.Limits.{EdgeLimits}
use Rattle.walk.proofs.FollowLaws.{edge_limits, invariant_limits, followed}
use Rattle.walk.proofs.Turns.{counted}
use Rattle.walk.proofs.layers.Ground.follow.Goals as goal
use Rattle.walk.proofs.layers.Ground.follow.Goals.{After-edge_at-edge}

-- the edge that was read is in limits
limits : (c : After-edge_at-edge) → let o = c.args.self.now.outline.now in
    EdgeLimits o.clocks o.locations c.edge_at-edge.result
limits c = let g = c.args.self.now in
    edge_limits g.outline.now c.requires.grounded.0.outlines c.args.e c.requires.e_lt_edges.0
    c.edge_at-edge.ensures

pub bounds-outline-edge : goal.bounds-outline-edge
bounds-outline-edge c =
    let e = limits (goal.at.bounds-outline-edge c).After-edge_at-edge in
    omega (arith, e.destination, c.requires.grounded.0.outlines.limits.numbers.locations)

pub form-requires : goal.form-requires
form-requires c = let g = c.args.self.now in
    let r = c.requires.grounded in
    let h = r.0.outlines in
    let e = limits (goal.at.form-requires c).After-edge_at-edge in
    rw c.keeper.ensures (record {
      ready = (
        counted r.0.ready refl,
        r.1,
        omega (arith, c.requires.e_lt_edges.0, h.limits.numbers.edges),
        omega (arith, e.destination, h.limits.numbers.locations),
      );
      bounds_limits = (
        e.guard,
        invariant_limits g.outline.now h _ e.destination c.list_at-invariant.ensures,
        h.limits.list,
      );
    })

pub returns : goal.returns
returns c = let g = c.args.self.now in
    let r = c.requires in
    followed g.outline.now r.grounded.0.outlines c.args.e r.e_lt_edges.0 c.edge_at-edge.ensures g.room
    c.args.i c.args.y c.args.area.now c.list_at-invariant.result r.grounded.1 r.e_lt_edges.1 c.list_at-invariant.ensures
    (rw c.keeper.ensures at c.form.ensures)
