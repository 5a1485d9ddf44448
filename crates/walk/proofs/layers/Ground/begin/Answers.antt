use native.Mathlib.Omega.{arith}
use mathlib.Core.Path.{◌≡◌}
use Prim.Native.Nat.{◌+◌, ◌*◌, ◌≤◌}
use lib.ListN.{length, get_or}
use Rattle.bounds.specs.declared.Bounds.{Bounds}
use Rattle.runs.specs.Rule.{enter, zeros}
use Rattle.model.specs.Models.{past_bounds}
use Rattle.model.specs.declared.Outline.{Outline}
use Rattle.model.specs.Outlines.{list_at, model_by, past_place, Outlines}
use Rattle.walk.specs.Grounds.{system_of}
use Rattle.walk.proofs.FormLaws.{Gave, prefix_in}
use Rattle.walk.proofs.FollowLaws.{known, invariant_limits}
use Rattle.walk.proofs.LayerLaws.{finds_as}
use Rattle.walk.proofs.BeginLaws.{begin_starts, begin_gave, begin_stops, begin_empty, begin_full}
use Rattle.walk.proofs.layers.Ground.begin.Goals as goal
use Rattle.walk.proofs.layers.Ground.begin.Goals.{In_ok-k}

-- the invariant that was read
read : {o : Outline} (h : Outlines o) {inv : Bounds}
    → inv ≡ list_at o.clocks (get_or o.invariants o.initial past_place).now
    → inv ≡ get_or (model_by o).invariants o.initial past_bounds
read {o} h is = known o h o.initial h.limits.numbers.initial is

-- the list of state 0
gave : (c : In_ok-k) → let g = c.args.self.now in
    Gave g.outline.now.clocks (enter (system_of g) (system_of g).initial (zeros g.outline.now.clocks)) c.in_ok-k.k
    c.enter.new.out
gave c = let h = c.requires.outlines in
    begin_gave _ h.limits c.args.self.now.room c.list_at-invariant.result (read h c.list_at-invariant.ensures) _ _ _
    c.in_ok-k.ensures

-- its words lie in what entering left there
inside : (c : In_ok-k) → c.in_ok-k.k * (c.args.self.now.outline.now.clocks + 1) ≤ length c.enter.new.out
inside c = omega (arith, prefix_in c.requires.outlines.limits.numbers.clocks (gave c), c.enter.auto.out)

pub enter-requires : goal.enter-requires
enter-requires c =
    let g = c.args.self.now in
    let h = c.requires.outlines in (
      begin_starts g.outline.now.clocks _ c.requires.ready.clocks (omega (arith, h.limits.numbers.clocks)),
      invariant_limits g.outline.now h _ h.limits.numbers.initial c.list_at-invariant.ensures,
    )

pub returns-in_err-k : goal.returns-in_err-k
returns-in_err-k c = let h = c.requires.outlines in
    begin_stops _ h.limits c.args.self.now.room c.list_at-invariant.result (read h c.list_at-invariant.ensures) _ _ _
    c.in_err-k.ensures c.from_residual.ensures.1

pub returns-then-k-eq0 : goal.returns-then-k-eq0
returns-then-k-eq0 c = let h = c.requires.outlines in
    begin_empty _ h.limits c.args.self.now.room c.list_at-invariant.result (read h c.list_at-invariant.ensures) _ _ _
    (gave (goal.at.returns-then-k-eq0 c).In_ok-k) c.requires.ready c.if-k-eq0.true

pub root-requires : goal.root-requires
root-requires c =
    let g = gave (goal.at.root-requires c).In_ok-k in
    (c.requires, record { clocks = c.requires.ready.clocks; proper = g.proper })

pub returns : goal.returns
returns c =
    let v = (goal.at.returns c).In_ok-k in
    let h = c.requires.outlines in
    finds_as (begin_full _ h.limits c.args.self.now.room c.list_at-invariant.result (read h c.list_at-invariant.ensures)
    c.args.area.now _ _ (gave v) c.if-k-eq0.false (inside v)) c.root.ensures
