use borrow.Author.Rules.{rules}
use mathlib.Core.List.{map}
use mathlib.Core.Path.{◌≡◌, sym}
use lib.ListN.{length, take, replicate}
use Rattle.codec.specs.Number.{got}
use Rattle.codec.specs.Form.{read_in, many}
use Rattle.bounds.specs.Bounds.{bounds_form}
use Prim.Native.Nat.{◌<◌}
use native.Mathlib.Omega.{arith}
use Rattle.std.proofs.lemmas.Result.{err_from_is_err_and}
use Rattle.codec.proofs.FormLaws.{first_refused}
use Rattle.codec.proofs.ArrayLaws.{taken}
use Rattle.codec.proofs.EachLaws.{each_reads, each_same}
use Rattle.codec.proofs.PackedLaws.{all_of}
use Rattle.model.specs.Models.{edge_form, model_form}
use Rattle.model.specs.Outlines.{list_by, edge_by}
use Rattle.model.proofs.ReadLaws.{
  counts,
  unread,
  outline_refuses,
  lists_refused,
  edges_refused,
  target_refused,
  goal_refused,
  bytes_over,
  outline_read,
}
use Rattle.model.proofs.places.read_outline.Goals as goal
use Rattle.model.proofs.places.read_outline.Goals.{In_ok-s, In_ok-s-2}

-- the lists that were read
lists : (c : In_ok-s) → let h = c.in_ok-head.head in
    got (map (list_by h.clocks) c.read_items.new.items) c.in_ok-s.s.now
    ≡ read_in (many (length (take h.locations (replicate 32 c.args.bytes))) (bounds_form h.clocks)) c.in_ok-head.s.now
lists c = each_reads _ _ (λ s r h. search rules) c.in_ok-s.ensures.each c.read_items.auto.items

-- the edges
edges : (c : In_ok-s-2) → let h = c.in_ok-head.head in
    got (map (edge_by h.clocks h.locations) c.read_items-2.new.items) c.in_ok-s-2.s.now
    ≡ read_in (many (length (take h.edges (replicate 64 (unread c.args.bytes)))) (edge_form h.clocks h.locations))
    c.in_ok-s.s.now
edges c = each_reads _ _ (λ s r h. search rules) c.in_ok-s-2.ensures.each c.read_items-2.auto.items

pub returns-in_err-head : goal.returns-in_err-head
unfolding model_form
returns-in_err-head c =
    let p = err_from_is_err_and c.from_residual.result c.from_residual.ensures.1 in
    rw (p.1, p.2) (outline_refuses (first_refused _ _ _ c.in_err-head.ensures))

pub slice_bounds-invariants-end : goal.slice_bounds-invariants-end
slice_bounds-invariants-end c = (counts _ _ _ c.in_ok-head.ensures).1

pub slice_bounds-read_items-end : goal.slice_bounds-read_items-end
slice_bounds-read_items-end c = sym (taken 32 _ c.args.bytes (counts _ _ _ c.in_ok-head.ensures).1)

pub read_items-requires : goal.read_items-requires
read_items-requires c = let few = (counts _ _ _ c.in_ok-head.ensures).0 in search rules

pub returns-in_err-s : goal.returns-in_err-s
returns-in_err-s c =
    let p = err_from_is_err_and c.from_residual-in_err-s.result c.from_residual-in_err-s.ensures.1 in
    rw (p.1, p.2) (lists_refused _ _ _ c.in_ok-head.ensures c.args.bytes (each_reads _ (list_by c.in_ok-head.head.clocks) (λ s r h. search rules) c.in_err-s.ensures.each
    c.read_items.auto.items))

pub slice_bounds-steps-end : goal.slice_bounds-steps-end
slice_bounds-steps-end c = (counts _ _ _ c.in_ok-head.ensures).2

pub slice_bounds-read_items-end-2 : goal.slice_bounds-read_items-end-2
slice_bounds-read_items-end-2 c =
    sym (taken 64 _ (unread c.args.bytes) (counts _ _ _ c.in_ok-head.ensures).2)

pub read_items-requires-2 : goal.read_items-requires-2
read_items-requires-2 c = let few = (counts _ _ _ c.in_ok-head.ensures).0 in search rules

pub returns-in_err-s-2 : goal.returns-in_err-s-2
returns-in_err-s-2 c =
    let p = err_from_is_err_and c.from_residual-in_err-s-2.result c.from_residual-in_err-s-2.ensures.1 in
    rw (p.1, p.2)
    (edges_refused _ _ _ c.in_ok-head.ensures c.args.bytes _ _ (lists (goal.at.returns-in_err-s-2 c).In_ok-s) (each_reads _ (edge_by c.in_ok-head.head.clocks c.in_ok-head.head.locations) (λ s r h. search rules)
    c.in_err-s-2.ensures.each c.read_items-2.auto.items))

pub returns-in_err-list : goal.returns-in_err-list
returns-in_err-list c =
    let p = err_from_is_err_and c.from_residual-in_err-list.result c.from_residual-in_err-list.ensures.1 in
    rw (p.1, p.2)
    (target_refused _ _ _ c.in_ok-head.ensures c.args.bytes _ _ (lists (goal.at.returns-in_err-list c).In_ok-s) _ _ (edges (goal.at.returns-in_err-list c).In_ok-s-2)
    c.in_err-list.ensures)

pub read_goal-requires : goal.read_goal-requires
read_goal-requires c = (counts _ _ _ c.in_ok-head.ensures).0

pub returns-in_err-goal : goal.returns-in_err-goal
returns-in_err-goal c =
    let p = err_from_is_err_and c.from_residual-in_err-goal.result c.from_residual-in_err-goal.ensures.1 in
    rw (p.1, p.2)
    (goal_refused _ _ _ c.in_ok-head.ensures c.args.bytes _ _ (lists (goal.at.returns-in_err-goal c).In_ok-s) _ _ (edges (goal.at.returns-in_err-goal c).In_ok-s-2)
    c.in_err-goal.ensures)

pub returns-then-not-is_empty : goal.returns-then-not-is_empty
returns-then-not-is_empty c =
    bytes_over _ _ _ c.in_ok-head.ensures c.args.bytes _ _ (lists (goal.at.returns-then-not-is_empty c).In_ok-s) _ _ (edges (goal.at.returns-then-not-is_empty c).In_ok-s-2) _ _
    c.in_ok-goal.ensures c.if-not-is_empty.ensures

pub returns : goal.returns
returns c =
    let bytes = all_of (λ b. b < 256) 0 c.args.bytes.now (λ i h. omega (arith, c.type_inv.bytes i)) in
    outline_read _ _ _ c.in_ok-head.ensures c.args.bytes _ _ (lists (goal.at.returns c).In_ok-s) _ _ (edges (goal.at.returns c).In_ok-s-2) _ _
    c.in_ok-goal.ensures _ _ c.in_ok-list.ensures (each_same _ _ (λ s t x h. search rules) c.in_ok-s-2.ensures.each) bytes c.if-not-is_empty.ensures
