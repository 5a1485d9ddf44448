use mathlib.Core.Path.{◌≡◌, sym, ◌∙◌}
use native.Mathlib.Omega.{arith}
use lib.IntN.{pos}
use lib.ListN.{length, get_or, length-append}
use Rattle.std.proofs.lemmas.Slice.Zip.{zip_turn, zip_end}
use Rattle.numbers.specs.Numbers.{Within}
use Rattle.numbers.specs.Places.{side_of, entries}
use Rattle.numbers.proofs.IntegerLaws.{zarith}
use Rattle.numbers.proofs.WordLaws.{number_mark, is_low}
use Rattle.numbers.proofs.PlaceLaws.{⨁_none, ⨁_more, ⨁_low}
use borrow.Author.Rules.{rules}
use Rattle.numbers.proofs.side.Goals as goal

pub loop-c-init : goal.loop-c-init
loop-c-init c = number_mark ∙ sym (⨁_none _)

pub loop-c-preserved-then-c-ge-LEAST : goal.loop-c-preserved-then-c-ge-LEAST
loop-c-preserved-then-c-ge-LEAST c =
    let l = c.loop-c in
    let begun = c.into_iter-c-iterator.result in
    let t = zip_turn c.args.a.now c.args.x.now l.yielded begun l.c-iterator c.next.new.self _
    (search rules) (search rules) l.yielded_by _ c.in-Some.is c.next.ensures.steps in
    let e : c.in-Some.c.now ≡ get_or c.args.a.now (length l.yielded) (pos 0) = t.2 (pos 0) in
    let f : c.in-Some.y.now ≡ get_or c.args.x.now (length l.yielded) (pos 0) = t.3 (pos 0) in
    simp (length-append, ⨁_more, ← e, ← f)
    (search (rules, c.larger-most.ensures, c.product.ensures, l.invariant))

pub loop-c-preserved : goal.loop-c-preserved
loop-c-preserved c =
    let l = c.loop-c in
    let begun = c.into_iter-c-iterator.result in
    let t = zip_turn c.args.a.now c.args.x.now l.yielded begun l.c-iterator c.next.new.self _
    (search rules) (search rules) l.yielded_by _ c.in-Some.is c.next.ensures.steps in
    let e : c.in-Some.c.now ≡ get_or c.args.a.now (length l.yielded) (pos 0) = t.2 (pos 0) in
    let near : Within 1000000000 (entries c.args.a.now (length l.yielded)) = c.requires.1.each _ (omega arith) in
    simp length-append (l.invariant ∙ sym (⨁_low _ _ (rw (← e, (is_low (rw (← e) at near) (omega zarith)).is))))

pub returns : goal.returns
unfolding side_of
returns c =
    let l = c.loop-c in
    let begun = c.into_iter-c-iterator.result in
    let e = zip_end c.args.a.now c.args.x.now l.yielded begun l.c-iterator c.next.new.self _
    (search rules) (search rules) l.yielded_by c.in-None.is c.next.ensures.steps in
    let t : length l.yielded ≡ length c.args.x.now = omega (arith, e) in
    rw (← t) l.invariant
