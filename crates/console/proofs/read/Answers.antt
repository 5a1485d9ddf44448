use Rattle.std.proofs.Common.{◌≡◌, ℕ, ◌+◌, ◌≤◌, List, ◌++◌, rules, length, take, sym, ap, ◌∙◌, subst, length-take-le}
use Rattle.std.proofs.Math.Seq.{take-append-add}
use Rattle.std.proofs.lemmas.List.{take-append-le}
use Rattle.std.specs.Io.KnownBytes.{Consumes}
use Rattle.std.proofs.KnownBytes.{Consumes-trans}
use borrow.Rule.Slice.PartMut.{put_mid, post_of}
use Rattle.console.proofs.read.Goals as goal

-- the first bytes, and behind them the first of a part that was put there
take-put_mid-add : (a k n : ℕ) (xs ys : List ℕ) → a ≤ length xs → n ≤ length ys
    → take a xs ++ take n ys ≡ take (a + n) (put_mid a k xs ys)
take-put_mid-add a k n xs ys within fits =
    let post = post_of a k xs in
    let front = ap (λ m. take (m + n) (put_mid a k xs ys)) (sym (length-take-le a xs within)) in
    sym (front ∙ take-append-add (take a xs) (ys ++ post) n ∙ ap (λ l. take a xs ++ l) (take-append-le n ys post fits))

pub loop-at-preserved : goal.loop-at-preserved
loop-at-preserved g c =
    let read = c.in_ok-more.ensures in
    let joined = take-put_mid-add _ _ _ _ _ c.loop-at.invariant.1 read.bound.0 in
    (search rules, search rules, subst (Consumes _ _) joined (Consumes-trans _ _ _ _ _ c.loop-at.invariant.2 read.bytes.0))
