use native.Mathlib.Omega.{arith}
use mathlib.Core.List.{List}
use mathlib.Core.Path.{◌≡◌, ap, ◌∙◌}
use Prim.Native.Nat.{ℕ, ◌+◌, ◌/◌}
use native.Mathlib.Numerals.{add-one}
use lib.ListN.{length}
use Rattle.algebra.specs.Vectors.{count}
use Rattle.numbers.proofs.WordLaws.{word_is}
use Rattle.area.proofs.KeepLaws.{part_room, keep_law}
use mir.Facts.{to_z-of_z}
use lib.IntN.{ℤ, pos}
use Rattle.area.proofs.keep.Goals as goal

-- the vectors of the list, as the code counts them
counted : (n : ℕ) (list : List ℤ) → length list / (n + 1) ≡ count n list
counted n list = ap (λ (w : ℕ). length list / w) (add-one n)

pub write-requires : goal.write-requires
write-requires c =
    part_room c.args.n c.args.area.now c.args.k c.size-size.result c.args.list.now
    c.size-size.ensures c.requires.room c.requires.whole

pub returns : goal.returns
returns c =
    let many = counted c.args.n c.args.list.now in
    keep_law c.args.n c.args.area.now _ c.args.k _ c.args.location c.args.parent c.args.edge
    c.args.list.now _ _ _ _ c.size-size.ensures c.requires.room c.requires.whole
    c.write.ensures (word_is _ (omega (arith, c.requires.inside))) (to_z-of_z c.ranges.parent)
    (to_z-of_z c.ranges.edge)
    (word_is _ (omega (arith, many, c.requires.whole.few)) ∙ ap pos many)
