use mathlib.Core.Path.{◌≡◌, sym, ◌∙◌, subst}
use mathlib.Core.List.{List}
use Prim.Native.Nat.{ℕ, suc, ◌+◌, ◌-◌, ◌*◌, ◌≤◌}
use native.Mathlib.Numerals.{add-one}
use native.Mathlib.Omega.{arith}
use borrow.Rule.Slice.PartMut.{mid_len}
use lib.IntN.{ℤ}
use lib.ListN.{length, take, drop}
use Rattle.numbers.proofs.NumberLaws.{wider}
use Rattle.numbers.proofs.WordLaws.{back}
use Rattle.sets.proofs.FallLaws.{each_wider}
use Rattle.making.specs.Work.{Shifted}
use Rattle.making.proofs.PushLaws.{shift_near, pushed}
use Rattle.making.proofs.work.Work.push.Goals as goal

-- the part lent has n + 1 words
part_long : (n k : ℕ) (work : List ℤ) → k * suc n + suc n ≤ length work
    → length (take (k * (n + 1) + (n + 1) - k * (n + 1)) (drop (k * (n + 1)) work)) ≡ suc n
part_long n k work h =
    mid_len (k * (n + 1)) (k * (n + 1) + (n + 1)) work (rw (add-one n) h) ∙ omega (arith, add-one n)

pub place-requires : goal.place-requires
place-requires c =
    let p = c.requires in
    let by = back c.shift-by.type_inv ∙ c.shift-by.ensures in (
      part_long c.args.n c.args.self.now.count c.args.self.now.words p.room ∙ sym p.long,
      each_wider (omega arith) p.near,
      wider {k = 10000000} (omega arith) (rw by (shift_near _ _ p.long p.near)),
    )

pub returns-clause-pushed : goal.returns-clause-pushed
returns-clause-pushed c =
    let a = c.args in
    let k = a.self.now.count in
    let e : k * (a.n + 1) + (a.n + 1) - k * (a.n + 1) ≡ a.n + 1 = omega arith in
    let by = back c.shift-by.type_inv ∙ c.shift-by.ensures in
    rw (e, add-one a.n) (pushed a.n a.self.now.words k a.vector.now _ c.requires
    (subst (λ (z : ℤ). Shifted a.vector.now z c.place.new.out) by c.place.ensures))
