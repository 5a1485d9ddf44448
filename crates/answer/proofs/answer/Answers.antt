use Rattle.answer.proofs.PrintLaws.{refused_fits, prints_unread, prints_read}
use native.Mathlib.Omega.{arith}
use mathlib.Core.List.{List}
use mathlib.Core.Path.{◌≡◌, sym}
use Prim.Native.Nat.{ℕ, ◌≤◌, ◌<◌}
use lib.ListN.{get_or}
use mir.Syntax.{w8}
use mir.Val.{Fits}
use Rattle.codec.specs.Arrays.{AreBytes}
use Rattle.codec.proofs.PackedLaws.{all_of}
use Rattle.answer.proofs.answer.Goals as goal

-- a text area has room for the longest answer
long : {k : ℕ} → k ≡ 512 → 397 ≤ k
long e = omega (arith, e)

-- what is read are bytes
bytes : (s : List ℕ) → ((i : ℕ) → Fits w8 (get_or s i 0)) → AreBytes s
bytes s fits = all_of (λ b. b < 256) 0 s (λ i h. omega (arith, fits i))

pub head-requires : goal.head-requires
head-requires c = refused_fits c.in-Err.e (long c.head-arg-1.given.0.1)

pub returns-in-Err : goal.returns-in-Err
returns-in-Err c =
    prints_unread _ (bytes _ c.type_inv.bytes) _ _ c.in-Err.e
    (long c.head-arg-1.given.0.1) c.in-Err.ensures c.head.ensures

pub returns-in-Ok : goal.returns-in-Ok
returns-in-Ok c =
    prints_read _ (bytes _ c.type_inv.bytes) _ _ (long c.print-arg-in-Ok-1.given.0.1)
    (sym c.in-Ok.ensures.said) c.in-Ok.ensures.holds.limits c.print.ensures
