use mathlib.Core.Path.{refl, ap, ◌≡◌}
use mathlib.Core.List.{List, ◌++◌}
use Prim.Native.Nat.{ℕ, ◌≤◌}
use native.Mathlib.Omega.{arith}
use lib.ListN.{length, drop, take, replicate}
use Rattle.codec.specs.Answers.{Writes}
use Rattle.model.specs.Written.{model_bytes}
use Rattle.model.specs.Answers.{value, wrote, WritesModel}
use Rattle.model.specs.declared.Model.{Model}
use Rattle.model.specs.Limits.{ModelLimits}
use Rattle.model.proofs.StoreLaws.{room, free_room, count, whole, part as first}
use Rattle.model.proofs.write.Goals as goal

-- a long area has room for the model
at_once : (m : Model) {area after : List ℕ} {end : ℕ} → ModelLimits m → 33664 ≤ length area
    → Writes area 0 (model_bytes m) after end → WritesModel m area after (value end)
at_once m {area} l h w =
    let r = room m l area h in
    wrote l (omega (arith, r.fits)) (whole m r w) (ap value (count m r w))

-- a shorter one gets the bytes that were written apart
by_copy : (m : Model) {area bytes part : List ℕ} {end : ℕ} → ModelLimits m
    → Writes (replicate 33664 0) 0 (model_bytes m) bytes end → end ≤ length area → part ≡ take end bytes
    → WritesModel m area (part ++ drop end area) (value end)
by_copy m {area} l w h copied =
    let r = free_room m l in
    let n = count m r w in
    wrote l (omega (arith, h, n)) (rw (copied, first m r w, n) refl) (ap value n)

pub write_model-requires : goal.write_model-requires
write_model-requires c =
    let fits = c.if-not-model_fits.ensures.yes refl in
    (fits, room _ fits _ c.if-out-ge33664.true)

pub returns-then-out-ge33664 : goal.returns-then-out-ge33664
returns-then-out-ge33664 c =
    at_once c.args.model.now (c.if-not-model_fits.ensures.yes refl) c.if-out-ge33664.true c.write_model.ensures

pub write_model-end-requires : goal.write_model-end-requires
write_model-end-requires c =
    let fits = c.if-not-model_fits.ensures.yes refl in
    (fits, free_room _ fits)

pub returns : goal.returns
returns c =
    by_copy c.args.model.now (c.if-not-model_fits.ensures.yes refl) c.write_model-end.ensures c.if-out-end.false c.copy_from_slice.ensures.after
