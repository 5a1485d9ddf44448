-- A model's bytes at the start of an area.
use mathlib.Core.List.{List, ◌++◌}
use mathlib.Core.Path.{◌≡◌, ◌∙◌}
use Prim.Native.Nat.{ℕ, ◌≤◌}
use native.Mathlib.Omega.{arith}
use lib.ListN.{length, take, drop, replicate, length-replicate}
use Rattle.codec.specs.Answers.{Writes, Room}
use Rattle.codec.proofs.WriteLaws.{put_start, stored_first, stores}
use Rattle.model.specs.declared.Model.{Model}
use Rattle.model.specs.Limits.{ModelLimits}
use Rattle.model.specs.Written.{model_bytes}
use Rattle.model.proofs.ModelSize.{size}
use Rattle.model.proofs.ModelTrip.{few_sets}

-- an area of 33,664 bytes has room for any model
pub room : (m : Model) → ModelLimits m → (area : List ℕ) → 33664 ≤ length area → Room 0 (model_bytes m) area
room m w area h = record { fits = omega (arith, size m w) }

-- and so has one that is all 0
pub free_room : (m : Model) → ModelLimits m → Room 0 (model_bytes m) (replicate 33664 0)
free_room m w = room m w (replicate 33664 0) (omega (arith, length-replicate {A = ℕ} 33664 0))

module _ (m : Model) {area after : List ℕ} {end : ℕ} (r : Room 0 (model_bytes m) area)
    (v : Writes area 0 (model_bytes m) after end) where
  long : length (model_bytes m) ≤ length area
  long = omega (arith, r.fits)

  -- so many bytes were written
  pub count : end ≡ length (model_bytes m)
  count = omega (arith, v.ends)

  -- the area is the bytes, and what stood behind them
  pub whole : after ≡ model_bytes m ++ drop (length (model_bytes m)) area
  whole = v.stored ∙ put_start (model_bytes m) area long

  -- the written part is the bytes
  pub part : take end after ≡ model_bytes m
  part = stored_first long v

-- an edge, whose reset set is a small number
pub ruleset edge_stores = (stores, few_sets)
