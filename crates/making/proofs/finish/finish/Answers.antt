use Rattle.std.proofs.Common.{Err}
use mathlib.Core.Bool.{true, Bool, false}
use mathlib.Core.Path.{◌≡◌, sym, ◌∙◌, ap}
use mathlib.Core.List.{List}
use Prim.Native.Nat.{suc, ◌*◌, ℕ, ◌+◌}
use native.Mathlib.Numerals.{add-one}
use lib.ListN.{length, take, replicate}
use lib.IntN.{ℤ}
use Rattle.numbers.specs.declared.Refusal.TheVariants.{Range}
use Rattle.algebra.specs.Working.{some_point}
use Rattle.sets.specs.Rules.{flat, has_point}
use Rattle.sorting.specs.Rows.{held}
use Rattle.making.specs.Clean.{clean_flags}
use Rattle.making.specs.Finish.{Writable, Writes, alive_ok, Finishable, Finishes}
use Rattle.making.specs.Types.{Made}
use Rattle.making.proofs.FinishLaws.{point_held, finishes_none, trues_long, cleanable, writable}
use Rattle.making.proofs.FinishLaws.{finishes_range, finishes_written}
use Rattle.making.proofs.finish.finish.Goals as goal

-- the answer is whether there is a point
pointed : {n k : ℕ} {work area : List ℤ} {b : Bool} → Finishable n work k area
    → b ≡ has_point n (take (k * (n + 1)) work) → some_point n (held (suc n) k work) ≡ b
pointed {n} {k} {work} {area} g e = sym (rw (add-one n) at e ∙ point_held n work k area g)

module _ {n k : ℕ} {work area : List ℤ} {flags : List Bool} (g : Finishable n work k area)
    (cleaned : flags ≡ clean_flags (suc n) (length (take k (replicate 272 true))) (flat (suc n) work)) where
  -- the flags that cleaning leaves
  is : flags ≡ clean_flags (suc n) k (flat (suc n) work)
  is = cleaned ∙ ap (λ m. clean_flags (suc n) m (flat (suc n) work)) (trues_long k g.few)

  -- beyond the limits
  beyond : true ≡ has_point n (take (k * (n + 1)) work) → false ≡ alive_ok n flags (flat (suc n) work)
      → Finishes n (held (suc n) k work) area (Err Range) area
  beyond p e = finishes_range n work k area g flags is (pointed g p) (sym e)

  -- the vectors that are on can be written
  can_write : Writable n work flags area
  can_write = writable n work k area g flags is

  -- within the limits, and written
  within : true ≡ has_point n (take (k * (n + 1)) work) → true ≡ alive_ok n flags (flat (suc n) work)
      → (made : Made) (after : List ℤ) → Writes n work flags area made after
      → Finishes n (held (suc n) k work) area made after
  within p e = finishes_written n work k area g flags is (pointed g p) (sym e)

pub returns-then-not-has_point : goal.returns-then-not-has_point
returns-then-not-has_point c = finishes_none _ _ _ _ c.requires (pointed c.requires c.if-not-has_point.ensures)

pub clean-requires : goal.clean-requires
clean-requires c = cleanable _ _ _ _ c.requires

pub returns-then-not-fits : goal.returns-then-not-fits
returns-then-not-fits c =
    beyond c.requires c.clean.ensures c.if-not-has_point.ensures c.if-not-fits.ensures

pub write-requires : goal.write-requires
write-requires c = can_write c.requires c.clean.ensures

pub returns : goal.returns
returns c =
    within c.requires c.clean.ensures c.if-not-has_point.ensures c.if-not-fits.ensures _ _ c.write.ensures
