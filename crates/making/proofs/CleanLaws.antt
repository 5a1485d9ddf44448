-- The flags of cleaning, vector by vector.
use Rattle.std.proofs.Common.{Option}
use mathlib.Core.Bool.{Bool, true, false, cond}
use mathlib.Core.List.{List}
use mathlib.Core.Path.{◌≡◌, refl, sym, ◌∙◌, ap}
use Prim.Native.Nat.{ℕ, suc, ◌+◌, ◌-◌, ◌*◌, ◌≤◌, ◌<◌}
use native.Mathlib.Numerals.{add-one}
use native.Mathlib.Omega.{arith}
use lib.IntN.{ℤ}
use lib.ListN.{length, get_or, set, replicate, length-set}
use lib.Seq.{set-get_or, set-set}
use Rattle.numbers.specs.Places.{Vec, entries, Each}
use Rattle.sets.specs.declared.Short.{Short}
use Rattle.sets.specs.Tests.{part}
use Rattle.sets.specs.Rules.{flat, attained}
use Rattle.sets.specs.Falls.{masked, Falls, reach_of, Testable}
use Rattle.sets.proofs.RowLaws.{part_long}
use Rattle.sets.proofs.FlatLaws.{part_flat}
use Rattle.sets.proofs.FallLaws.{nowhere, tells_falls, each_part}
use Rattle.sets.proofs.Membership.{attained_ext}
use Rattle.making.proofs.RangeLaws.{row_room}
use Rattle.making.specs.Clean.{try_one, clean_from, clean_flags}

-- ---- one vector tried: vector i of the work's vectors of w words, lent as x
module _ (w m : ℕ) (work : List ℤ) (used : List Bool) (i : ℕ) (x : List ℤ) where
  -- the vectors in use generate it exactly if it falls short nowhere
  pub short_attained : (s : Option Short) → x ≡ part work (i * w) w → i * w + w ≤ length work
      → Falls (length x) (reach_of work m used x) (entries x) s
      → attained w m (masked used (flat w work)) (flat w work i) ≡ nowhere s
  unfolding attained
  short_attained s e h f = sym same ∙ tells_falls (length x) _ (entries x) s f
    where
      same : attained (length x) m (masked used (flat (length x) work)) (entries x)
          ≡ attained w m (masked used (flat w work)) (flat w work i)
      same = ap (λ (d : ℕ). attained d m (masked used (flat d work)) (entries x))
          (ap length e ∙ part_long work (i * w) w h)
          ∙ attained_ext w m _ _ (entries x) (flat w work i) (λ k j b c. refl)
          (λ j b. ap (λ (v : List ℤ). entries v j) e ∙ part_flat w work i j b)

-- it can be tested
pub try_testable : (n i : ℕ) (work : List ℤ) (flags : List Bool) → n ≤ 6 → i < length flags
    → length flags * suc n ≤ length work → Each 100000000 work
    → Testable work (length flags) (set flags i false) (part work (i * (n + 1)) (n + 1))
try_testable n i work flags a b h e = record {
  few = omega (arith, long);
  whole = rw (long, add-one n) h;
  flags = omega (arith, length-set flags i false);
  of_list = e;
  of_x = each_part work (i * (n + 1)) (n + 1) inside e;
}
  where
    inside : i * (n + 1) + (n + 1) ≤ length work
    inside = row_room n i (length flags) (length work) b h

    long : length (part work (i * (n + 1)) (n + 1)) ≡ n + 1
    long = part_long work (i * (n + 1)) (n + 1) inside

module _ (d m : ℕ) (G : ℕ → Vec) (flags : List Bool) (i : ℕ) where
  -- its flag stays off, or is set back
  pub try_drops : attained d m (masked (set flags i false) G) (G i) ≡ true → set flags i false ≡ try_one d m G flags i
  unfolding try_one
  try_drops e = rw e

  -- the others do not generate it: its flag is as it was
  pub try_keeps : attained d m (masked (set flags i false) G) (G i) ≡ false
      → set (set flags i false) i (get_or flags i false) ≡ try_one d m G flags i
  unfolding try_one
  try_keeps e = rw e (set-set flags i false (get_or flags i false) ∙ set-get_or flags i false)

  -- the number of flags stays
  pub try_long : (after : List Bool) → after ≡ try_one d m G flags i → length after ≡ length flags
  unfolding try_one
  try_long after e = ap length e ∙ go (attained d m (masked (set flags i false) G) (G i))
    where
      go : (b : Bool) → length (cond b (set flags i false) flags) ≡ length flags
      go true = length-set flags i false
      go false = refl

  -- ---- each in turn: what is left to try decides the flags
  clean_next : i < m → clean_from d m G flags i (m - i) ≡ clean_from d m G (try_one d m G flags i) (i + 1) (m - (i + 1))
  unfolding clean_from
  clean_next l = let e : m - i ≡ suc (m - suc i) = omega arith in rw (e, add-one i)

  -- with one more vector tried, what is left decides the same flags
  pub clean_more : (after last : List Bool) (k : ℕ) → k ≡ m → after ≡ try_one d k G flags i → i < m
      → clean_from d m G flags i (m - i) ≡ last → clean_from d m G after (i + 1) (m - (i + 1)) ≡ last
  clean_more after last k q e l h =
      ap (λ (f : List Bool). clean_from d m G f (i + 1) (m - (i + 1))) (e ∙ ap (λ (k : ℕ). try_one d k G flags i) q)
      ∙ sym (clean_next l) ∙ h

  -- with none left to try, the flags are those that there are
  pub clean_done : m ≤ i → clean_from d m G flags i (m - i) ≡ flags
  unfolding clean_from
  clean_done h = let e : m - i ≡ 0 = omega arith in rw e

-- with all flags on, all vectors are left to try
pub clean_start : (d m : ℕ) (G : ℕ → Vec) (flags : List Bool) → flags ≡ replicate m true
    → clean_from d m G flags 0 (m - 0) ≡ clean_flags d m G
unfolding clean_flags
clean_start d m G flags e = let z : m - 0 ≡ m = omega arith in rw z (ap (λ f. clean_from d m G f 0 m) e)
