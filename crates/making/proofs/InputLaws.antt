-- What the tests of the input say to the code that follows them.
use mathlib.Core.Bool.{true, ◌&&◌}
use mathlib.Core.Path.{◌≡◌, sym}
use mathlib.Core.List.{List}
use Prim.Native.Nat.{ℕ, suc, ◌*◌, ◌≤◌}
use lib.Dec.{leb}
use lib.IntN.{ℤ}
use lib.ListN.{length}
use Rattle.numbers.proofs.Tells.{Tells, means, both, tells_leb}
use Rattle.sets.specs.Limits.{Clocks, Whole}
use Rattle.sets.specs.Tests.{clocks_ok, whole_ok}
use Rattle.sets.proofs.TestLaws.{tells_clocks, tells_whole}
use Rattle.making.specs.Limits.{Roomy}
use Rattle.making.specs.Rules.{shape_ok}

-- the shape of a list and an area
pub tells_shape : (n : ℕ) (l area : List ℤ) → Tells (shape_ok n l area) (Clocks n × Whole n l × Roomy n area)
unfolding shape_ok
tells_shape n l area = means (λ h. (h.0, h.1.0, h.1.1)) (λ h. (h.0, (h.1, h.2)))
    (both (clocks_ok n) (whole_ok n (length l) && leb (32 * suc n) (length area)) (tells_clocks n)
    (both (whole_ok n (length l)) (leb (32 * suc n) (length area)) (tells_whole n l)
    (tells_leb (32 * suc n) (length area))))

-- at most six clocks are taken
pub few_clocks : (n : ℕ) → true ≡ clocks_ok n → n ≤ 6
few_clocks n e = ((tells_clocks n).yes (sym e)).few

-- so a good shape has no more
pub few_shape : (n : ℕ) (l area : List ℤ) → true ≡ shape_ok n l area → n ≤ 6
few_shape n l area e = ((tells_shape n l area).yes (sym e)).0.few
