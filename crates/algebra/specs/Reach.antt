-- The rule by which membership is decided: the largest combination of a family that is not above a vector.
use Rattle.std.specs.Prelude.{ℕ}
use Rattle.numbers.specs.Numbers.{Num, ◌⊗◌, ⨁}
use Rattle.numbers.specs.Places.{Vec}
use Rattle.numbers.specs.Weights.{weight_of}

-- entry j of it: each of the m vectors of G takes part with the largest weight at which it stays below X at d places
unfoldable pub reach : ℕ → ℕ → (ℕ → Vec) → Vec → ℕ → Num
reach d m G X j = ⨁ m (λ i. weight_of d (G i) X ⊗ G i j)
