-- Vectors by place: two that agree, one with an entry replaced, and statements of the n clocks and the last entry.
use mathlib.Core.Path.{◌≡◌, refl, sym, subst}
use mathlib.Core.Logic.{◌≢◌}
use Prim.Native.Nat.{ℕ, suc, ◌<◌}
use native.Mathlib.Omega.{arith}
use native.Mathlib.Decide.{ℕ_discrete}
use Rattle.numbers.specs.Numbers.{Num}
use Rattle.numbers.specs.Places.{Vec}

-- the same vector at the first d places
abbrev pub Same : ℕ → Vec → Vec → Type 0
Same d g h = (k : ℕ) → k < d → g k ≡ h k

choose : {A : Type 0} → Dec A → Num → Num → Num
choose (yes e) v x = v
choose (no n) v x = x

-- X with entry i replaced by v
pub replace : Vec → ℕ → Num → Vec
replace X i v j = choose (ℕ_discrete j i) v (X j)

-- the replaced entry is the new one
pub replace_same : (X : Vec) (i : ℕ) (v : Num) → replace X i v i ≡ v
unfolding replace choose
replace_same X i v = go (ℕ_discrete i i)
  where
    go : (t : Dec (i ≡ i)) → choose t v (X i) ≡ v
    go (yes e) = refl
    go (no n) = absurd (n refl)

-- the other entries stay
pub replace_other : (X : Vec) (i : ℕ) (v : Num) (j : ℕ) → j ≢ i → replace X i v j ≡ X j
unfolding replace choose
replace_other X i v j n = go (ℕ_discrete j i)
  where
    go : (t : Dec (j ≡ i)) → choose t v (X j) ≡ X j
    go (yes e) = absurd (n e)
    go (no n) = refl

-- what holds of the last place n and of each place before it holds of every place
pub places : (n : ℕ) (P : ℕ → Type 0) → P n → ((k : ℕ) → k < n → P k) → (k : ℕ) → k < suc n → P k
places n P a b k l = go (ℕ_discrete k n)
  where
    go : Dec (k ≡ n) → P k
    go (yes e) = subst P (sym e) a
    go (no ne) = b k (omega arith)
