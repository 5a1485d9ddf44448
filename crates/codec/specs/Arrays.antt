-- Arrays of a fixed size whose first items are used and whose rest is blank.
use Rattle.std.specs.Prelude.{List, [], ◌∷◌, ◌++◌, ◌≡◌, ℕ, ◌-◌, ◌≤◌, ◌<◌, length, take, drop, replicate}

-- P holds of every item
abbrev pub All : {A : Type 0} → (A → Type 0) → List A → Type 0
All P [] = Unit {0}
All P (x ∷ xs) = P x × All P xs

-- what f makes of each item, one behind the other
abbrev pub each : {A : Type 0} → (A → List ℕ) → List A → List ℕ
each f [] = []
each f (x ∷ xs) = f x ++ each f xs

-- an array: P holds of the first n items, and what is behind them is blank
pub record Packed {A : Type 0} (P : A → Type 0) (blank : A) (size n : ℕ) (xs : List A) : Type 0 where
  pub few : n ≤ size
  pub long : length xs ≡ size
  pub used : All P (take n xs)
  pub unused : drop n xs ≡ replicate (size - n) blank

-- the item at place i of such an array
pub record Placed {A : Type 0} (P : A → Type 0) (blank : A) (n i : ℕ) (x : A) : Type 0 where
  pub used : i < n → P x
  pub unused : n ≤ i → x ≡ blank

-- a list of bytes
abbrev pub AreBytes : List ℕ → Type 0
AreBytes s = All (λ b. b < 256) s
