-- Tests that compute, over the numbers below m.
use Rattle.std.specs.Prelude.{Bool, true, false, ◌&&◌, ◌||◌, ℕ, zero, suc}

-- every number below m passes
abbrev pub every : ℕ → (ℕ → Bool) → Bool
every zero p = true
every (suc m) p = every m p && p m

-- some number below m passes
abbrev pub some : ℕ → (ℕ → Bool) → Bool
some zero p = false
some (suc m) p = some m p || p m
