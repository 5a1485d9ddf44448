-- A test tells whether a statement holds: what a computed answer means.
use mathlib.Core.Bool.{Bool, true, false, ◌&&◌, ◌||◌}
use mathlib.Core.Logic.{◌⊎◌, inl, inr}
use mathlib.Core.Path.{◌≡◌, refl, sym, ◌∙◌, subst}
use Prim.Native.Nat.{ℕ, zero, suc, ◌+◌, ◌≤◌, ◌<◌}
use native.Mathlib.Numerals.{add-one}
use native.Mathlib.Omega.{arith}
use native.Mathlib.Decide.{ℕ_discrete}
use lib.Dec.{T, eqb, leb, eqb→eq, eqb_refl, leb→le, le→leb}
use Rattle.numbers.specs.Tests.{every, some}

-- the test tells whether P holds
pub record Tells (test : Bool) (P : Type 0) : Type 0 where
  pub yes : test ≡ true → P
  pub no : test ≡ false → ¬ P

-- no test both passes and fails
pub clash : true ≡ false → ⊥
clash e = subst T e tt

-- a test that passes exactly if P holds tells P
pub told : {P : Type 0} (b : Bool) → (T b → P) → (P → T b) → Tells b P
told true f g = record { yes = λ e. f tt; no = λ e. absurd (clash e) }
told false f g = record { yes = λ e. absurd (clash (sym e)); no = λ e. g }

-- the test that never passes tells what does not hold
pub never : {P : Type 0} → ¬ P → Tells false P
never n = record { yes = λ e. absurd (clash (sym e)); no = λ e. n }

-- the test that always passes tells what holds
pub always : {P : Type 0} → P → Tells true P
always p = record { yes = λ e. p; no = λ e. absurd (clash e) }

-- a test of an equivalent statement
pub means : {P Q : Type 0} {b : Bool} → (P → Q) → (Q → P) → Tells b P → Tells b Q
means f g t = record { yes = λ e. f (t.yes e); no = λ e q. t.no e (g q) }

-- what the test decides
pub decided : {P : Type 0} (b : Bool) → Tells b P → Dec P
decided true t = yes (t.yes refl)
decided false t = no (t.no refl)

-- a statement that holds passes its test
pub passes : {P : Type 0} {b : Bool} → Tells b P → P → b ≡ true
passes {P} {b} t p = go b refl
  where
    go : (c : Bool) → b ≡ c → b ≡ true
    go true e = e
    go false e = absurd (t.no e p)

-- a statement that does not hold fails its test
pub fails : {P : Type 0} {b : Bool} → Tells b P → ¬ P → b ≡ false
fails {P} {b} t n = go b refl
  where
    go : (c : Bool) → b ≡ c → b ≡ false
    go true e = absurd (n (t.yes e))
    go false e = e

-- two tests of one statement agree
pub tells_settled : {P : Type 0} (a b : Bool) → Tells a P → Tells b P → a ≡ b
tells_settled true b t u = sym (passes u (t.yes refl))
tells_settled false b t u = sym (fails u (t.no refl))

-- two tests that must both pass
pub both : {P Q : Type 0} (a b : Bool) → Tells a P → Tells b Q → Tells (a && b) (P × Q)
both true true p q = always (p.yes refl, q.yes refl)
both true false p q = never (λ r. q.no refl r.1)
both false b p q = never (λ r. p.no refl r.0)

-- two tests of which one must pass
pub either : {P Q : Type 0} (a b : Bool) → Tells a P → Tells b Q → Tells (a || b) (P ⊎ Q)
either true b p q = always (inl (p.yes refl))
either false true p q = always (inr (q.yes refl))
either {P} {Q} false false p q = never neither
  where
    neither : P ⊎ Q → ⊥
    neither (inl x) = p.no refl x
    neither (inr x) = q.no refl x

module _ (p : ℕ → Bool) (P : ℕ → Type 0) where
  -- each of m tests must pass
  pub tells_every : (m : ℕ) → ((i : ℕ) → i < m → Tells (p i) (P i)) → Tells (every m p) ((i : ℕ) → i < m → P i)
  tells_every zero h = always (λ i l. absurd (omega arith))
  tells_every (suc m) h =
      means to from (both (every m p) (p m) (tells_every m (λ i l. h i (omega arith))) (h m (omega arith)))
    where
      to : ((i : ℕ) → i < m → P i) × P m → (i : ℕ) → i < suc m → P i
      to (f, q) i l = at (ℕ_discrete i m)
        where
          at : Dec (i ≡ m) → P i
          at (yes e) = subst P (sym e) q
          at (no n) = f i (omega arith)

      from : ((i : ℕ) → i < suc m → P i) → ((i : ℕ) → i < m → P i) × P m
      from f = (λ i l. f i (omega arith), f m (omega arith))

  -- one of m tests must pass
  pub tells_some : (m : ℕ) → ((i : ℕ) → i < m → Tells (p i) (P i)) → Tells (some m p) ((i : ℕ) × (i < m) × P i)
  tells_some zero h = never (λ r. none r.1)
    where
      none : {i : ℕ} → i < 0 → ⊥
      none l = omega arith
  tells_some (suc m) h =
      means to from (either (some m p) (p m) (tells_some m (λ i l. h i (omega arith))) (h m (omega arith)))
    where
      to : ((i : ℕ) × (i < m) × P i) ⊎ P m → (i : ℕ) × (i < suc m) × P i
      to (inl (i, l, q)) = (i, omega arith, q)
      to (inr q) = (m, omega arith, q)

      from : (i : ℕ) × (i < suc m) × P i → ((i : ℕ) × (i < m) × P i) ⊎ P m
      from (i, l, q) = at (ℕ_discrete i m)
        where
          at : Dec (i ≡ m) → ((i : ℕ) × (i < m) × P i) ⊎ P m
          at (yes e) = inr (subst P e q)
          at (no n) = inl (i, omega arith, q)

-- the test m ≤ n
pub tells_leb : (m n : ℕ) → Tells (leb m n) (m ≤ n)
tells_leb m n = told (leb m n) (leb→le m n) (le→leb m n)

-- the test m ≡ n
pub tells_eqb : (m n : ℕ) → Tells (eqb m n) (m ≡ n)
tells_eqb m n = told (eqb m n) (eqb→eq m n) (λ e. subst (λ k. T (eqb m k)) e (eqb_refl m))

-- a test tells that it passes
pub itself : (b : Bool) → Tells b (b ≡ true)
itself b = record { yes = λ e. e; no = λ e q. clash (sym q ∙ e) }

-- ---- a loop that tests each number below m in turn
module _ (p : ℕ → Bool) where
  -- all passed so far, and so does one more
  pub every_more : (i : ℕ) → every i p ≡ true → p i ≡ true → every (i + 1) p ≡ true
  every_more i e q = rw (add-one i) (rw (e, q))

  -- one fails, so not all pass
  pub every_stop : (m i : ℕ) → i < m → p i ≡ false → every m p ≡ false
  every_stop m i l e = fails (tells_every p (λ k. p k ≡ true) m (λ k h. itself (p k))) (λ f. clash (sym (f i l) ∙ e))

  -- all passed to the end
  pub every_done : (m i : ℕ) → i ≡ m → every i p ≡ true → true ≡ every m p
  every_done m i e h = sym (subst (λ (k : ℕ). every k p ≡ true) e h)

  -- none passed to the end
  pub some_done : (m i : ℕ) → i ≡ m → some i p ≡ false → false ≡ some m p
  some_done m i e h = sym (subst (λ (k : ℕ). some k p ≡ false) e h)

  -- none passed so far, nor does one more
  pub some_more : (i : ℕ) → some i p ≡ false → p i ≡ false → some (i + 1) p ≡ false
  some_more i e q = rw (add-one i) (rw (e, q))

  -- one passes
  pub some_stop : (m i : ℕ) → i < m → p i ≡ true → some m p ≡ true
  some_stop m i l e = passes (tells_some p (λ k. p k ≡ true) m (λ k h. itself (p k))) (i, l, e)
