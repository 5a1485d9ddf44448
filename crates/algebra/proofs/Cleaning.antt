-- Cleaning in one pass: each vector in turn is dropped if the vectors that are left generate it.
use mathlib.Core.Path.{◌≡◌}
use mathlib.Core.Logic.{◌≢◌}
use Prim.Native.Nat.{ℕ, suc, ◌≤◌, ◌<◌}
use native.Mathlib.Omega.{arith}
use native.Mathlib.Decide.{ℕ_discrete}
use Rattle.numbers.specs.Places.{Vec}
use Rattle.algebra.proofs.Generation.{Span, span_self, span_trans}

-- the vectors of G whose index is in the set L
abbrev pub sel : (G : ℕ → Vec) (L : ℕ → Type 0) → ((i : ℕ) × L i) → Vec
sel G L i = G i.0

-- the set L without o
abbrev pub Without : (ℕ → Type 0) → ℕ → ℕ → Type 0
Without L o i = L i × (i ≢ o)

-- more vectors generate more
pub span_more : (d : ℕ) (G : ℕ → Vec) (L M : ℕ → Type 0) → ((i : ℕ) → L i → M i) → (X : Vec)
    → Span d (sel G L) X → Span d (sel G M) X
span_more d G L M h X s =
    span_trans d (sel G L) (sel G M) s (λ i. span_self d (sel G M) (i.0, h i.0 i.1))

-- a vector that the others of L generate can be dropped
pub drop : (d : ℕ) (G : ℕ → Vec) (L : ℕ → Type 0) (o : ℕ) → Span d (sel G (Without L o)) (G o) → (X : Vec)
    → Span d (sel G L) X → Span d (sel G (Without L o)) X
drop d G L o r X s = span_trans d (sel G L) (sel G (Without L o)) s (λ i. each i (ℕ_discrete i.0 o))
  where
    each : (i : (i : ℕ) × L i) → Dec (i.0 ≡ o) → Span d (sel G (Without L o)) (G i.0)
    each i (yes e) = rw e r
    each i (no n) = span_self d (sel G (Without L o)) (i.0, (i.1, n))

-- L is what is left of the first m vectors when the first t have been tried
pub record Cleaned (d m t : ℕ) (G : ℕ → Vec) (L : ℕ → Type 0) : Type 1 where
  pub part : (i : ℕ) → L i → i < m
  pub rest : (i : ℕ) → t ≤ i → i < m → L i
  pub whole : (X : Vec) → Span d (sel G (λ i. i < m)) X → Span d (sel G L) X
  pub alone : (i : ℕ) → i < t → L i → ¬ Span d (sel G (Without L i)) (G i)

-- at the start nothing has been tried
pub begin : (d m : ℕ) (G : ℕ → Vec) → Cleaned d m 0 G (λ i. i < m)
begin d m G = record {
  part = λ i h. h;
  rest = λ i a h. h;
  whole = λ X s. s;
  alone = λ i h. absurd (omega arith);
}

-- a vector that the others do not generate is kept
pub keep : (d m t : ℕ) (G : ℕ → Vec) (L : ℕ → Type 0) → Cleaned d m t G L → ¬ Span d (sel G (Without L t)) (G t)
    → Cleaned d m (suc t) G L
keep d m t G L c r = record {
  part = c.part;
  rest = λ i a h. c.rest i (omega arith) h;
  whole = c.whole;
  alone = λ i h l. go i h l (ℕ_discrete i t);
}
  where
    go : (i : ℕ) → i < suc t → L i → Dec (i ≡ t) → ¬ Span d (sel G (Without L i)) (G i)
    go i h l (yes e) = rw e r
    go i h l (no n) = c.alone i (omega arith) l

-- a vector that the others generate is removed
pub remove : (d m t : ℕ) (G : ℕ → Vec) (L : ℕ → Type 0) → Cleaned d m t G L → Span d (sel G (Without L t)) (G t)
    → Cleaned d m (suc t) G (Without L t)
remove d m t G L c r = record {
  part = λ i l. c.part i l.0;
  rest = λ i a h. (c.rest i (omega arith) h, λ e. absurd (omega arith));
  whole = λ X s. drop d G L t r X (c.whole X s);
  alone = λ i h l s. c.alone i (other i h l.1) l.0 (more i s);
}
  where
    other : (i : ℕ) → i < suc t → i ≢ t → i < t
    other i h n = omega arith

    more : (i : ℕ) → Span d (sel G (Without (Without L t) i)) (G i) → Span d (sel G (Without L i)) (G i)
    more i = span_more d G (Without (Without L t) i) (Without L i) (λ k q. (q.0.0, q.1)) (G i)
