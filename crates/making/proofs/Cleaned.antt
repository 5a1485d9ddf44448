-- The flags that cleaning leaves on are those of the cleaned vectors.
use mathlib.Core.Bool.{Bool, true, false, cond}
use mathlib.Core.List.{List}
use mathlib.Core.Logic.{◌↔◌, ◌≢◌}
use mathlib.Core.Path.{◌≡◌, refl, sym, ◌∙◌, subst}
use Prim.Native.Nat.{ℕ, zero, suc, ◌+◌, ◌<◌}
use native.Mathlib.Omega.{arith}
use lib.ListN.{length, get_or, set, replicate, length-set, length-replicate, get_or-replicate}
use lib.Seq.{get_or-set_same, get_or-set_other}
use Rattle.numbers.specs.Numbers.{−∞, IsFin, ◌≼◌, ◌▷◌}
use Rattle.numbers.specs.Places.{Vec}
use Rattle.numbers.proofs.Tells.{Tells, clash}
use Rattle.algebra.proofs.Generation.{Meets, Span, meets_fin}
use Rattle.algebra.proofs.Residuation.{Row, rows}
use Rattle.algebra.proofs.Cleaning.{sel, Without, span_more, Cleaned, begin, keep, remove}
use Rattle.sets.specs.Rules.{attained}
use Rattle.sets.specs.Falls.{masked}
use Rattle.sets.proofs.Membership.{tells_attained}
use Rattle.making.specs.Clean.{try_one, clean_from, clean_flags}

-- the flag of one of the first m vectors is on
abbrev pub On : ℕ → List Bool → ℕ → Type 0
On m flags i = (i < m) × (get_or flags i false ≡ true)

-- ---- the masked family is the family of the vectors whose flag is on
masked_on : (flags : List Bool) (G : ℕ → Vec) (i k : ℕ) → get_or flags i false ≡ true → masked flags G i k ≡ G i k
unfolding masked
masked_on flags G i k e = rw e

masked_off : (flags : List Bool) (G : ℕ → Vec) (i k : ℕ) → get_or flags i false ≡ false → masked flags G i k ≡ −∞
unfolding masked
masked_off flags G i k e = rw e

-- the masked family generates what the vectors whose flag is on generate
pub masked_span : (d m : ℕ) (G : ℕ → Vec) (flags : List Bool) (X : Vec)
    → Span d (rows m (masked flags G)) X ↔ Span d (sel G (On m flags)) X
masked_span d m G flags X =
    (λ s. record { at = λ j l f. to j f (s.at j l f) }, λ s. record { at = λ j l f. from j (s.at j l f) })
  where
    to : (j : ℕ) → IsFin (X j) → (i : Row m) × Meets d j (masked flags G i.0) X
        → (i : (i : ℕ) × On m flags i) × Meets d j (G i.0) X
    to j f ((i, l), p) = by (get_or flags i false) refl
      where
        by : (b : Bool) → get_or flags i false ≡ b → (i : (i : ℕ) × On m flags i) × Meets d j (G i.0) X
        by false e = absurd (subst IsFin (masked_off flags G i j e) (meets_fin p f))
        by true e = (
          (i, (l, e)),
          record {
            by = p.by;
            below = λ k h. subst (λ z. p.by ▷ z ≼ X k) (masked_on flags G i k e) (p.below k h);
            meets = subst (λ z. X j ≼ p.by ▷ z) (masked_on flags G i j e) p.meets;
          },
        )

    from : (j : ℕ) → (i : (i : ℕ) × On m flags i) × Meets d j (G i.0) X
        → (i : Row m) × Meets d j (masked flags G i.0) X
    from j ((i, (l, e)), p) = (
      (i, l),
      record {
        by = p.by;
        below = λ k h. subst (λ z. p.by ▷ z ≼ X k) (sym (masked_on flags G i k e)) (p.below k h);
        meets = subst (λ z. X j ≼ p.by ▷ z) (sym (masked_on flags G i j e)) p.meets;
      },
    )

-- ---- one vector tried
-- a flag put out
pub off_iff : (m : ℕ) (flags : List Bool) (o : ℕ) → o < length flags → (i : ℕ)
    → On m (set flags o false) i ↔ Without (On m flags) o i
off_iff m flags o b i = (to, λ r. (r.0.0, get_or-set_other flags o i false false r.1 ∙ r.0.1))
  where
    to : On m (set flags o false) i → Without (On m flags) o i
    to (l, e) = ((l, sym (get_or-set_other flags o i false false other) ∙ e), other)
      where
        other : i ≢ o
        other q = clash (sym (subst (λ k. get_or (set flags o false) k false ≡ true) q e)
            ∙ get_or-set_same flags o false false b)

-- only which vectors are left counts
pub cleaned_same : (d m t : ℕ) (G : ℕ → Vec) (L M : ℕ → Type 0) → ((i : ℕ) → L i ↔ M i)
    → Cleaned d m t G L → Cleaned d m t G M
cleaned_same d m t G L M e c = record {
  part = λ i x. c.part i ((e i).1 x);
  rest = λ i a h. (e i).0 (c.rest i a h);
  whole = λ X s. span_more d G L M (λ i. (e i).0) X (c.whole X s);
  alone = λ i h x s. c.alone i h ((e i).1 x)
      (span_more d G (Without M i) (Without L i) (λ k q. ((e k).1 q.0, q.1)) (G i) s);
}

module _ (d m : ℕ) (G : ℕ → Vec) where
  -- the flags after t vectors were tried: m flags, and those that are on are of the vectors left
  pub record Tried (t : ℕ) (flags : List Bool) : Type 1 where
    pub long : length flags ≡ m
    pub left : Cleaned d m t G (On m flags)

  -- at first all flags are on
  pub tried_none : Tried 0 (replicate m true)
  tried_none = record {
    long = length-replicate m true;
    left = cleaned_same d m 0 G (λ i. i < m) (On m (replicate m true))
        (λ i. (λ l. (l, get_or-replicate m i true false l), λ x. x.0)) (begin d m G);
  }

  -- one vector more
  pub tried_next : (t : ℕ) (flags : List Bool) → t < m → Tried t flags → Tried (suc t) (try_one d m G flags t)
  unfolding try_one
  tried_next t flags l c = go (attained d m (masked (set flags t false) G) (G t))
      (tells_attained d m (masked (set flags t false) G) (G t))
    where
      inside : t < length flags
      inside = omega (arith, c.long)

      Rest : Type 0
      Rest = Span d (sel G (Without (On m flags) t)) (G t)

      off : (i : ℕ) → On m (set flags t false) i ↔ Without (On m flags) t i
      off = off_iff m flags t inside

      others : Span d (rows m (masked (set flags t false) G)) (G t) ↔ Rest
      others = (
        λ s. span_more d G (On m (set flags t false)) (Without (On m flags) t) (λ i. (off i).0) (G t)
            ((masked_span d m G (set flags t false) (G t)).0 s),
        λ s. (masked_span d m G (set flags t false) (G t)).1
            (span_more d G (Without (On m flags) t) (On m (set flags t false)) (λ i. (off i).1) (G t) s),
      )

      go : (b : Bool) → Tells b (Span d (rows m (masked (set flags t false) G)) (G t))
          → Tried (suc t) (cond b (set flags t false) flags)
      go true h = record {
        long = length-set flags t false ∙ c.long;
        left = cleaned_same d m (suc t) G (Without (On m flags) t) (On m (set flags t false))
            (λ i. ((off i).1, (off i).0)) (remove d m t G (On m flags) c.left (others.0 (h.yes refl)));
      }
      go false h = record {
        long = c.long;
        left = keep d m t G (On m flags) c.left (λ s. h.no refl (others.1 s));
      }

  tried_from : (k t : ℕ) (flags : List Bool) → t + k ≡ m → Tried t flags → Tried m (clean_from d m G flags t k)
  unfolding clean_from
  tried_from zero t flags e c = subst (λ u. Tried u flags) (omega arith) c
  tried_from (suc k) t flags e c =
      tried_from k (suc t) (try_one d m G flags t) (omega arith) (tried_next t flags (omega arith) c)

  -- the flags that cleaning leaves on are those of the cleaned vectors
  pub flags_clean : Tried m (clean_flags d m G)
  unfolding clean_flags
  flags_clean = tried_from m 0 (replicate m true) (omega arith) tried_none
