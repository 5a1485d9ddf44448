-- Delay: all x + δ, whole δ ≥ 0, for x of a set. The family for it has each point copied among the rays.
use mathlib.Core.Path.{◌≡◌, refl, sym, ◌∙◌, ap, subst}
use mathlib.Core.Logic.{◌⊎◌, inl, inr, ◌↔◌}
use Prim.Native.Nat.{ℕ, zero, suc, ◌≤◌, ◌<◌}
use native.Mathlib.Omega.{arith}
use native.Mathlib.Decide.{dec_le}
use lib.IntN.{ℤ, pos, negsuc, neg_ℤ, ◌+ℤ◌}
use Rattle.numbers.specs.Integers.{◌⊑◌}
use Rattle.numbers.specs.Numbers.{−∞, fin, IsFin, ◌≼◌, ◌▷◌, nought}
use Rattle.numbers.specs.Places.{Vec}
use Rattle.numbers.proofs.IntegerLaws.{sum, neg, same}
use Rattle.numbers.proofs.NumberLaws.{low_≼, ≼_refl, ≼_trans, ≼_of_eq, dec_fin}
use Rattle.numbers.proofs.NumberLaws.{▷_mono, ▷_assoc, ▷_zero, ▷_fin, ▷_up, ▷_undo, ▷_redo}
use Rattle.algebra.proofs.Entries.{Same, replace, replace_same, replace_other, places}
use Rattle.algebra.proofs.Generation.{Meets, Span, span_same}
use Rattle.algebra.proofs.Rays.{Member}
use Rattle.algebra.proofs.Inclusion.{Kinds}

-- x + δ: every clock is shifted and the last entry stays
abbrev pub later : ℕ → ℤ → Vec → Vec
later n δ X = replace (λ j. δ ▷ X j) n (X n)

-- the last entry stays
pub later_last : (n : ℕ) (δ : ℤ) (X : Vec) → later n δ X n ≡ X n
later_last n δ X = replace_same (λ j. δ ▷ X j) n (X n)

-- each clock is shifted
pub later_clock : (n : ℕ) (δ : ℤ) (X : Vec) (k : ℕ) → k < n → later n δ X k ≡ δ ▷ X k
later_clock n δ X k l = replace_other (λ j. δ ▷ X j) n (X n) k (omega arith)

-- the indices of the delay's family: the old vectors, and a ray for each point
pub data Up {I : Type 0} (n : ℕ) (G : I → Vec) : Type 0 where
  old : I → Up n G
  ray : (i : I) → G i n ≡ nought → Up n G

-- the delay's family: a point is copied as a ray by −∞ at its end
abbrev pub up : {I : Type 0} (n : ℕ) (G : I → Vec) → Up n G → Vec
up n G (old i) = G i
up n G (ray i e) = replace (G i) n −∞

-- ---- a member, later, is generated
module _ {I : Type 0} (n : ℕ) (G : I → Vec) (kind : Kinds n G) (X : Vec) (s : Span (suc n) G X) (δ : ℕ) where
  into : Span (suc n) (up n G) (later n (pos δ) X)
  into = record { at = places n (λ j. IsFin (Y j) → Found j) at_last at_clock }
    where
      Y : Vec
      Y = later n (pos δ) X

      Found : ℕ → Type 0
      Found j = (i : Up n G) × Meets (suc n) j (up n G i) Y

      yn : Y n ≡ X n
      yn = later_last n (pos δ) X

      yk : (k : ℕ) → k < n → Y k ≡ pos δ ▷ X k
      yk = later_clock n (pos δ) X

      rise : (k : ℕ) → k < n → X k ≼ Y k
      rise k l = rw (yk k l) (▷_up {c = pos δ} (omega arith) (X k))

      at_last : IsFin (Y n) → Found n
      at_last f = let (i, p) = s.at n (omega arith) (rw yn at f) in (old i, still i p)
        where
          still : (i : I) → Meets (suc n) n (G i) X → Meets (suc n) n (G i) Y
          still i p = record {
            by = p.by;
            below = places n (λ k. p.by ▷ G i k ≼ Y k) (rw yn (p.below n (omega arith)))
                (λ k l. ≼_trans (p.below k (omega arith)) (rise k l));
            meets = rw yn p.meets;
          }

      -- h is g with −∞ at its end
      shift : (j : ℕ) → j < n → (g h : Vec) → h n ≡ −∞ → Same n h g → Meets (suc n) j g X → Meets (suc n) j h Y
      shift j l g h e q p = record {
        by = pos δ +ℤ p.by;
        below = places n (λ k. (pos δ +ℤ p.by) ▷ h k ≼ Y k) (rw e low_≼)
            (λ k m. rw (yk k m, q k m, ▷_assoc (pos δ) p.by (g k)) (▷_mono (pos δ) (p.below k (omega arith))));
        meets = rw (yk j l, q j l, ▷_assoc (pos δ) p.by (g j)) (▷_mono (pos δ) p.meets);
      }

      at_clock : (j : ℕ) → j < n → IsFin (Y j) → Found j
      at_clock j l f =
          let (i, p) = s.at j (omega arith) (▷_fin (pos δ) (X j) (rw (yk j l) at f)) in
          go i p (kind i)
        where
          go : (i : I) → Meets (suc n) j (G i) X → (G i n ≡ nought) ⊎ (G i n ≡ −∞) → Found j
          go i p (inl e) = (
            ray i e,
            shift j l (G i) (replace (G i) n −∞) (replace_same (G i) n −∞)
                (λ k m. replace_other (G i) n −∞ k (omega arith)) p,
          )
          go i p (inr e) = (old i, shift j l (G i) (G i) e (λ k m. refl) p)

-- ---- the other way: the delay is the largest scalar, at least 0, that a copied point needs

-- clock j of Y is met by a vector that can still be used after going back by δ
record Good {I : Type 0} (n : ℕ) (G : I → Vec) (Y : Vec) (δ j : ℕ) : Type 0 where
  pub i : I
  pub c : ℤ
  pub below : (k : ℕ) → k < n → c ▷ G i k ≼ Y k
  pub meets : Y j ≼ c ▷ G i j
  pub last : c ▷ G i n ≼ fin (pos δ)

-- some point, moved by δ, lies below Y
record Top {I : Type 0} (n : ℕ) (G : I → Vec) (Y : Vec) (δ : ℕ) : Type 0 where
  pub i : I
  pub point : G i n ≡ nought
  pub below : (k : ℕ) → k < n → pos δ ▷ G i k ≼ Y k

-- going back by δ is needed, and enough for the first m clocks
record Enough {I : Type 0} (n : ℕ) (G : I → Vec) (Y : Vec) (m δ : ℕ) : Type 0 where
  pub good : (j : ℕ) → j < m → IsFin (Y j) → Good n G Y δ j
  pub needed : (δ ≡ 0) ⊎ Top n G Y δ

-- Y with its clocks moved back by δ
abbrev earlier : ℕ → ℕ → Vec → Vec
earlier n δ Y = replace (λ j. neg_ℤ (pos δ) ▷ Y j) n nought

module _ {I : Type 0} (n : ℕ) (G : I → Vec) (Y : Vec) where
  weaken : {δ j : ℕ} (e : ℕ) → δ ≤ e → Good n G Y δ j → Good n G Y e j
  weaken {δ} {j} e h g = record {
    i = g.i;
    c = g.c;
    below = g.below;
    meets = g.meets;
    last = ≼_trans g.last (le δ e h);
  }
    where
      le : (a b : ℕ) → a ≤ b → fin (pos a) ≼ fin (pos b)
      le a b h = omega arith

  module _ (y0 : Y n ≡ nought) (s : Span (suc n) (up n G) Y) where
    -- what one clock needs
    Need : ℕ → Type 0
    Need j = (δ : ℕ) × Good n G Y δ j × ((δ ≡ 0) ⊎ Top n G Y δ)

    clock : (j : ℕ) → j < n → IsFin (Y j) → Need j
    unfolding Need
    clock j l f = let (u, p) = s.at j (omega arith) f in go u p
      where
        copied : (i : I) → G i n ≡ nought → (c : ℤ) → ((k : ℕ) → k < n → c ▷ G i k ≼ Y k) → Y j ≼ c ▷ G i j → Need j
        copied i e (pos m) b t = (
          m,
          record { i = i; c = pos m; below = b; meets = t; last = rw e (omega (arith, sum (pos m) (pos 0))) },
          inr (record { i = i; point = e; below = b }),
        )
        copied i e (negsuc m) b t = (
          0,
          record { i = i; c = negsuc m; below = b; meets = t; last = rw e (omega (arith, sum (negsuc m) (pos 0))) },
          inl refl,
        )

        go : (u : Up n G) → Meets (suc n) j (up n G u) Y → Need j
        go (old i) p = (
          0,
          record {
            i = i;
            c = p.by;
            below = λ k m. p.below k (omega arith);
            meets = p.meets;
            last = ≼_trans (p.below n (omega arith)) (≼_of_eq y0);
          },
          inl refl,
        )
        go (ray i e) p = copied i e p.by
            (λ k m. subst (λ z. p.by ▷ z ≼ Y k) (stays k m) (p.below k (omega arith)))
            (subst (λ z. Y j ≼ p.by ▷ z) (stays j l) p.meets)
          where
            stays : (k : ℕ) → k < n → replace (G i) n −∞ k ≡ G i k
            stays k m = replace_other (G i) n −∞ k (omega arith)

    enough : (m : ℕ) → m ≤ n → (δ : ℕ) × Enough n G Y m δ
    unfolding Need
    enough zero l = (0, record { good = λ j h. absurd (omega arith); needed = inl refl })
    enough (suc m) l = go (enough m (omega arith)) (dec_fin (Y m))
      where
        more : (δ : ℕ) → ((j : ℕ) → j < m → IsFin (Y j) → Good n G Y δ j) → (IsFin (Y m) → Good n G Y δ m)
            → (δ ≡ 0) ⊎ Top n G Y δ → Enough n G Y (suc m) δ
        more δ a b t = record { good = places m (λ j. IsFin (Y j) → Good n G Y δ j) b a; needed = t }

        two : (δ : ℕ) → Enough n G Y m δ → (r : Need m) → Dec (δ ≤ r.0) → (δ : ℕ) × Enough n G Y (suc m) δ
        two δ q (e, g, u) (yes h) = (e, more e (λ j jl f. weaken e h (q.good j jl f)) (λ f. g) u)
        two δ q (e, g, u) (no h) = (δ, more δ q.good (λ f. weaken δ (omega arith) g) q.needed)

        go : (δ : ℕ) × Enough n G Y m δ → Dec (IsFin (Y m)) → (δ : ℕ) × Enough n G Y (suc m) δ
        go (δ, q) (no f) = (δ, more δ q.good (λ g. absurd (f g)) q.needed)
        go (δ, q) (yes f) = let r = clock m (omega arith) f in two δ q r (dec_le δ r.0)

    module _ (δ : ℕ) where
      back : ℤ
      back = neg_ℤ (pos δ)

      xn : earlier n δ Y n ≡ nought
      xn = replace_same (λ j. neg_ℤ (pos δ) ▷ Y j) n nought

      xk : (k : ℕ) → k < n → earlier n δ Y k ≡ back ▷ Y k
      unfolding back
      xk k l = replace_other (λ j. neg_ℤ (pos δ) ▷ Y j) n nought k (omega arith)

      at_last : (δ ≡ 0) ⊎ Top n G Y δ → (i : I) × Meets (suc n) n (G i) (earlier n δ Y)
      unfolding back
      at_last (inr t) = (
        t.i,
        record {
          by = pos 0;
          below = places n (λ k. pos 0 ▷ G t.i k ≼ earlier n δ Y k) end clocks;
          meets = rw (t.point, xn) (≼_refl nought);
        },
      )
        where
          end : pos 0 ▷ G t.i n ≼ earlier n δ Y n
          end = rw (t.point, xn) (≼_refl nought)

          clocks : (k : ℕ) → k < n → pos 0 ▷ G t.i k ≼ earlier n δ Y k
          clocks k l = rw (xk k l, ▷_zero (G t.i k))
              (subst (λ z. z ≼ back ▷ Y k) (▷_undo (pos δ) (G t.i k)) (▷_mono back (t.below k l)))
      at_last (inl e) = let (u, p) = s.at n (omega arith) (rw y0 tt) in go u p
        where
          zero_back : (δ : ℕ) → δ ≡ 0 → pos 0 ⊑ neg_ℤ (pos δ)
          zero_back δ e = omega (arith, neg (pos δ))

          go : (u : Up n G) → Meets (suc n) n (up n G u) Y → (i : I) × Meets (suc n) n (G i) (earlier n δ Y)
          go (old i) p = (
            i,
            record {
              by = p.by;
              below = places n (λ k. p.by ▷ G i k ≼ earlier n δ Y k) (rw xn (rw y0 at (p.below n (omega arith))))
                  (λ k l. rw (xk k l) (≼_trans (p.below k (omega arith)) (▷_up (zero_back δ e) (Y k))));
              meets = rw xn (rw y0 at p.meets);
            },
          )
          go (ray i q) p = absurd (none p.by (rw (y0, replace_same (G i) n −∞) at p.meets))
            where
              none : (c : ℤ) → nought ≼ c ▷ −∞ → ⊥
              none c h = h.le

      at_clock : ((j : ℕ) → j < n → IsFin (Y j) → Good n G Y δ j) → (j : ℕ) → j < n → IsFin (earlier n δ Y j)
          → (i : I) × Meets (suc n) j (G i) (earlier n δ Y)
      unfolding back
      at_clock a j l f = let g = a j l (▷_fin back (Y j) (rw (xk j l) at f)) in (g.i, met g)
        where
          zz : back ▷ fin (pos δ) ≡ nought
          zz = ap fin (same (back +ℤ pos δ) (pos 0) (omega (arith, sum back (pos δ), neg (pos δ))))

          met : (g : Good n G Y δ j) → Meets (suc n) j (G g.i) (earlier n δ Y)
          met g = record {
            by = back +ℤ g.c;
            below = places n (λ k. (back +ℤ g.c) ▷ G g.i k ≼ earlier n δ Y k)
                (rw (xn, ▷_assoc back g.c (G g.i n)) (≼_trans (▷_mono back g.last) (≼_of_eq zz)))
                (λ k m. rw (xk k m, ▷_assoc back g.c (G g.i k)) (▷_mono back (g.below k m)));
            meets = rw (xk j l, ▷_assoc back g.c (G g.i j)) (▷_mono back g.meets);
          }

      same_later : Same (suc n) Y (later n (pos δ) (earlier n δ Y))
      unfolding back
      same_later = places n (λ k. Y k ≡ later n (pos δ) (earlier n δ Y) k)
          (y0 ∙ sym (later_last n (pos δ) (earlier n δ Y) ∙ xn))
          (λ k l. sym (later_clock n (pos δ) (earlier n δ Y) k l ∙ ap (λ z. pos δ ▷ z) (xk k l) ∙ ▷_redo (pos δ) (Y k)))

    out : (δ : ℕ) × ((X : Vec) × Member n G X × Same (suc n) Y (later n (pos δ) X))
    out = let (δ, q) = enough n (omega arith) in (δ, (earlier n δ Y, (xn δ, whole δ q), same_later δ))
      where
        whole : (δ : ℕ) → Enough n G Y n δ → Span (suc n) G (earlier n δ Y)
        whole δ q = record {
          at = places n (λ j. IsFin (earlier n δ Y j) → (i : I) × Meets (suc n) j (G i) (earlier n δ Y))
              (λ f. at_last δ q.needed) (at_clock δ q.good);
        }

-- the delay's family has exactly the vectors of the set, each moved by some δ ≥ 0
pub delay : {I : Type 0} (n : ℕ) (G : I → Vec) → Kinds n G → (Y : Vec)
    → Member n (up n G) Y ↔ ((δ : ℕ) × ((X : Vec) × Member n G X × Same (suc n) Y (later n (pos δ) X)))
delay n G kind Y = (λ r. out n G Y r.0 r.1, in_set)
  where
    in_set : (δ : ℕ) × ((X : Vec) × Member n G X × Same (suc n) Y (later n (pos δ) X)) → Member n (up n G) Y
    in_set (δ, (X, r, e)) = (
      e n (omega arith) ∙ (later_last n (pos δ) X ∙ r.0),
      span_same (suc n) (up n G) e (into n G kind X r.1 δ),
    )
