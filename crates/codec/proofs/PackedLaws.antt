-- Arrays whose rest is blank, checked place by place.
use mathlib.Core.List.{List, [], ◌∷◌, ◌++◌}
use mathlib.Core.Bool.{Bool, true, false}
use mathlib.Core.Path.{◌≡◌, refl, sym, ap, ◌∙◌, subst}
use Prim.Native.Nat.{ℕ, zero, suc, ◌+◌, ◌-◌, ◌≤◌, ◌<◌}
use native.Mathlib.Omega.{arith}
use lib.ListN.{length, get_or, take, drop, replicate, length-drop, length-replicate, get_or-replicate}
use lib.Seq.{get_or-take, get_or-drop, ext_get_or, length-take-le}
use denote.Param.Members.{Shared}
use denote.Ref.{Bor}
use Rattle.std.specs.Bool.{MatchBool}
use Rattle.std.specs.Fn.{FnReturnsAt}
use Rattle.std.specs.List.{AllWithin, HoldsAt}
use Rattle.numbers.proofs.Tells.{Tells, clash}
use Rattle.codec.specs.Arrays.{All, Packed, Placed}

-- what all items have, and one behind them, all have then
pub all_behind : {A : Type 0} (P : A → Type 0) (xs : List A) {x : A} → All P xs → P x → All P (xs ++ (x ∷ []))
all_behind P [] h p = (p, tt)
all_behind P (y ∷ xs) (q, h) p = (q, all_behind P xs h p)

module _ {A : Type 0} (P : A → Type 0) (d : A) where
  -- by place, and of all
  pub all_of : (xs : List A) → ((i : ℕ) → i < length xs → P (get_or xs i d)) → All P xs
  all_of [] h = tt
  all_of (x ∷ xs) h = (h 0 (omega arith), all_of xs (λ i l. h (suc i) (omega arith)))

  -- each item of a list has what all have
  pub one_of : (xs : List A) → All P xs → (i : ℕ) → i < length xs → P (get_or xs i d)
  one_of [] a i l = absurd (omega arith)
  one_of (x ∷ xs) (p, a) zero l = p
  one_of (x ∷ xs) (p, a) (suc i) l = one_of xs a i (omega arith)

-- each place of a packed array is as it should be
pub check_each : {A : Type 0} {P : A → Type 0} {blank : A} {size n : ℕ} {xs : List A} (d : A)
    → Packed P blank size n xs → (i : ℕ) → i < size → Placed P blank n i (get_or xs i d)
check_each {A} {P} {blank} {size} {n} {xs} d w i l =
    let long : length (take n xs) ≡ n = length-take-le n xs (omega (arith, w.few, w.long)) in
    record {
      used = λ h. subst P (get_or-take n xs i d h) (one_of P d (take n xs) w.used i (omega (arith, long)));
      unused =
          λ h.
          let at : n + (i - n) ≡ i = omega arith in
          sym (ap (λ (k : ℕ). get_or xs k d) at) ∙ sym (get_or-drop n xs (i - n) d)
          ∙ ap (λ (ys : List A). get_or ys (i - n) d) w.unused ∙ get_or-replicate (size - n) (i - n) blank d
          (omega arith);
    }

-- a test that no item fails passes
pub unfailed : {A : Type 0} (Yes No : A → Type 0) (d : A) (ys : List A) (r : Bool)
    → MatchBool r (AllWithin Yes ys 0 (length ys)) ((k : ℕ) × (k < length ys) × HoldsAt No ys k)
    → ((k : ℕ) → k < length ys → No (get_or ys k d) → ⊥) → r ≡ true
unfailed Yes No d ys true m h = refl
unfailed Yes No d ys false (k, l, n) h = absurd (h k l (n d))

-- ---- the first n items, and then the rest, each asked in turn
module _ {A : Type 0} {P : A → Type 0} {blank : A} {n : ℕ} {xs : List A} where
  -- each of the first n has P, and each behind them is blank
  pub packed_by : n ≤ length xs → ((k : ℕ) (d : A) → k < length (take n xs) → P (get_or (take n xs) k d))
      → ((k : ℕ) (d : A) → k < length (drop n xs) → get_or (drop n xs) k d ≡ blank) → Packed P blank (length xs) n xs
  packed_by f used unused =
      let rest : length (drop n xs) ≡ length xs - n = length-drop n xs in
      record {
        few = f;
        long = refl;
        used = all_of P blank (take n xs) (λ k l. used k blank l);
        unused =
            ext_get_or blank (drop n xs) (replicate (length xs - n) blank)
            (rest ∙ sym (length-replicate (length xs - n) blank))
            (λ k l. unused k blank l ∙ sym (get_or-replicate (length xs - n) k blank blank (omega (arith, rest))));
      }

  module _ {size : ℕ} (w : Packed P blank size n xs) {k : ℕ} where
    -- one of the first n has P
    pub packed_used : (d : A) → k < length (take n xs) → P (get_or (take n xs) k d)
    packed_used d l = one_of P d (take n xs) w.used k l

    -- one behind them is blank
    pub packed_unused : (d : A) → k < length (drop n xs) → get_or (drop n xs) k d ≡ blank
    packed_unused d l =
        let rest : length (drop n xs) ≡ length xs - n = length-drop n xs in
        ap (λ (ys : List A). get_or ys k d) w.unused
        ∙ get_or-replicate (size - n) k blank d (omega (arith, rest, w.long))

-- what all have, they have for another reason
all_like : {A : Type 0} {P Q : A → Type 0} → ((x : A) → P x → Q x) → (xs : List A) → All P xs → All Q xs
all_like h [] a = tt
all_like h (x ∷ xs) (p, a) = (h x p, all_like h xs a)

packed_like : {A : Type 0} {P Q : A → Type 0} {blank : A} {size n : ℕ} {xs : List A} → ((x : A) → P x → Q x)
    → Packed P blank size n xs → Packed Q blank size n xs
packed_like {n = n} {xs = xs} h w =
    record { few = w.few; long = w.long; used = all_like h (take n xs) w.used; unused = w.unused }

-- what `packed` tells, where each answer to its questions tells P
pub packed_tells : {A F : Type 0} {g : Shared F (Bor A × Unit {0}) Bool} {f : F} {P : A → Type 0} {blank : A}
    {size n : ℕ} {xs : List A} {d : A} {r : Bool} → length xs ≡ size → d ≡ blank
    → (r ≡ true → Packed (λ x. FnReturnsAt g f x true) d (length xs) n xs)
    → (Packed (λ x. FnReturnsAt g f x false → ⊥) d (length xs) n xs → r ≡ true)
    → ((x : Bor A) (b : Bool) → g.post f (x, tt) b → Tells b (P x.now)) → Tells r (Packed P blank size n xs)
packed_tells {A} {F} {g} {f} {P} {blank} {size} {n} {xs} {d} {r} long is all none tells =
    subst (λ (k : ℕ). Tells r (Packed P blank k n xs)) long
    (subst (λ (e : A). Tells r (Packed P e (length xs) n xs)) is
    (record {
      yes = λ e. packed_like (λ x p. (says x true p).yes refl) (all e);
      no = λ e w. clash (sym (none (packed_like (λ x p q. (says x false q).no refl p) w)) ∙ e);
    }))
  where
    says : (x : A) (b : Bool) → FnReturnsAt g f x b → Tells b (P x)
    says x b p = subst (λ (y : A). Tells b (P y)) p.shows (tells p.shown b p.says.met)
