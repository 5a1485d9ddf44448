-- Items that a reader gives one behind the other.
use mathlib.Core.List.{List, [], ◌∷◌, ◌++◌, map}
use mathlib.Core.Path.{◌≡◌, refl, sym, ap, ◌∙◌}
use Prim.Native.Nat.{ℕ, ◌+◌, ◌≤◌, ◌<◌}
use lib.ListN.{length, set, take, drop}
use lib.Seq.{take_all}
use Rattle.std.proofs.lemmas.List.{take-append-drop, take-set, drop-set, take_more_set, map-id}
use Rattle.std.specs.Prelude.{Result, Ok, Err}
use Rattle.std.specs.Borrow.{Bor}
use Rattle.numbers.specs.Refusals.{refusal_number}
use Rattle.numbers.specs.declared.Refusal.{Refusal}
use Rattle.codec.specs.Number.{Got, got, refused}
use Rattle.codec.specs.Form.{Form, read_in, many}
use Rattle.codec.specs.Answers.{Reading, ReadsBy, ReadsAs, Each, none, next, stop}
use Rattle.codec.proofs.ArrayLaws.{behind, many_next, many_stop}

-- items and what stands behind them, or the refusal's number
abbrev pub got_each : {A : Type 0} → List A → Result (List ℕ) Refusal → Got (List A)
got_each xs (Ok rest) = got xs rest
got_each xs (Err e) = refused (refusal_number e)

module _ {T : Type 0} {post : Bor (List ℕ) → Reading T → Type 0} where
  -- one item more
  each_more : {s : List ℕ} {t u : Bor (List ℕ)} {x : T} {xs : List T} → Each post s xs (Ok t.now)
      → post t (Ok (x, u)) → Each post s (xs ++ (x ∷ [])) (Ok u.now)
  each_more {s} {t} {u} {x} w p = by w refl
    where
      by : {s b : List ℕ} {xs : List T} → Each post s xs (Ok b) → b ≡ t.now → Each post s (xs ++ (x ∷ [])) (Ok u.now)
      by none e = rw e (next p none)
      by (next q v) e = next q (by v e)

  -- an item is refused
  each_stop : {s : List ℕ} {t : Bor (List ℕ)} {xs : List T} {e : Refusal} (x : T) (ys : List T) → Each post s xs (Ok t.now)
      → post t (Err e) → Each post s (xs ++ (x ∷ ys)) (Err e)
  each_stop {s} {t} {e = e} x ys w p = by w refl
    where
      by : {s b : List ℕ} {xs : List T} → Each post s xs (Ok b) → b ≡ t.now → Each post s (xs ++ (x ∷ ys)) (Err e)
      by none e = rw e (stop p)
      by (next q v) e = next q (by v e)

  -- the same in the list into which they are read
  module _ (xs : List T) (i : ℕ) {s : List ℕ} {t : Bor (List ℕ)} (w : Each post s (take i xs) (Ok t.now))
      (l : i < length xs) where
    pub each_step : {x : T} {u : Bor (List ℕ)} → post t (Ok (x, u)) → Each post s (take (i + 1) (set xs i x)) (Ok u.now)
    each_step {x} p = rw (take_more_set xs i x l) (each_more w p)

    pub each_ends : (y : T) {e : Refusal} → post t (Err e) → Each post s (set xs i y) (Err e)
    each_ends y p =
        let all : set xs i y ≡ take i xs ++ (y ∷ drop (i + 1) xs) =
        sym (take-append-drop i (set xs i y)) ∙ ap (λ (ys : List T). ys ++ drop i (set xs i y)) (take-set xs i y)
        ∙ ap (◌++◌ (take i xs)) (drop-set xs i y l) in
        rw all (each_stop y (drop (i + 1) xs) w p)

  -- all of them
  pub each_done : (xs : List T) (i : ℕ) {s : List ℕ} {r : Result (List ℕ) Refusal} → Each post s (take i xs) r
      → length xs ≤ i → Each post s xs r
  each_done xs i w h = rw (take_all i xs h) at w

  -- what they stand for is read by a form
  pub each_reads : {A : Type 0} (F : Form A) (f : T → A)
      → ((s : Bor (List ℕ)) (r : Reading T) → post s r → ReadsAs f F s.now r)
      → {s : List ℕ} {xs : List T} {r : Result (List ℕ) Refusal} {n : ℕ} → Each post s xs r → length xs ≡ n
      → got_each (map f xs) r ≡ read_in (many n F) s
  unfolding many read_in
  each_reads {A} F f by {s} {xs} w e = all w ∙ ap (λ (n : ℕ). read_in (many n F) s) e
    where
      onto : (r : Result (List ℕ) Refusal) (ys : List A) (a : A)
          → got_each (a ∷ ys) r ≡ behind (a ∷ []) (got_each ys r)
      onto (Ok t) ys a = refl
      onto (Err e) ys a = refl

      all : {s : List ℕ} {xs : List T} {r : Result (List ℕ) Refusal} → Each post s xs r
          → got_each (map f xs) r ≡ read_in (many (length xs) F) s
      all none = refl
      all {r = r} (next {s = s} {x = x} {xs = xs} p w) =
          onto r (map f xs) (f x) ∙ ap (behind (f x ∷ [])) (all w) ∙ sym (many_next F (length xs) s.now (by _ _ p))
      all (stop {s = s} {xs = xs} p) = sym (many_stop F (length xs) s.now (by _ _ p))

  -- they are read by a form themselves
  pub each_read : (F : Form T) → ReadsBy F post → {s : List ℕ} {xs : List T} {r : Result (List ℕ) Refusal} {n : ℕ}
      → Each post s xs r → length xs ≡ n → got_each xs r ≡ read_in (many n F) s
  each_read F by {xs = xs} {r = r} w e =
      ap (λ (ys : List T). got_each ys r) (sym (map-id xs)) ∙ each_reads F (λ x. x) same w e
    where
      same : (s : Bor (List ℕ)) (r : Reading T) → post s r → ReadsAs (λ x. x) F s.now r
      same s (Ok x) p = by _ _ p
      same s (Err e) p = by _ _ p

  -- what holds of each item, as an equation
  pub each_same : (f g : T → ℕ)
      → ((s t : Bor (List ℕ)) (x : T) → post s (Ok (x, t)) → f x ≡ g x)
      → {s t : List ℕ} {xs : List T} → Each post s xs (Ok t) → map f xs ≡ map g xs
  each_same f g by none = refl
  each_same f g by (next {x = x} {xs = xs} p w) =
      ap (λ (a : ℕ). a ∷ map f xs) (by _ _ _ p) ∙ ap (λ (ys : List ℕ). g x ∷ ys) (each_same f g by w)
