-- Chains that test the items of a list in turn: what `all` and `any` answer.
use Rattle.std.proofs.Common.{Option, None, Some, Iter}
use mathlib.Core.Bool.{Bool, true, false}
use mathlib.Core.List.{List, [], ◌∷◌}
use mathlib.Core.Path.{◌≡◌, refl, sym, ◌∙◌, ap, subst}
use Prim.Native.Nat.{ℕ, ◌+◌, ◌*◌, ◌/◌, ◌≤◌, ◌<◌}
use native.Mathlib.Nat.{le-div_iff_mul-le}
use native.Mathlib.Omega.{arith}
use lib.ListN.{length, take, drop, get_or}
use lib.Seq.{get_or-take, length-take-le}
use denote.Param.Members.{Mut, Called}
use denote.Ref.{Bor}
use Rattle.std.specs.Prelude.{MatchBool, IsTrue, IsSomeAnd, IfSome}
use Rattle.std.specs.Option.{option_map}
use Rattle.std.specs.Iterator.{CallableAtEachTurn, Yields}
use Rattle.std.specs.Iterator.Adapters.{IterYieldsInOrder}
use Rattle.std.specs.Iterator.Runs.{Run, SomeRun, EveryRun, AllItemsGive, AnyItemGives, CallKeepsClosure}
use Rattle.std.specs.Iterator.Runs.{ItemsMapTo, IsChunksExactRun}
use Rattle.std.specs.List.{HoldsAt, IsSubsliceAt, FoldsTo}
use Rattle.std.specs.Slice.Iter.{iter_steps, iter_rest, chunks_exact_steps, chunks_exact_rest, chunks_exact_size}
use Rattle.numbers.specs.Tests.{every, some}
use Rattle.numbers.proofs.Tells.{passes, fails, tells_every, tells_some, itself, every_stop, some_stop, clash}

-- a chain from s has m items, which v takes to those that `list` has
pub record Chain {S A B : Type 0} (steps : S → Option A → S → Type 0) (s : S) (v : A → B) (m : ℕ) (list : ℕ → B) : Type 0 where
  pub few : (p : Run steps) → p.from ≡ s → p.len ≤ m
  pub whole : (p : Run steps) → p.from ≡ s → p.whole ≡ true → p.len ≡ m
  pub item : (p : Run steps) → p.from ≡ s → (k : ℕ) (x : A) → k < m → p.at k ≡ Some x → v x ≡ list k

module _ {S A : Type 0} {steps : S → Option A → S → Type 0} (p : Run steps) where
  -- an item stands at each place of a run
  at_place : (k : ℕ) → k < p.len → (x : A) × (p.at k ≡ Some x)
  at_place k l = go p.items p.long (p.at k) refl
    where
      some_of : (o : Option A) (y : A) → option_map (λ z. z) o ≡ Some y → (x : A) × (o ≡ Some x)
      some_of None y e = absurd (cc)
      some_of (Some x) y e = (x, refl)

      go : (xs : List A) → p.len ≡ length xs → (o : Option A) → p.at k ≡ o → (x : A) × (p.at k ≡ Some x)
      go [] e o q = absurd (omega arith)
      go (d ∷ xs) e o q = some_of (p.at k) _ (p.reads k d l)

module _ {S A B F : Type 0} {steps : S → Option A → S → Type 0} {s : S} {v : A → B} {m : ℕ} {list : ℕ → B}
    (h : Chain steps s v m list) (test : B → Bool) {g : Mut F (A × Unit {0}) Bool} {f : F}
    (keeps : CallKeepsClosure g f) (tests : (x : A) (b : Bool) → Called g f (x, tt) b f → b ≡ test (v x)) where
  -- the closure's answer at an item is that of the test
  at_item : (b : Bool) (p : Run steps) → p.from ≡ s → (k : ℕ) (x : A) → k < m → p.at k ≡ Some x
      → Called g f (x, tt) b f → test (list k) ≡ b
  at_item b p e k x l q c = ap test (sym (h.item p e k x l q)) ∙ sym (tests x b c)

  -- it answered so at each
  at_each : (b : Bool) (p : Run steps) → p.from ≡ s → p.whole ≡ true → AllItemsGive p g f b
      → (k : ℕ) → k < m → test (list k) ≡ b
  at_each b p e w a k l = let x = at_place p k (omega (arith, h.whole p e w)) in go (p.at k) refl (a keeps k) x.0 x.1
    where
      go : (o : Option A) → p.at k ≡ o → IfSome o (λ x. Called g f (x, tt) b f) → (x : A) → o ≡ Some x
          → test (list k) ≡ b
      go None q c x i = absurd (cc)
      go (Some y) q c x i = at_item b p e k y l q c

  -- or at one
  at_some : (b : Bool) (p : Run steps) → p.from ≡ s → AnyItemGives p g f b
      → (k : ℕ) × (k < m) × (test (list k) ≡ b)
  at_some b p e a =
      let r = a keeps in
      let l : r.0 < m = omega (arith, r.1, h.few p e) in
      (r.0, l, go r.0 l (p.at r.0) refl r.2)
    where
      go : (k : ℕ) → k < m → (o : Option A) → p.at k ≡ o → IsSomeAnd o (λ x. Called g f (x, tt) b f)
          → test (list k) ≡ b
      go k l None q c = elim c [ ]
      go k l (Some y) q c = at_item b p e k y l q c

  -- what `all` answers
  pub all_by : (r : Bool)
      → SomeRun steps s (λ p. MatchBool r (IsTrue p.whole × AllItemsGive p g f true) (AnyItemGives p g f false))
      → r ≡ every m (λ k. test (list k))
  all_by true (p, e, (w, a)) =
      sym (passes (tells_every _ (λ k. test (list k) ≡ true) m (λ k l. itself _)) (at_each true p e w a))
  all_by false (p, e, a) = let r = at_some false p e a in sym (every_stop _ m r.0 r.1 r.2)

  -- what `any` answers
  pub any_by : (r : Bool)
      → SomeRun steps s (λ p. MatchBool r (AnyItemGives p g f true) (IsTrue p.whole × AllItemsGive p g f false))
      → r ≡ some m (λ k. test (list k))
  any_by true (p, e, a) = let r = at_some true p e a in sym (some_stop _ m r.0 r.1 r.2)
  any_by false (p, e, (w, a)) =
      sym (fails (tells_some _ (λ k. test (list k) ≡ true) m (λ k l. itself _))
      (λ r. clash (sym r.2 ∙ at_each false p e w a r.0 r.1)))

-- the first n items of a list
pub firsts : {A : Type 0} {s : Iter A} (xs : List A) (d : A) (n : ℕ) → n ≤ length xs → iter_rest s ≡ take n xs
    → IterYieldsInOrder A → Chain (iter_steps {A = A}) s (λ x. x.now) n (λ k. get_or xs k d)
firsts {A} {s} xs d n h r yields = record {
  few = λ p e. omega (arith, (run p e).0, long);
  whole = λ p e w. (run p e).1 w ∙ long;
  item = λ p e k x l q. place k l (p.at k) x q ((run p e).3 k);
}
  where
    long : length (take n xs) ≡ n
    long = length-take-le n xs h

    run : (p : Run (iter_steps {A = A})) → p.from ≡ s → ItemsMapTo p (λ x. x.now) (take n xs)
    run p e = subst (λ (l : List A). ItemsMapTo p (λ x. x.now) l) (ap iter_rest e ∙ r) (yields p p.seen)

    place : (k : ℕ) → k < n → (o : Option (Bor A)) (x : Bor A) → o ≡ Some x
        → IfSome o (λ x. HoldsAt (λ y. x.now ≡ y) (take n xs) k) → x.now ≡ get_or xs k d
    place k l None x q i = absurd (cc)
    place k l (Some y) x q i = let e : y ≡ x = cc in rw (← e) (i d ∙ get_or-take n xs k d l)

-- the whole chunks of w items of a list
pub chunks : {A : Type 0} {s : _} (xs : List A) (w : ℕ) → 0 < w
    → chunks_exact_rest s ≡ xs → chunks_exact_size s ≡ w
    → EveryRun (chunks_exact_steps {A = A})
    (λ p. 0 < chunks_exact_size p.from → IsChunksExactRun p (chunks_exact_size p.from) (chunks_exact_rest p.from))
    → Chain (chunks_exact_steps {A = A}) s (λ x. x.now) (length xs / w) (λ k. take w (drop (k * w) xs))
chunks {A} {s} xs w h r z every = record {
  few = λ p e. (le-div_iff_mul-le h).1 (run p e).0;
  whole = λ p e. (run p e).1;
  item = λ p e k x l q. place k (p.at k) x q ((run p e).2 k);
}
  where
    run : (p : Run (chunks_exact_steps {A = A})) → p.from ≡ s → IsChunksExactRun p w xs
    run p e =
        let n : chunks_exact_size p.from ≡ w = ap chunks_exact_size e ∙ z in
        subst (λ (l : List A). IsChunksExactRun p w l) (ap chunks_exact_rest e ∙ r)
        (subst (λ (n : ℕ). IsChunksExactRun p n (chunks_exact_rest p.from)) n (every p p.seen (omega arith)))

    place : (k : ℕ) (o : Option (Bor (List A))) (x : Bor (List A)) → o ≡ Some x
        → IfSome o (λ x. (length x.now ≡ w) × (k * w + w ≤ length xs) × IsSubsliceAt w xs (k * w) x.now)
        → x.now ≡ take w (drop (k * w) xs)
    place k None x q h = absurd (cc)
    place k (Some y) x q h = let e : y ≡ x = cc in rw (← e) h.2.0

-- a chain whose items u takes further
pub further : {S A B C : Type 0} {steps : S → Option A → S → Type 0} {s : S} {v : A → B} {m : ℕ} {list : ℕ → B}
    → Chain steps s v m list → (u : B → C) (other : ℕ → C) → ((k : ℕ) → k < m → u (list k) ≡ other k)
    → Chain steps s (λ x. u (v x)) m other
further h u other same = record {
  few = h.few;
  whole = h.whole;
  item = λ p e k x l q. ap u (h.item p e k x l q) ∙ same k l;
}

-- a closure may be called at each item where P holds of what is left, and so of the item
pub serves : {S A F : Type 0} {steps : S → Option A → S → Type 0} {R : F → A → F → Type 0} {Q : F → A → Type 0} {f : F}
    (P : S → Type 0) → ((s : S) (x : A) (t : S) → P s → steps s (Some x) t → P t × Q f x)
    → ((x : A) (q : F) → R f x q → q ≡ f) → {s : S} → P s → CallableAtEachTurn steps R Q s f
serves {S} {A} {F} {steps} {R} {Q} {f} P each keeps {s} h =
    record { at = λ xs t q x u y g k. subst (λ (q : F). Q q x) (sym (kept xs q g)) (each t x u (left xs s t h y) k).1 }
  where
    left : (xs : List A) (s t : S) → P s → Yields steps s xs t → P t
    left [] s t h y = subst P y h
    left (x ∷ xs) s t h y = left xs y.0 t (each s x y.0 h y.1).0 y.2

    kept : (xs : List A) (q : F) → FoldsTo R f xs q → q ≡ f
    kept [] q g = sym g
    kept (x ∷ xs) q g = kept xs q (subst (λ (p : F). FoldsTo R p xs q) (keeps x g.0 g.1) g.2)
