-- Layer after layer: the verdict of code is that of the rule's ending.
use Rattle.std.proofs.Common.{Err, Ok}
use mathlib.Core.List.{List, ◌++◌}
use mathlib.Core.Path.{◌≡◌, refl, sym, ap, ◌∙◌, subst}
use Prim.Native.Nat.{ℕ, suc, ◌+◌, ◌-◌, ◌*◌, ◌≤◌, ◌<◌}
use native.Mathlib.Nat.{mul-le-mul_right}
use native.Mathlib.Numerals.{add-one}
use native.Mathlib.Omega.{arith}
use lib.IntN.{ℤ}
use lib.ListN.{length, drop}
use borrow.Author.Tests.{eq-eqb, ne_eqb}
use Rattle.std.specs.Result.{IsErrAnd}
use Rattle.std.proofs.lemmas.Result.{err_from_is_err_and}
use Rattle.numbers.specs.declared.Refusal.{Refusal}
use Rattle.runs.specs.Models.{System}
use Rattle.runs.specs.Verdicts.{Judged}
use Rattle.runs.specs.declared.Verdict.TheVariants.{Reached, Never, Open}
use Rattle.runs.specs.Rule.{State, Walk, Outcome, going, met, last_path, nothing, keep, layer, zeroth}
use Rattle.runs.specs.Rule.{Ending, ends_reached, ends_never, ends_open, ends_refused, answer_of, after, begun, layers}
use Rattle.runs.proofs.Loops.{Ends, goes, meets, stops}
use Rattle.runs.proofs.Depths.{Layer, layer_deep, first_deep}
use Rattle.area.specs.Area.{record_size, records_of, holding}
use Rattle.area.specs.Records.{states_in}
use Rattle.area.proofs.KeepLaws.{states_many, holding_is}
use Rattle.walk.specs.declared.Tally.{Tally}
use Rattle.walk.specs.declared.Moved.{Moved}
use Rattle.walk.specs.declared.Moved.TheVariants.{Going, Met}
use Rattle.walk.specs.Control.{walk_in, outcome_in, Grows, GrowsBy, Does, Left, LeftBy, Finds, ended_by}
use Rattle.walk.proofs.Turns.{grows_on, drop_more}

-- ---- each ending
module _ {n room k t : ℕ} {first area : List ℤ} {y : Tally} (g : Grows n room k t first y area) where
  left : Left n k (states_in n y.kept area) first area
  left = record {
    more = omega (arith, g.more, states_many n y.kept area);
    is = holding_is n y.kept first area g.recorded g.behind;
  }

  -- REACHED, with the length of the path
  pub finds_reached : {depth d : ℕ} {whole : Ending} → ends_reached (walk_in n y area) ≡ whole
      → length (last_path (states_in n y.kept area)) ≡ d
      → Finds n k depth whole first (Ok (Reached d y.kept y.tried)) area
  finds_reached {depth} {d} e p = subst (λ w. Finds n k depth w first (Ok (Reached d y.kept y.tried)) area) e (record {
    is = unfold answer_of in rw (p, states_many n y.kept area);
    left = left;
  })

  -- NEVER
  pub finds_never : {depth : ℕ} {whole : Ending} → ends_never (walk_in n y area) ≡ whole
      → Finds n k depth whole first (Ok (Never y.kept y.tried)) area
  finds_never {depth} e = subst (λ w. Finds n k depth w first (Ok (Never y.kept y.tried)) area) e (record {
    is = unfold answer_of in rw (states_many n y.kept area);
    left = left;
  })

  -- OPEN
  pub finds_open : {depth : ℕ} {whole : Ending} → ends_open (walk_in n y area) ≡ whole
      → Finds n k depth whole first (Ok (Open depth y.kept y.tried)) area
  finds_open {depth} e = subst (λ w. Finds n k depth w first (Ok (Open depth y.kept y.tried)) area) e (record {
    is = unfold answer_of in rw (states_many n y.kept area);
    left = left;
  })

-- a refusal
pub finds_refused : {n k depth : ℕ} {e : Refusal} {whole : Ending} {first area : List ℤ} → ends_refused e ≡ whole
    → Finds n k depth whole first (Err e) area
finds_refused {n} {k} {depth} {e} {whole} {first} {area} q =
    subst (λ w. Finds n k depth w first (Err e) area) q (record { is = unfold answer_of in refl; left = tt })

-- the same verdict
pub finds_same : {n k depth : ℕ} {whole : Ending} {first area : List ℤ} {v u : Judged} → v ≡ u
    → Finds n k depth whole first u area → Finds n k depth whole first v area
finds_same {n} {k} {depth} {whole} {first} {area} e f =
    subst (λ (v : Judged). Finds n k depth whole first v area) (sym e) f

-- another name for the ending
pub finds_as : {n k depth : ℕ} {o p : Ending} {first area : List ℤ} {v : Judged} → o ≡ p
    → Finds n k depth o first v area → Finds n k depth p first v area
finds_as {n} {k} {depth} {o} {p} {first} {area} {v} e f =
    subst (λ (w : Ending). Finds n k depth w first v area) e f

-- ---- the layers that are left
layers_step : (S : System) (room depth d b : ℕ) (w : Walk) → d < depth → layers S room (depth - d) b w
    ≡ after (length w.kept) (layers S room (depth - (d + 1)) (length w.kept)) (layer S room b w)
layers_step S room depth d b w h =
    let q : depth - d ≡ suc (depth - (d + 1)) = omega arith in
    ap (λ (m : ℕ). layers S room m b w) q ∙ unfold layers in refl

layers_none : (S : System) (room depth d b : ℕ) (w : Walk) → depth ≤ d → layers S room (depth - d) b w ≡ ends_open w
layers_none S room depth d b w h =
    let q : depth - d ≡ 0 = omega arith in
    ap (λ (m : ℕ). layers S room m b w) q ∙ unfold layers in refl

-- what goes on has kept nothing, if it says so
pub still : {a : Moved} {z : Tally} {k : ℕ} → a ≡ Going z → z.kept ≡ k → (x : Tally) → a ≡ Going x → x.kept ≡ k
still {z = z} e h x f = let q : x ≡ z = cc in ap (λ (t : Tally). t.kept) q ∙ h

-- before layer d + 1: the last layer begins with state b, and d edges lead to its states
pub record Layering (S : System) (n room k depth d b : ℕ) (whole : Ending) (first : List ℤ) (y : Tally) (area : List ℤ)
    : Type 0 where
  pub grows : Grows n room k (b * 64) first y area
  pub inside : b ≤ y.kept
  pub deep : Layer b d (states_in n y.kept area)
  pub left : layers S room (depth - d) b (walk_in n y area) ≡ whole

-- what the layer rule's law says of an outcome that is known
going_deep : {P Q : Walk → Type 0} {o : Outcome} {w : Walk} → Ends P Q o → going w ≡ o → P w
going_deep {P} (goes {w = v} p) e = subst P (let q : v ≡ _ = cc in q) p
going_deep (meets q) e = absurd (let z : ◌≡◌ {A = ℕ} 0 1 = cc in omega arith)
going_deep stops e = absurd (let z : ◌≡◌ {A = ℕ} 0 1 = cc in omega arith)

met_deep : {P Q : Walk → Type 0} {o : Outcome} {w : Walk} → Ends P Q o → met w ≡ o → Q w
met_deep (goes p) e = absurd (let z : ◌≡◌ {A = ℕ} 0 1 = cc in omega arith)
met_deep {Q = Q} (meets {w = v} q) e = subst Q (let p : v ≡ _ = cc in p) q
met_deep stops e = absurd (let z : ◌≡◌ {A = ℕ} 0 1 = cc in omega arith)

module _ {S : System} {n room k depth d b : ℕ} {whole : Ending} {first area : List ℤ} {y : Tally}
    (g : Layering S n room k depth d b whole first y area) where
  abbrev w : Walk
  w = walk_in n y area

  many : length (states_in n y.kept area) ≡ y.kept
  many = states_many n y.kept area

  -- the depth is reached
  pub layering_open : depth ≤ d → Finds n k depth whole first (Ok (Open depth y.kept y.tried)) area
  layering_open h = finds_open g.grows (sym (layers_none S room depth d b w h) ∙ g.left)

  abbrev next : Walk → Ending
  next = layers S room (depth - (d + 1)) (length w.kept)

  -- the layer made an outcome
  rest : {o : Outcome} → d < depth → o ≡ layer S room b w → after (length w.kept) next o ≡ whole
  rest h q = ap (after (length w.kept) next) q ∙ (sym (layers_step S room depth d b w h) ∙ g.left)

  module _ {a : Moved} {last : List ℤ} (h : d < depth)
      (does : Does n room y.kept (y.kept * 64) (layer S room b w) area (Ok a) last) where
    -- it kept something: the next layer
    pub layering_on : {z : Tally} → a ≡ Going z → ¬ (z.kept ≡ y.kept)
        → Layering S n room k depth (d + 1) y.kept whole first z last
    layering_on {z} e f = record {
      grows = grows_on g.grows went;
      inside = went.more;
      deep = rw (add-one d) (subst (λ (m : ℕ). Layer m (suc d) (states_in n z.kept last)) many
          (going_deep (layer_deep S room b d w g.deep) is));
      left = sym (ap (λ (m : ℕ). layers S room (depth - (d + 1)) m (walk_in n z last)) many)
          ∙ (sym (rw (states_many n z.kept last, many, ne_eqb z.kept y.kept f)) ∙ rest h is);
    }
      where
        went : Grows n room y.kept (y.kept * 64) area z last
        went = subst (λ (a : Moved). GrowsBy n room y.kept (y.kept * 64) area (Ok a) last) e does.grows

        is : going (walk_in n z last) ≡ layer S room b w
        is = ap (λ (a : Moved). outcome_in n (Ok a) last) (sym e) ∙ does.is

    -- it kept nothing, or met the target
    pub layering_ends : ((z : Tally) → a ≡ Going z → z.kept ≡ y.kept)
        → Finds n k depth whole first (Ok (ended_by a (d + 1))) last
    layering_ends f = by a f does.is does.grows
      where
        by : (a : Moved) → ((z : Tally) → a ≡ Going z → z.kept ≡ y.kept) → outcome_in n (Ok a) last ≡ layer S room b w
            → GrowsBy n room y.kept (y.kept * 64) area (Ok a) last
            → Finds n k depth whole first (Ok (ended_by a (d + 1))) last
        by (Going z) f q u = finds_never (grows_on g.grows u)
            (sym (rw (states_many n z.kept last, many, eq-eqb z.kept y.kept (f z refl))) ∙ rest h q)
        by (Met z) f q u = finds_reached (grows_on g.grows u) (rest h q)
            (met_deep (layer_deep S room b d w g.deep) q ∙ sym (add-one d))

  -- it was refused
  pub layering_refused : {e : Refusal} {v : Judged} {last : List ℤ} → d < depth
      → Does n room y.kept (y.kept * 64) (layer S room b w) area (Err e) last → IsErrAnd v (λ f. f ≡ e)
      → Finds n k depth whole first v last
  layering_refused {e} {v} h does up =
      let p = err_from_is_err_and v up in rw (p.1, p.2) (finds_refused (rest h does.is))

-- ---- state 0
holding_more : (n k : ℕ) (kept : List State) (l m : List ℤ) → k ≤ length kept
    → drop (k * record_size n) l ≡ drop (k * record_size n) m → holding n kept l ≡ holding n kept m
unfolding holding
holding_more n k kept l m h e = ap (λ (x : List ℤ). records_of n kept ++ x)
    (drop_more (k * record_size n) (length kept * record_size n) l m (mul-le-mul_right (record_size n) h) e)

module _ (S : System) (n room depth : ℕ) (l : List ℤ) {before middle : List ℤ} {a : Moved}
    (does : Does n room 0 0 (keep S room (zeroth S l) nothing) before (Ok a) middle) where
  abbrev whole : Ending
  whole = begun (layers S room depth 0) (keep S room (zeroth S l) nothing)

  root_is : {z : Tally} → a ≡ Going z → going (walk_in n z middle) ≡ keep S room (zeroth S l) nothing
  root_is e = ap (λ (a : Moved). outcome_in n (Ok a) middle) (sym e) ∙ does.is

  -- state 0 was kept
  pub root_went : {z : Tally} → a ≡ Going z → Grows n room 0 0 before z middle
  root_went e = subst (λ (a : Moved). GrowsBy n room 0 0 before (Ok a) middle) e does.grows

  -- it is layer 0
  pub root_deep : {z : Tally} → a ≡ Going z → Layer 0 0 (states_in n z.kept middle)
  root_deep e = going_deep (first_deep S room l) (root_is e)

  -- the layers go on from it
  pub root_on : {z : Tally} {v : Judged} {last : List ℤ} → a ≡ Going z
      → Finds n z.kept depth (layers S room depth 0 (walk_in n z middle)) middle v last
      → Finds n 0 depth whole before v last
  root_on {z} {v} {last} e f = subst (λ (w : Ending). Finds n 0 depth w before v last)
      (ap (begun (layers S room depth 0)) (root_is e))
      (record { is = f.is; left = by (layers S room depth 0 (walk_in n z middle)) f.left })
    where
      behind : drop (z.kept * record_size n) middle ≡ drop (z.kept * record_size n) before
      behind = (root_went e).behind

      on : (kept : List State) → Left n z.kept kept middle last → Left n 0 kept before last
      on kept h = record {
        more = omega arith;
        is = h.is ∙ holding_more n z.kept kept middle before h.more behind;
      }

      by : (o : Ending) → LeftBy n z.kept o middle last → LeftBy n 0 o before last
      by (ends_reached w) h = on w.kept h
      by (ends_never w) h = on w.kept h
      by (ends_open w) h = on w.kept h
      by (ends_refused x) h = tt

  -- it met the target
  pub root_met : ((z : Tally) → ¬ (a ≡ Going z)) → Finds n 0 depth whole before (Ok (ended_by a 0)) middle
  root_met f = by a f does.is does.grows
    where
      by : (a : Moved) → ((z : Tally) → ¬ (a ≡ Going z)) → outcome_in n (Ok a) middle ≡ keep S room (zeroth S l) nothing
          → GrowsBy n room 0 0 before (Ok a) middle → Finds n 0 depth whole before (Ok (ended_by a 0)) middle
      by (Going z) f q u = absurd (f z refl)
      by (Met z) f q u = finds_reached u (ap (begun (layers S room depth 0)) q) (met_deep (first_deep S room l) q)

-- it was refused
pub root_refused : (S : System) (n room depth : ℕ) (l : List ℤ) {before middle : List ℤ} {e : Refusal} {v : Judged}
    → Does n room 0 0 (keep S room (zeroth S l) nothing) before (Err e) middle → IsErrAnd v (λ f. f ≡ e)
    → Finds n 0 depth (begun (layers S room depth 0) (keep S room (zeroth S l) nothing)) before v middle
root_refused S n room depth l {v = v} does up =
    let p = err_from_is_err_and v up in rw (p.1, p.2) (finds_refused (ap (begun (layers S room depth 0)) does.is))
