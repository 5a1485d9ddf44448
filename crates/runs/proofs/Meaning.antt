-- The walk's answer means what it says of runs.
use mathlib.Core.Bool.{Bool, true, false, ◌&&◌, ◌||◌}
use mathlib.Core.List.{List, [], ◌∷◌, ◌++◌, append-nil}
use mathlib.Core.Logic.{◌⊎◌, inl, inr}
use mathlib.Core.Path.{◌≡◌, refl, sym, ◌∙◌, ap, subst}
use Prim.Native.Nat.{ℕ, zero, suc, ◌+◌, ◌-◌, ◌≤◌, ◌<◌}
use native.Mathlib.Decide.{dec_lt, ℕ_discrete}
use native.Mathlib.Omega.{arith}
use lib.Dec.{eqb, ltb}
use lib.IntN.{ℤ, pos}
use lib.ListN.{length, length-append}
use Rattle.numbers.proofs.Tells.{tells_eqb, clash}
use Rattle.runs.specs.Models.{System, Model, invariant, edge}
use Rattle.runs.specs.ModelLimits.{SystemLimits, ModelLimits}
use Rattle.runs.specs.Runs.{Values, zeroed, Fits, Run, start, follow, ReachesWith}
use Rattle.runs.specs.Verdicts.{SaysReached, SaysOpen, Means}
use Rattle.runs.specs.Closure.{numbers, Has, Entered, Crossed, AtZero, Among, Closed}
use Rattle.runs.specs.Rule.{Step, made, stop, is_empty, included, cut_all, enter, candidate, State, state_at}
use Rattle.runs.specs.Rule.{covered}
use Rattle.runs.specs.Rule.{zeros, path_of, last_path, Walk, Outcome, going, met, stopped, nothing, keeping, trying}
use Rattle.runs.specs.Rule.{tested, test, keep, judge, formed, try_edge, expand, layer, zeroth}
use Rattle.runs.specs.Rule.{Ending, ends_reached, ends_never, ends_open, ends_refused}
use Rattle.runs.specs.Rule.{after, begun, layers, from, walk_to, walk_of}
use Rattle.runs.specs.Rule.{kept_by, answer_of}
use Rattle.runs.proofs.Loops.{Ends, goes, meets, stops, ends_map, ends_cond, ends_turns, cond_case}
use Rattle.runs.proofs.Paths.{at_old, at_new, path_old, path_new, path_child}
use Rattle.runs.proofs.ProperLists.{Proper, zeros_proper, zeros_values, empty_none, full_some}
use Rattle.runs.proofs.StepLaws.{values_long, included_yes}
use Rattle.runs.proofs.Covering.{Within, Done, none_reach, closed_never}
use Rattle.runs.proofs.Entering.{Yields, cuts_yield, enter_yields, candidate_yields, enter_run}

-- ---- tests
or_true : (a b : Bool) → a || b ≡ true → (a ≡ true) ⊎ (b ≡ true)
or_true true b e = inl refl
or_true false b e = inr e

-- both of two tests passed
pub and_true : (a b : Bool) → a && b ≡ true → (a ≡ true) × (b ≡ true)
and_true true b e = (refl, e)
and_true false b e = absurd (clash (sym e))

-- one kept state of location q includes the list
covered_by : (n : ℕ) (kept : List State) (q : ℕ) (l : List ℤ) → covered n kept q l ≡ true
    → (i : ℕ) × (i < length kept) × ((state_at kept i).location ≡ q) × (included n l (state_at kept i).list ≡ true)
unfolding covered
covered_by n [] q l e = absurd (clash (sym e))
covered_by n (s ∷ kept) q l e = by (or_true (eqb s.location q && included n l s.list) (covered n kept q l) e)
    (covered_by n kept q l)
  where
    by : (eqb s.location q && included n l s.list ≡ true) ⊎ (covered n kept q l ≡ true)
        → (covered n kept q l ≡ true → (i : ℕ) × (i < length kept) × ((state_at kept i).location ≡ q)
        × (included n l (state_at kept i).list ≡ true))
        → (i : ℕ) × (i < length (s ∷ kept)) × ((state_at (s ∷ kept) i).location ≡ q)
        × (included n l (state_at (s ∷ kept) i).list ≡ true)
    by (inl h) f =
        let (a, b) = and_true (eqb s.location q) (included n l s.list) h in
        (0, omega arith, (tells_eqb s.location q).yes a, b)
    by (inr h) f = let (i, l, a, b) = f h in (suc i, omega arith, a, b)

-- ---- what holds of every kept state and its path
abbrev pub Every : (State → List ℕ → Type 0) → List State → Type 0
Every Q kept = (i : ℕ) → i < length kept → Q (state_at kept i) (path_of kept i)

-- what holds of every kept state and of a new one holds of every state then
pub every_add : (Q : State → List ℕ → Type 0) (kept : List State) (z : State) → Every Q kept
    → Q z (path_of (kept ++ (z ∷ [])) (length kept)) → Every Q (kept ++ (z ∷ []))
every_add Q kept z h q i l = by (dec_lt i (length kept))
  where
    by : Dec (i < length kept) → Q (state_at (kept ++ (z ∷ [])) i) (path_of (kept ++ (z ∷ [])) i)
    by (yes m) = subst (λ s. Q s (path_of (kept ++ (z ∷ [])) i)) (sym (at_old kept (z ∷ []) i m))
        (subst (Q (state_at kept i)) (sym (path_old kept (z ∷ []) i m)) (h i m))
    by (no m) =
        let e : length kept ≡ i = omega (arith, m, length-append kept (z ∷ [])) in
        subst (λ (i : ℕ). Q (state_at (kept ++ (z ∷ [])) i) (path_of (kept ++ (z ∷ [])) i)) e
        (subst (λ s. Q s (path_of (kept ++ (z ∷ [])) (length kept))) (sym (at_new kept z)) q)

-- a kept state: its list is proper, and its values are those of runs along its path
pub record Sound (S : System) (s : State) (path : List ℕ) : Type 0 where
  pub proper : Proper S.clocks s.list
  pub runs : (v : Values) → Has S.clocks s.list v → Run S path s.location v

module _ (S : System) (limits : SystemLimits S) (room : ℕ) where
  abbrev n : ℕ
  n = S.clocks

  -- a kept state: its values are those of runs along its path, and none of them fits the target
  record Fine (s : State) (path : List ℕ) : Type 0 where
    proper : Proper n s.list
    sound : (v : Values) → Has n s.list v → Run S path s.location v
    clear : s.location ≡ S.target → (v : Values) → Has n s.list v → ¬ Fits S.goal v

  -- ---- what the kept states cover
  abbrev location : List State → ℕ → ℕ
  location kept i = (state_at kept i).location

  abbrev list : List State → ℕ → List ℤ
  list kept i = (state_at kept i).list

  -- how many edges lead to state i
  abbrev deep : List State → ℕ → ℕ
  deep kept i = length (path_of kept i)

  -- the values are in a state of location q to which at most d edges lead
  abbrev In : List State → ℕ → ℕ → Values → Type 0
  In kept d q v = Within S (length kept) (location kept) (list kept) (deep kept) d q v

  -- the kept states are closed
  abbrev ClosedStates : List State → Type 0
  ClosedStates kept = Closed S (length kept) (location kept) (list kept)

  among : (kept : List State) {d q : ℕ} {v : Values} → In kept d q v → Among S (length kept) (location kept) (list kept) q v
  among kept w = record { i = w.i; inside = w.inside; at = w.at; has = w.has }

  -- the candidates of state i over edge e are covered
  abbrev DoneAt : List State → ℕ → ℕ → Type 0
  DoneAt kept i e = Done S (length kept) (location kept) (list kept) (deep kept) i e

  -- every candidate of state i is covered
  ClosedAt : List State → ℕ → Type 0
  ClosedAt kept i = (e : ℕ) → e < length S.edges → (edge S e).source ≡ location kept i → DoneAt kept i e

  -- what is covered stays covered when states are kept behind
  in_more : (kept more : List State) {d q : ℕ} {v : Values} → In kept d q v → In (kept ++ more) d q v
  in_more kept more {v = v} w = record {
    i = w.i;
    inside = omega (arith, w.inside, length-append kept more);
    at = ap (λ s. s.location) (at_old kept more w.i w.inside) ∙ w.at;
    short = omega (arith, w.short, ap (λ (p : List ℕ). length p) (path_old kept more w.i w.inside));
    has = subst (λ s. Has n s.list v) (sym (at_old kept more w.i w.inside)) w.has;
  }

  -- so do the candidates over an edge
  done_more : (kept more : List State) (i e : ℕ) → i < length kept → DoneAt kept i e → DoneAt (kept ++ more) i e
  unfolding Done
  done_more kept more i e l d v h =
      subst (λ (p : List ℕ). In (kept ++ more) (suc (length p)) (edge S e).destination v)
      (sym (path_old kept more i l))
      (in_more kept more (d v (subst (λ s. Entered S (edge S e).destination (Crossed S (edge S e) (Has n s.list)) v)
      (at_old kept more i l) h)))

  -- and all of them
  closed_more : (kept more : List State) (i : ℕ) → i < length kept → ClosedAt kept i → ClosedAt (kept ++ more) i
  unfolding ClosedAt
  closed_more kept more i l c e a b =
      done_more kept more i e l (c e a (b ∙ ap (λ s. s.location) (at_old kept more i l)))

  -- ---- while layer d + 1 is made: the last layer has the states from b to m, and d edges lead to each of them
  record Inv (b m d : ℕ) (kept : List State) : Type 0 where
    begins : b ≤ m
    inside : m ≤ length kept
    fine : Every Fine kept
    base : (v : Values) → Entered S S.initial (AtZero S) v → In kept 0 S.initial v
    old : (i : ℕ) → i < b → ClosedAt kept i
    short : (i : ℕ) → i < b → deep kept i ≤ d
    last : (i : ℕ) → b ≤ i → i < m → deep kept i ≡ d
    new : (i : ℕ) → m ≤ i → i < length kept → deep kept i ≡ suc d

  -- at most d + 1 edges lead to each state
  inv_short : {b m d : ℕ} (kept : List State) → Inv b m d kept → (i : ℕ) → i < length kept → deep kept i ≤ suc d
  inv_short {b} {m} {d} kept v i l = by (dec_lt i b) (dec_lt i m)
    where
      by : Dec (i < b) → Dec (i < m) → deep kept i ≤ suc d
      by (yes p) q = omega (arith, v.short i p)
      by (no p) (yes q) = omega (arith, v.last i (omega (arith, p)) q)
      by (no p) (no q) = omega (arith, v.new i (omega (arith, q)) l)

  -- no run with at most d edges reaches the target
  inv_none : {b m d : ℕ} (kept : List State) → Inv b m d kept → (k : ℕ) → k ≤ d → ¬ ReachesWith S k
  inv_none {b} {m} {d} kept v = none_reach S (length kept) (location kept) (list kept) (deep kept) d (record {
    base = v.base;
    candidates = λ i e l s f g. by i e l s f g (dec_lt i b) (dec_lt i m);
    target = λ i l. (v.fine i l).clear;
  })
    where
      by : (i e : ℕ) → i < length kept → deep kept i < d → e < length S.edges → (edge S e).source ≡ location kept i
          → Dec (i < b) → Dec (i < m) → DoneAt kept i e
      by i e l s f g (yes p) q = unfold ClosedAt in v.old i p e f g
      by i e l s f g (no p) (yes q) = absurd (omega (arith, v.last i (omega (arith, p)) q))
      by i e l s f g (no p) (no q) = absurd (omega (arith, v.new i (omega (arith, q)) l))

  -- keeping a state with d + 1 edges
  inv_add : {b m d : ℕ} (kept : List State) (z : State) → Inv b m d kept
      → Fine z (path_of (kept ++ (z ∷ [])) (length kept)) → length (path_of (kept ++ (z ∷ [])) (length kept)) ≡ suc d
      → Inv b m d (kept ++ (z ∷ []))
  inv_add {b} {m} {d} kept z v f e = record {
    begins = v.begins;
    inside = omega (arith, v.inside, many);
    fine = every_add Fine kept z v.fine f;
    base = λ u h. in_more kept (z ∷ []) (v.base u h);
    old = λ i l. closed_more kept (z ∷ []) i (omega (arith, v.begins, v.inside)) (v.old i l);
    short = λ i l. omega (arith, v.short i l, same i (omega (arith, v.begins, v.inside)));
    last = λ i l k. same i (omega (arith, v.inside)) ∙ v.last i l k;
    new = λ i l k. by i l k (dec_lt i (length kept));
  }
    where
      many : length (kept ++ (z ∷ [])) ≡ length kept + 1
      many = length-append kept (z ∷ [])

      same : (i : ℕ) → i < length kept → deep (kept ++ (z ∷ [])) i ≡ deep kept i
      same i l = ap (λ (p : List ℕ). length p) (path_old kept (z ∷ []) i l)

      by : (i : ℕ) → m ≤ i → i < length (kept ++ (z ∷ [])) → Dec (i < length kept) → deep (kept ++ (z ∷ [])) i ≡ suc d
      by i l k (yes p) = same i p ∙ v.new i l p
      by i l k (no p) =
          let q : length kept ≡ i = omega (arith, p, many) in
          subst (λ (i : ℕ). deep (kept ++ (z ∷ [])) i ≡ suc d) q e

  -- ---- one state
  -- the target is met with the state kept last
  record Hit (w : Walk) : Type 0 where
    says : SaysReached S (last_path w.kept) (length (last_path w.kept))
    sound : Every (Sound S) w.kept

  -- what is fine is sound
  all_sound : (kept : List State) → Every Fine kept → Every (Sound S) kept
  all_sound kept h i l = record { proper = (h i l).proper; runs = (h i l).sound }

  -- the state z is kept behind those of w
  record Added (z : State) (w w' : Walk) : Type 0 where
    is : w'.kept ≡ w.kept ++ (z ∷ [])
    fine : Fine z (path_of (w.kept ++ (z ∷ [])) (length w.kept))

  -- the path of the state kept last
  last_path_lem : (kept : List State) (z : State) → last_path (kept ++ (z ∷ [])) ≡ path_of (kept ++ (z ∷ [])) (length kept)
  unfolding last_path
  last_path_lem kept z = ap (λ (i : ℕ). path_of (kept ++ (z ∷ [])) i) (omega (arith, length-append kept (z ∷ [])))

  module _ (z : State) (w : Walk) (before : Every (Sound S) w.kept) (proper : Proper n z.list)
      (sound : (v : Values) → Has n z.list v
      → Run S (path_of (w.kept ++ (z ∷ [])) (length w.kept)) z.location v)
      (none : (k : ℕ) → k < length (path_of (w.kept ++ (z ∷ [])) (length w.kept)) → ¬ ReachesWith S k) where
    abbrev path : List ℕ
    path = path_of (w.kept ++ (z ∷ [])) (length w.kept)

    -- the target test of z
    tested_ends : z.location ≡ S.target → (o : Step) → cut_all n S.goal z.list ≡ o
        → Ends (Added z w) Hit (tested (keeping z w) o)
    tested_ends e (stop f) q = stops
    tested_ends e (made t) q =
        ends_cond (is_empty t) (λ h. goes (record { is = refl; fine = fine h })) (λ h. meets (hit h))
      where
        y : Yields n t (λ v. Has n z.list v × Fits S.goal v)
        y = cuts_yield n S.goal limits.goal.each z.list t proper q

        fine : is_empty t ≡ true → Fine z (path_of (w.kept ++ (z ∷ [])) (length w.kept))
        fine h = record {
          proper = proper;
          sound = sound;
          clear = λ l v s g. empty_none n t h (numbers v) ((y.exact v).1 (s, g));
        }

        says : is_empty t ≡ false → SaysReached S (path_of (w.kept ++ (z ∷ [])) (length w.kept))
            (length (path_of (w.kept ++ (z ∷ [])) (length w.kept)))
        says h =
            let (v, s) = full_some n t y.proper h in
            let (a, b) = (y.exact v).0 s in
            record {
              many = refl;
              reaches = record { values = v; run = subst (λ q. Run S path q v) e (sound v a); fits = b };
              first = none;
            }

        hit : is_empty t ≡ false → Hit (keeping z w)
        hit h = record {
          says = subst (λ p. SaysReached S p (length p)) (sym (last_path_lem w.kept z)) (says h);
          sound = every_add (Sound S) w.kept z before (record { proper = proper; runs = sound });
        }

    -- keeping z
    keep_ends : Ends (Added z w) Hit (keep S room z w)
    unfolding keep test
    keep_ends = ends_cond (ltb (length w.kept) room) (λ r. ends_cond (eqb z.location S.target)
        (λ e. tested_ends ((tells_eqb z.location S.target).yes e) (cut_all n S.goal z.list) refl)
        (λ e. goes (record {
          is = refl;
          fine = record {
            proper = proper;
            sound = sound;
            clear = λ l. absurd ((tells_eqb z.location S.target).no e l);
          };
        }))) (λ r. stops)

  -- ---- one edge
  -- edge e was tried at state j, and what was kept stays
  record Turned (b m d j e : ℕ) (w w' : Walk) : Type 0 where
    more : List State
    is : w'.kept ≡ w.kept ++ more
    inv : Inv b m d w'.kept
    done : (edge S e).source ≡ location w.kept j → DoneAt w'.kept j e

  module _ (b m d j : ℕ) (begins : b ≤ j) (ends : j < m) (e : ℕ) (real : e < length S.edges) (w : Walk)
      (v : Inv b m d w.kept) where
    abbrev kept : List State
    kept = w.kept

    here : j < length kept
    here = omega (arith, v.inside)

    -- the candidate's list, if it was formed
    module _ (leaves : (edge S e).source ≡ location kept j) (l : List ℤ)
        (q : candidate S (edge S e) (list kept j) ≡ made l) where
      abbrev z : State
      z = record { location = (edge S e).destination; parent = pos j; edge = pos e; list = l }

      y : Yields n l (Entered S (edge S e).destination (Crossed S (edge S e) (Has n (list kept j))))
      y = candidate_yields S limits e (list kept j) l (v.fine j here).proper q

      -- z's path is that of state j with edge e behind
      z_path : path_of (kept ++ (z ∷ [])) (length kept) ≡ path_of kept j ++ (e ∷ [])
      z_path = path_child kept z j e refl refl

      -- d + 1 edges lead to it
      z_deep : length (path_of (kept ++ (z ∷ [])) (length kept)) ≡ suc d
      z_deep = ap (λ (p : List ℕ). length p) z_path ∙ (length-append (path_of kept j) (e ∷ [])
          ∙ omega (arith, v.last j begins ends))

      -- its values are those of runs along that path
      z_sound : (u : Values) → Has n l u
          → Run S (path_of (kept ++ (z ∷ [])) (length kept)) (edge S e).destination u
      z_sound u h = subst (λ p. Run S p (edge S e).destination u) (sym z_path)
          (enter_run S limits (edge S e).destination (path_of kept j ++ (e ∷ []))
          (Crossed S (edge S e) (Has n (list kept j))) long cross u ((y.exact u).0 h))
        where
          zeroed_long : (is : List ℕ) (v : Values) → length (zeroed is v) ≡ length v
          zeroed_long [] v = refl
          zeroed_long (i ∷ is) v = zeroed_long is (lib.ListN.set v i 0) ∙ lib.ListN.length-set v i 0

          long : (u : Values) → Crossed S (edge S e) (Has n (list kept j)) u → length u ≡ n
          long u c = ap (λ (u : Values). length u) c.is ∙ (zeroed_long (edge S e).resets c.u
              ∙ values_long n (list kept j) c.u c.from)

          cross : (u : Values) → Crossed S (edge S e) (Has n (list kept j)) u
              → Fits (invariant S (edge S e).destination) u
              → Run S (path_of kept j ++ (e ∷ [])) (edge S e).destination u
          cross u c f = subst (λ u. Run S (path_of kept j ++ (e ∷ [])) (edge S e).destination u) (sym c.is)
              (follow e real (subst (λ q. Run S (path_of kept j) q c.u) (sym leaves)
              ((v.fine j here).sound c.u c.from)) c.opens
              (subst (λ u. Fits (invariant S (edge S e).destination) u) c.is f))

      -- dropped: its values are in a kept state
      dropped : (is_empty l || covered n kept (edge S e).destination l ≡ true) → DoneAt kept j e
      unfolding Done
      dropped c u h = by (or_true (is_empty l) (covered n kept (edge S e).destination l) c)
        where
          has : Has n l u
          has = (y.exact u).1 h

          by : (is_empty l ≡ true) ⊎ (covered n kept (edge S e).destination l ≡ true)
              → In kept (suc (deep kept j)) (edge S e).destination u
          by (inl a) = absurd (empty_none n l a (numbers u) has)
          by (inr a) =
              let (i, r, at, inc) = covered_by n kept (edge S e).destination l a in
              record {
                i = i;
                inside = r;
                at = at;
                short = omega (arith, inv_short kept v i r, v.last j begins ends);
                has = included_yes n l (list kept i) inc (numbers u) has;
              }

      -- kept: it is the state kept last
      added : DoneAt (kept ++ (z ∷ [])) j e
      unfolding Done
      added u h = record {
        i = length kept;
        inside = omega (arith, length-append kept (z ∷ []));
        at = ap (λ s. s.location) (at_new kept z);
        short = omega (
          arith,
          z_deep,
          v.last j begins ends,
          ap (λ (p : List ℕ). length p) (path_old kept (z ∷ []) j here),
        );
        has = subst (λ s. Has n s.list u) (sym (at_new kept z)) ((y.exact u).1
            (subst (λ s. Entered S (edge S e).destination (Crossed S (edge S e) (Has n s.list)) u)
            (at_old kept (z ∷ []) j here) h));
      }

      -- judging z
      judge_ends : Ends (Turned b m d j e w) Hit (judge S room z (trying w))
      unfolding judge
      judge_ends = ends_cond (is_empty l || covered n kept (edge S e).destination l)
          (λ c. goes (record { more = []; is = sym (append-nil kept); inv = v; done = λ p. dropped c }))
          (λ c. ends_map turn (λ w h. h) (keep_ends z (trying w) (all_sound kept v.fine) y.proper z_sound
          (λ k r. inv_none kept v k (omega (arith, z_deep)))))
        where
          turn : (w' : Walk) → Added z (trying w) w' → Turned b m d j e w w'
          turn w' a = record {
            more = z ∷ [];
            is = a.is;
            inv = subst (Inv b m d) (sym a.is) (inv_add kept z v a.fine z_deep);
            done = λ p. subst (λ k. DoneAt k j e) (sym a.is) added;
          }

    -- what is made over the edge is judged, a refusal is passed up
    formed_ends : (edge S e).source ≡ location kept j → (o : Step) → candidate S (edge S e) (list kept j) ≡ o
        → Ends (Turned b m d j e w) Hit (formed S room j e (trying w) o)
    formed_ends leaves (made l) q = judge_ends leaves l q
    formed_ends leaves (stop f) q = stops

    -- one edge
    edge_ends : Ends (Turned b m d j e w) Hit (try_edge S room j e w)
    unfolding try_edge
    edge_ends = ends_cond (eqb (edge S e).source (location kept j))
        (λ q. formed_ends ((tells_eqb (edge S e).source (location kept j)).yes q)
        (candidate S (edge S e) (list kept j)) refl)
        (λ q. goes (record {
          more = [];
          is = sym (append-nil kept);
          inv = v;
          done = λ p. absurd ((tells_eqb (edge S e).source (location kept j)).no q p);
        }))

  -- ---- one state, and one layer
  -- the states of the last layer before j are closed
  record Upto (b m d j : ℕ) (w : Walk) : Type 0 where
    inv : Inv b m d w.kept
    closed : (i : ℕ) → b ≤ i → i < j → ClosedAt w.kept i

  -- and at state j the edges before e are done
  record Half (b m d j e : ℕ) (w : Walk) : Type 0 where
    upto : Upto b m d j w
    done : (k : ℕ) → k < e → (edge S k).source ≡ location w.kept j → DoneAt w.kept j k

  module _ (b m d j : ℕ) (begins : b ≤ j) (ends : j < m) where
    -- one edge more of state j is done
    half_turn : (e : ℕ) (w w' : Walk) → Half b m d j e w → Turned b m d j e w w' → Half b m d j (suc e) w'
    half_turn e w w' h t = record {
      upto = record {
        inv = t.inv;
        closed = λ i l r. subst (λ k. ClosedAt k i) (sym t.is)
            (closed_more w.kept t.more i (omega (arith, h.upto.inv.inside)) (h.upto.closed i l r));
      };
      done = λ k l. by k l (ℕ_discrete k e);
    }
      where
        inside : j < length w.kept
        inside = omega (arith, h.upto.inv.inside)

        place : location w'.kept j ≡ location w.kept j
        place = ap (λ kept. location kept j) t.is ∙ ap (λ s. s.location) (at_old w.kept t.more j inside)

        by : (k : ℕ) → k < suc e → Dec (k ≡ e) → (edge S k).source ≡ location w'.kept j → DoneAt w'.kept j k
        by k l (yes q) s = subst (λ (k : ℕ). DoneAt w'.kept j k) (sym q)
            (t.done (subst (λ (k : ℕ). (edge S k).source ≡ location w.kept j) q (s ∙ place)))
        by k l (no q) s = subst (λ kept. DoneAt kept j k) (sym t.is)
            (done_more w.kept t.more j k inside (h.done k (omega (arith, q)) (s ∙ place)))

    -- one state
    expand_ends : (w : Walk) → Upto b m d j w → Ends (Upto b m d (suc j)) Hit (expand S room j w)
    unfolding expand
    expand_ends w u = ends_map finish (λ w h. h) (ends_turns (λ e w. Half b m d j e w) (length S.edges) 0
        (λ e l r w h. ends_map (λ w' t. half_turn e w w' h t) (λ w h. h)
        (edge_ends b m d j begins ends e (omega arith) w h.upto.inv))
        w (record { upto = u; done = λ k l. absurd (omega arith) }))
      where
        finish : (w : Walk) → Half b m d j (0 + length S.edges) w → Upto b m d (suc j) w
        finish w h = record { inv = h.upto.inv; closed = λ i l r. by i l r (ℕ_discrete i j) }
          where
            own : ClosedAt w.kept j
            own = unfold ClosedAt in λ e a s. h.done e (omega arith) s

            by : (i : ℕ) → b ≤ i → i < suc j → Dec (i ≡ j) → ClosedAt w.kept i
            by i l r (yes q) = subst (λ (i : ℕ). ClosedAt w.kept i) (sym q) own
            by i l r (no q) = h.upto.closed i l (omega (arith, q))

  -- before layer d + 1 is made
  abbrev Stage : ℕ → ℕ → Walk → Type 0
  Stage b d w = Inv b (length w.kept) d w.kept

  -- one layer
  layer_ends : (b d : ℕ) (w : Walk) → Stage b d w
      → Ends (Upto b (length w.kept) d (length w.kept)) Hit (layer S room b w)
  unfolding layer
  layer_ends b d w v = ends_map (λ w' u. subst (λ (j : ℕ). Upto b m d j w') whole u) (λ w h. h)
      (ends_turns (λ j w. Upto b m d j w) (m - b) b
      (λ j l r w u. expand_ends b m d j l (omega (arith, v.begins)) w u)
      w (record { inv = v; closed = λ i l r. absurd (omega arith) }))
    where
      m : ℕ
      m = length w.kept

      whole : b + (m - b) ≡ m
      whole = omega (arith, v.begins)

  module _ (b d m : ℕ) (w : Walk) (u : Upto b m d m w) where
    -- every state before the new ones is closed
    all_closed : (i : ℕ) → i < m → ClosedAt w.kept i
    all_closed i l = by (dec_lt i b)
      where
        by : Dec (i < b) → ClosedAt w.kept i
        by (yes p) = u.inv.old i p
        by (no p) = u.closed i (omega (arith, p)) l

    -- the next layer begins
    next_stage : Stage m (suc d) w
    next_stage = record {
      begins = u.inv.inside;
      inside = omega arith;
      fine = u.inv.fine;
      base = u.inv.base;
      old = all_closed;
      short = λ i l. inv_short w.kept u.inv i (omega (arith, u.inv.inside));
      last = u.inv.new;
      new = λ i l r. absurd (omega arith);
    }

    -- nothing new was kept: the kept states are closed
    closed_none : length w.kept ≡ m → ClosedStates w.kept
    unfolding ClosedAt Done
    closed_none e = record {
      start = λ v h. among w.kept (u.inv.base v h);
      candidates = λ i f l g h v c. among w.kept (all_closed i (omega arith) f g h v c);
      target = λ i l. (u.inv.fine i l).clear;
    }

  -- ---- the whole walk
  -- under NEVER the kept states are closed
  abbrev Says : ℕ → Ending → Type 0
  Says depth (ends_reached w) = SaysReached S (last_path w.kept) (length (last_path w.kept))
  Says depth (ends_never w) = ClosedStates w.kept
  Says depth (ends_open w) = SaysOpen S depth
  Says depth (ends_refused e) = Unit {0}

  -- the ending says what is true of runs, and every kept state is sound
  record Right (depth : ℕ) (r : Ending) : Type 0 where
    says : Says depth r
    sound : Every (Sound S) (kept_by r)

  -- no state is kept
  nothing_sound : Every (Sound S) []
  nothing_sound i l = absurd (omega arith)

  -- after a layer
  after_right : (depth b d m : ℕ) (next : Walk → Ending) (o : Outcome) → Ends (Upto b m d m) Hit o
      → ((w : Walk) → Stage m (suc d) w → Right depth (next w)) → Right depth (after m next o)
  after_right depth b d m next (going w) (goes u) f = cond_case (Right depth) (eqb (length w.kept) m)
      (λ e. record {
        says = closed_none b d m w u ((tells_eqb (length w.kept) m).yes e);
        sound = all_sound w.kept u.inv.fine;
      })
      (λ e. f w (next_stage b d m w u))
  after_right depth b d m next (met w) (meets h) f = record { says = h.says; sound = h.sound }
  after_right depth b d m next (stopped e) stops f = record { says = tt; sound = nothing_sound }

  -- layer after layer
  layers_right : (depth more b d : ℕ) (w : Walk) → depth ≡ d + more → Stage b d w
      → Right depth (layers S room more b w)
  unfolding layers
  layers_right depth zero b d w e v =
      record { says = λ k l. inv_none w.kept v k (omega arith); sound = all_sound w.kept v.fine }
  layers_right depth (suc more) b d w e v = after_right depth b d (length w.kept)
      (layers S room more (length w.kept)) (layer S room b w) (layer_ends b d w v)
      (λ w' g. layers_right depth more (length w.kept) (suc d) w' (omega arith) g)

  -- ---- state 0
  module _ (l : List ℤ) (q : enter S S.initial (zeros n) ≡ made l) where
    -- what state 0 has
    first : Yields n l (Entered S S.initial (Has n (zeros n)))
    first = enter_yields S limits S.initial (zeros n) l (zeros_proper n) q

    -- the values of state 0 are those that are entered with all clocks 0
    first_has : (v : Values) → Entered S S.initial (AtZero S) v → Has n l v
    first_has v h = (first.exact v).1 (record {
      u = h.u;
      δ = h.δ;
      from = (zeros_values n h.u).1 h.from;
      before = h.before;
      is = h.is;
      after = h.after;
    })

    -- an empty state 0: no run at all
    first_none : is_empty l ≡ true → ClosedStates []
    first_none e = record {
      start = λ v h. absurd (empty_none n l e (numbers v) (first_has v h));
      candidates = λ i f a. absurd (omega arith);
      target = λ i a. absurd (omega arith);
    }

    -- no edge leads to it
    first_path : path_of (zeroth S l ∷ []) 0 ≡ []
    first_path = path_new [] (zeroth S l)

    -- its values are those of runs without an edge
    first_sound : (v : Values) → Has n l v → Run S (path_of (zeroth S l ∷ []) 0) S.initial v
    first_sound v h = subst (λ p. Run S p S.initial v) (sym first_path)
        (enter_run S limits S.initial [] (Has n (zeros n)) (λ u a. values_long n (zeros n) u a) begins v
        ((first.exact v).0 h))
      where
        begins : (u : Values) → Has n (zeros n) u → Fits (invariant S S.initial) u → Run S [] S.initial u
        begins u a f =
            let z = (zeros_values n u).0 a in
            subst (λ u. Run S [] S.initial u) (sym z) (start (subst (λ u. Fits (invariant S S.initial) u) z f))

    first_short : length (path_of (zeroth S l ∷ []) 0) ≡ 0
    first_short = ap (λ (p : List ℕ). length p) first_path

    -- layer 0 is state 0
    first_stage : (w : Walk) → Added (zeroth S l) nothing w → Stage 0 0 w
    first_stage w a = subst (λ kept. Inv 0 (length kept) 0 kept) (sym a.is) (record {
      begins = omega arith;
      inside = omega arith;
      fine = every_add Fine [] (zeroth S l) (λ i m. absurd (omega arith)) a.fine;
      base = λ v h. record {
        i = 0;
        inside = omega arith;
        at = refl;
        short = omega (arith, first_short);
        has = first_has v h;
      };
      old = λ i m. absurd (omega arith);
      short = λ i m. absurd (omega arith);
      last = λ i m k. subst (λ (i : ℕ). deep (zeroth S l ∷ []) i ≡ 0) (omega arith) first_short;
      new = λ i m k. absurd (omega arith);
    })

  -- after state 0
  begun_right : (depth : ℕ) (next : Walk → Ending) (o : Outcome) → Ends (Stage 0 0) Hit o
      → ((w : Walk) → Stage 0 0 w → Right depth (next w)) → Right depth (begun next o)
  begun_right depth next (going w) (goes h) f = f w h
  begun_right depth next (met w) (meets h) f = record { says = h.says; sound = h.sound }
  begun_right depth next (stopped e) stops f = record { says = tt; sound = nothing_sound }

  -- after entering
  from_right : (depth : ℕ) (next : Walk → Ending) (o : Step) → enter S S.initial (zeros n) ≡ o
      → ((w : Walk) → Stage 0 0 w → Right depth (next w)) → Right depth (from S room next o)
  from_right depth next (made l) q f = cond_case (Right depth) (is_empty l)
      (λ e. record { says = first_none l q e; sound = nothing_sound })
      (λ e. begun_right depth next (keep S room (zeroth S l) nothing)
      (ends_map (first_stage l q) (λ w h. h) (keep_ends (zeroth S l) nothing nothing_sound (first l q).proper
      (first_sound l q) (λ k r. absurd (omega (arith, first_short l q))))) f)
  from_right depth next (stop e) q f = record { says = tt; sound = nothing_sound }

  -- the whole walk
  walk_right : (depth : ℕ) → Right depth (walk_to S room depth)
  unfolding walk_to
  walk_right depth = from_right depth (layers S room depth 0) (enter S S.initial (zeros n)) refl
      (λ w v. layers_right depth depth 0 0 w (omega arith) v)

  -- what an ending says is what its answer means
  right_means : (depth : ℕ) (r : Ending) → Says depth r → Means S (last_path (kept_by r)) (answer_of depth r)
  unfolding answer_of
  right_means depth (ends_reached w) h = h
  right_means depth (ends_never w) h = closed_never S (length w.kept) (location w.kept) (list w.kept) h
  right_means depth (ends_open w) h = h
  right_means depth (ends_refused e) h = h

-- the answer of the walk means what it says of runs: the path is that of the state kept last, read by parents
pub walk_means : (M : Model) → ModelLimits M → (room : ℕ)
    → Means M.system (last_path (kept_by (walk_of M room))) (answer_of M.depth (walk_of M room))
unfolding walk_of
walk_means M h room = right_means M.system h.system room M.depth (walk_to M.system room M.depth)
    (walk_right M.system h.system room M.depth).says

-- every list that the walk keeps is proper, and its clock values are those of runs along its state's path
pub walk_sound : (M : Model) → ModelLimits M → (room : ℕ) → Every (Sound M.system) (kept_by (walk_of M room))
unfolding walk_of
walk_sound M h room = (walk_right M.system h.system room M.depth).sound

-- the states kept by a walk that ended in NEVER are closed
pub walk_closed : (M : Model) → ModelLimits M → (room : ℕ) (w : Walk) → walk_of M room ≡ ends_never w
    → Closed M.system (length w.kept) (λ i. (state_at w.kept i).location) (λ i. (state_at w.kept i).list)
unfolding walk_of
walk_closed M h room w e =
    subst (Says M.system h.system room M.depth) e (walk_right M.system h.system room M.depth).says
