-- The plain model that a record in limits stands for is in the plain limits, and is read at a place as the record is.
use mathlib.Core.List.{List, [], ◌∷◌, ◌++◌, map}
use mathlib.Core.Logic.{inl, inr}
use mathlib.Core.Path.{◌≡◌, refl, sym, ap, ◌∙◌, subst}
use Prim.Native.Nat.{ℕ, zero, suc, ◌+◌, ◌-◌, ◌/◌, ◌%◌, ◌≤◌, ◌<◌}
use native.Mathlib.Omega.{arith}
use lib.Dec.{eqb}
use lib.IntN.{ℤ}
use lib.ListN.{length, get_or, take, drop, length-drop, length-map, get_or-map}
use lib.Seq.{take-add, get_or-take, length-take-le}
use Rattle.numbers.specs.Numbers.{Num, −∞, fin, Within}
use Rattle.numbers.specs.Words.{number}
use Rattle.algebra.specs.Vectors.{entry}
use Rattle.sets.specs.Limits.{Loose}
use Rattle.sets.proofs.FlatLaws.{in_range}
use Rattle.runs.specs.Models.{invariant, edge, no_edge}
use Rattle.runs.specs.ModelLimits.{SideLimits, DifferenceLimits, BoundLimits, All, BoundsLimits, Rising, EdgeLimits}
use Rattle.runs.specs.ModelLimits.{ModelLimits}
use Rattle.runs.proofs.Loops.{cond_case}
use Rattle.codec.specs.Arrays.{All as Each}
use Rattle.codec.proofs.PackedLaws.{check_each}
use Rattle.bounds.specs.declared.Kind.{Kind}
use Rattle.bounds.specs.declared.Kind.TheVariants.{AtMost, AtLeast, DifferAtMost, DifferAtLeast, HalfSpace}
use Rattle.bounds.specs.declared.Bound.{Bound as Record}
use Rattle.bounds.specs.declared.Bounds.{Bounds}
use Rattle.bounds.specs.Bounds.{entry_count}
use Rattle.bounds.specs.Limits.{EntryLimits, DifferLimits, HalfLimits, KindLimits}
use Rattle.bounds.specs.Limits.{BoundLimits as BoundFits, BoundsLimits as BoundsFit}
use Rattle.bounds.proofs.LimitLaws.{not_negative}
use Rattle.model.specs.declared.Edge.{Edge as EdgeRecord}
use Rattle.model.specs.declared.Model.{Model as ModelRecord}
use Rattle.model.specs.Limits.{EdgeLimits as EdgeFits, ModelLimits as ModelFits}
use Rattle.model.specs.Bytes.{clocks_of}
use Rattle.model.specs.Plain.{bound_by, bounds_of, edge_of, plain}

-- ---- lists
-- what holds of each item holds of what f makes of it
all_map : {A B : Type 0} (P : A → Type 0) (Q : B → Type 0) (f : A → B) → ((x : A) → P x → Q (f x)) → (xs : List A)
    → Each P xs → All Q (map f xs)
all_map P Q f h [] a = tt
all_map P Q f h (x ∷ xs) (p, a) = (h x p, all_map P Q f h xs a)

-- of each item of two lists, one behind the other
all_parts : {A : Type 0} (P : A → Type 0) (xs ys : List A) → Each P (xs ++ ys) → Each P xs × Each P ys
all_parts P [] ys a = (tt, a)
all_parts P (x ∷ xs) ys (p, a) = let (b, c) = all_parts P xs ys a in ((p, b), c)

-- the first n items, mapped
module _ {A B : Type 0} (f : A → B) (n : ℕ) (xs : List A) (l : n ≤ length xs) where
  first_many : length (map f (take n xs)) ≡ n
  first_many = length-map (take n xs) f ∙ length-take-le n xs l

  first_at : (q : ℕ) (d : A) (e : B) → q < n → get_or (map f (take n xs)) q e ≡ f (get_or xs q d)
  first_at q d e h =
      in_range (map f (take n xs)) q e (f d) (omega (arith, first_many)) ∙ get_or-map f (take n xs) q d
      ∙ ap f (get_or-take n xs q d h)

-- ---- a bound
loose_of : (x : Num) → Within 1000000 x → Loose x
loose_of −∞ w = inl refl
loose_of (fin z) w =
    let (h, l) = w.near in
    inr (record { low = record { le = omega arith }; high = record { le = omega arith } })

each_loose : (l : List ℤ) → Each EntryLimits l → (j : ℕ) → Loose (entry (map number l) j)
each_loose [] a j = inl refl
each_loose (z ∷ l) (w, a) zero = loose_of (number z) w
each_loose (z ∷ l) (w, a) (suc j) = each_loose l a j

side_plain : (n : ℕ) (l : List ℤ) → n + 1 ≤ length l → Each EntryLimits (take (n + 1) l)
    → SideLimits n (map number (take (n + 1) l))
side_plain n l h a =
    record {
      long = omega (arith, first_many number (n + 1) l h);
      entries = λ j i. each_loose (take (n + 1) l) a j;
    }

differ_plain : (n : ℕ) (b : Record) → DifferLimits n b → DifferenceLimits n b.x b.y b.k
differ_plain n b w =
    record {
      first = w.clock;
      second = w.other;
      apart = w.differ;
      constant = record { low = record { le = w.least.le }; high = record { le = w.most.le } };
    }

half_plain : (n : ℕ) (b : Record) → HalfLimits n b → BoundLimits n (bound_by n b HalfSpace)
half_plain n b w =
    let rest : length (drop (n + 1) b.half) ≡ length b.half - (n + 1) = length-drop (n + 1) b.half in
    let twice : entry_count n ≡ (n + 1) + (n + 1) = omega arith in
    let split : take (entry_count n) b.half ≡ take (n + 1) b.half ++ take (n + 1) (drop (n + 1) b.half) =
    ap (λ (k : ℕ). take k b.half) twice ∙ take-add (n + 1) (n + 1) b.half in
    let (left, right) = all_parts EntryLimits (take (n + 1) b.half) (take (n + 1) (drop (n + 1) b.half))
    (subst (Each EntryLimits) split w.entries.used) in (
      side_plain n b.half (omega (arith, w.entries.few, w.entries.long)) left,
      side_plain n (drop (n + 1) b.half) (omega (arith, w.entries.few, w.entries.long, rest)) right,
    )

kind_plain : (n : ℕ) (b : Record) (k : Kind) → KindLimits n b k → BoundLimits n (bound_by n b k)
kind_plain n b AtMost w = (w.clock, (not_negative b.k w.least w.most).2)
kind_plain n b AtLeast w = (w.clock, (not_negative b.k w.least w.most).2)
kind_plain n b DifferAtMost w = differ_plain n b w
kind_plain n b DifferAtLeast w = differ_plain n b w
kind_plain n b HalfSpace w = half_plain n b w

-- a bound
pub bound_plain : (n : ℕ) (b : Record) → BoundFits n b → BoundLimits n (bound_by n b b.kind)
bound_plain n b w = kind_plain n b b.kind w.fits

-- a list of bounds
pub bounds_plain : (n : ℕ) (bs : Bounds) → BoundsFit n bs → BoundsLimits n (bounds_of n bs)
bounds_plain n bs w =
    record {
      few =
          omega (
            arith,
            first_many (λ b. bound_by n b b.kind) bs.count bs.items (omega (arith, w.few, w.long)),
            w.few,
          );
      each = all_map (BoundFits n) (BoundLimits n) (λ b. bound_by n b b.kind) (bound_plain n)
          (take bs.count bs.items) w.used;
    }

-- ---- an edge
rising : (low n k i bits : ℕ) → low ≤ i → i + k ≤ n → Rising low n (clocks_of k i bits)
rising low n zero i bits l h = tt
rising low n (suc k) i bits l h =
    cond_case (Rising low n) (eqb (bits % 2) 1)
    (λ e. (l, omega arith, rising (suc i) n k (i + 1) (bits / 2) (omega arith) (omega arith)))
    (λ e. rising low n k (i + 1) (bits / 2) (omega arith) (omega arith))

-- the clocks of a reset set rise
pub resets_plain : (n bits : ℕ) → Rising 0 n (clocks_of n 0 bits)
resets_plain n bits = rising 0 n n 0 bits (omega arith) (omega arith)

-- an edge
pub edge_plain : (n l : ℕ) (e : EdgeRecord) → EdgeFits n l e → EdgeLimits n l (edge_of n e)
edge_plain n l e w =
    record {
      source = w.source;
      destination = w.destination;
      guard = bounds_plain n e.guard w.guard;
      resets = resets_plain n e.resets;
    }

-- ---- a model
module _ (m : ModelRecord) (w : ModelFits m) where
  abbrev n : ℕ
  n = m.clocks

  -- how many locations there are
  pub locations_many : length (plain m).system.invariants ≡ m.locations
  locations_many =
      first_many (bounds_of n) m.locations m.invariants
      (omega (arith, w.invariants.few, w.invariants.long))

  -- how many edges there are
  pub edges_many : length (plain m).system.edges ≡ m.edges
  edges_many = first_many (edge_of n) m.edges m.steps (omega (arith, w.edges.few, w.edges.long))

  -- an item that is read by its place, whatever stands for one that is not there
  pub invariant_at : (d : Bounds) (q : ℕ) → q < m.locations
      → invariant (plain m).system q ≡ bounds_of n (get_or m.invariants q d)
  invariant_at d q =
      first_at (bounds_of n) m.locations m.invariants
      (omega (arith, w.invariants.few, w.invariants.long)) q d []

  -- the same of an edge
  pub edge_at_lem : (d : EdgeRecord) (e : ℕ) → e < m.edges
      → edge (plain m).system e ≡ edge_of n (get_or m.steps e d)
  edge_at_lem d e =
      first_at (edge_of n) m.edges m.steps (omega (arith, w.edges.few, w.edges.long)) e d no_edge

  -- the limits of an item that is read so
  pub invariant_fits : (d : Bounds) (q : ℕ) → q < m.locations → BoundsFit n (get_or m.invariants q d)
  invariant_fits d q l = (check_each d w.invariants q (omega (arith, w.invariants.few))).used l

  -- the same of an edge
  pub edge_fits_lem : (d : EdgeRecord) (e : ℕ) → e < m.edges → EdgeFits n m.locations (get_or m.steps e d)
  edge_fits_lem d e l = (check_each d w.edges e (omega (arith, w.edges.few))).used l

  -- the model is in the plain limits
  pub model_plain : ModelLimits (plain m)
  model_plain =
      record {
        system =
            record {
              clocks = record { some = w.numbers.some_clocks; few = w.numbers.clocks };
              some_location = omega (arith, locations_many, w.numbers.some_locations);
              few_locations = omega (arith, locations_many, w.numbers.locations);
              few_edges = omega (arith, edges_many, w.numbers.edges);
              initial = omega (arith, locations_many, w.numbers.initial);
              invariants =
                  all_map (BoundsFit n) (BoundsLimits n) (bounds_of n) (bounds_plain n)
                  (take m.locations m.invariants) w.invariants.used;
              edges =
                  subst (λ (l : ℕ). All (EdgeLimits n l) (plain m).system.edges) (sym locations_many)
                  (all_map (EdgeFits n m.locations) (EdgeLimits n m.locations) (edge_of n)
                  (edge_plain n m.locations) (take m.edges m.steps) w.edges.used);
              target = omega (arith, locations_many, w.numbers.target);
              goal = bounds_plain n m.list w.list;
            };
        depth = w.numbers.depth;
      }
