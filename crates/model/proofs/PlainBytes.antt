-- Bytes are read to the plain model of the record that they are read to, and are refused alike.
use mathlib.Core.Bool.{Bool, true, false, cond}
use mathlib.Core.List.{List, [], ◌∷◌, ◌++◌, map, append_assoc}
use mathlib.Core.Path.{◌≡◌, refl, sym, ap, ap₂, ◌∙◌, subst}
use Prim.Native.Nat.{ℕ, zero, suc, ◌+◌, ◌-◌, ◌/◌, ◌%◌, ◌≤◌, ◌<◌}
use native.Mathlib.Omega.{arith}
use lib.Dec.{eqb}
use lib.IntN.{ℤ, pos, negsuc}
use lib.ListN.{length, take, drop, get_or}
use lib.Seq.{take_at, drop_at}
use Rattle.numbers.specs.Numbers.{−∞, fin}
use Rattle.numbers.specs.Words.{number, mark}
use Rattle.numbers.proofs.Tells.{fails, tells_eqb}
use Rattle.numbers.proofs.WordLaws.{number_mark}
use Rattle.codec.specs.Number.{Got, got, refused, unfolded}
use Rattle.codec.specs.Form.{Form, fault, read_in, ◌>>=◌, many}
use Rattle.codec.proofs.FormLaws.{onto}
use Rattle.codec.proofs.AlikeForms.{Alike, both_done, both_ask, both_fault, then_then, alike_then, alike_done}
use Rattle.codec.proofs.AlikeForms.{Gives, reads_alike, alike_many, alike_array, alike_split}
use Rattle.runs.specs.Models.{Bound, clock_at_most, clock_at_least, difference_at_most, difference_at_least, half_space}
use Rattle.runs.specs.Models.{Edge, Model}
use Rattle.bounds.specs.declared.Kind.{Kind}
use Rattle.bounds.specs.declared.Kind.TheVariants.{AtMost, AtLeast, DifferAtMost, DifferAtLeast}
use Rattle.bounds.specs.declared.Bound.{Bound as Record}
use Rattle.bounds.specs.Bounds as records
use Rattle.model.specs.Bytes.{clock_form, difference_form, entry_form, half_space_form, bound_form, list_form, edge_form}
use Rattle.model.specs.Bytes.{kind_forms, clocks_of, model_form, Said, value, refusal, wholly, plain_of}
use Rattle.model.specs.Models as models
use Rattle.model.specs.Plain.{bound_by, bounds_of, edge_of, plain}
use Rattle.model.specs.Answers.{read_of}

-- ---- forms
-- three forms in a row
regrouped : {A B C D : Type 0} {Q : C → D → Type 0} (F : Form A) (j : A → Form B) (k : B → Form C) {G : Form D}
    → Alike Q (F >>= λ a. j a >>= k) G → Alike Q ((F >>= j) >>= k) G
regrouped {Q = Q} F j k {G} h = subst (λ F. Alike Q F G) (sym (then_then F j k)) h

-- a fault by the same test
tested : {A B : Type 0} {R : A → B → Type 0} {F : Form A} {G : Form B} (b : Bool) → Alike R F G
    → Alike R (cond b fault F) (cond b fault G)
tested true h = both_fault
tested false h = h

-- a fault by the same test, before what follows
guarded : {A B C D : Type 0} {Q : C → D → Type 0} (F : Form A) (j : A → Form C) (G : Form B) (k : B → Form D) (b : Bool)
    → Alike Q (F >>= j) (G >>= k) → Alike Q (cond b fault F >>= j) (cond b fault G >>= k)
unfolding ◌>>=◌
guarded F j G k true h = both_fault
guarded F j G k false h = h

-- ---- bounds
-- a folded number of an entry is not the mark
number_unfolded : (v : ℕ) → v ≤ 2000000 → number (unfolded v) ≡ fin (unfolded v)
unfolding number
number_unfolded v l = by (eqb (v % 2) 0)
  where
    by : (b : Bool) → number (cond b (pos (v / 2)) (negsuc (v / 2))) ≡ fin (cond b (pos (v / 2)) (negsuc (v / 2)))
    by true = refl
    by false =
        ap (λ b. cond b −∞ (fin (negsuc (v / 2)))) (fails (tells_eqb (v / 2) 2147483647) (λ e. absurd (omega arith)))

-- an entry's number
entry_alike : Alike (Gives number) records.entry_form entry_form
unfolding records.entry_form entry_form
entry_alike = both_ask (λ v l. both_done (by v l (eqb v 0)))
  where
    by : (v : ℕ) → v < 2000002 → (b : Bool)
        → number (cond b mark (unfolded (v - 1))) ≡ cond b −∞ (fin (unfolded (v - 1)))
    by v l true = number_mark
    by v l false = number_unfolded (v - 1) (omega arith)

-- the plain bound of a record
abbrev bound_is : ℕ → Record → Bound
bound_is n b = bound_by n b b.kind

-- two sides, taken from the front of an array
sides : (n : ℕ) (xs ys more : List ℤ) → length xs ≡ n + 1 → length ys ≡ n + 1
    → half_space (map number (take (n + 1) ((xs ++ ys) ++ more)))
    (map number (take (n + 1) (drop (n + 1) ((xs ++ ys) ++ more))))
    ≡ half_space (map number xs) (map number ys)
sides n xs ys more h k = rw append_assoc (ap₂ half_space (ap (map number) (take_at xs (ys ++ more) (n + 1) h))
    (ap (map number) (ap (take (n + 1)) (drop_at xs (ys ++ more) (n + 1) h) ∙ take_at ys more (n + 1) k)))

-- kind 4: all entries into one array, or side by side
half_alike : (n : ℕ) → Alike (Gives (bound_is n)) (records.half_form n) (half_space_form n)
unfolding records.half_form half_space_form ◌>>=◌
half_alike n = regrouped (many (records.entry_count n) records.entry_form) _ _
    (alike_split number entry_alike (n + 1) (n + 1) (records.entry_count n) (omega arith) _ (λ xs ab p.
    alike_then (alike_many number entry_alike (n + 1)) (λ ys cd q.
    both_done (sides n xs ys _ p.1 q.1 ∙ ap₂ half_space p.0 q.0))))

-- kinds 0 and 1
clock_alike : (n : ℕ) (kind : Kind) (bound : ℕ → ℕ → Bound)
    → ((x k : ℕ) → bound_by n (record { x = x; y = 0; k = pos k; half = records.no_half; kind = kind }) kind ≡ bound x k)
    → Alike (Gives (bound_is n)) (records.plain_form n kind) (clock_form n bound)
unfolding records.plain_form clock_form
clock_alike n kind bound e = both_ask (λ x l. both_ask (λ k m. both_done (e x k)))

-- kinds 2 and 3
difference_alike : (n : ℕ) (kind : Kind) (bound : ℕ → ℕ → ℤ → Bound)
    → ((x y : ℕ) (k : ℤ)
    → bound_by n (record { x = x; y = y; k = k; half = records.no_half; kind = kind }) kind ≡ bound x y k)
    → Alike (Gives (bound_is n)) (records.differ_form n kind) (difference_form n bound)
unfolding records.differ_form difference_form
difference_alike n kind bound e =
    both_ask (λ x l. both_ask (λ y m. tested (eqb x y) (both_ask (λ v k. both_done (e x y (unfolded v))))))

-- what follows each kind
kind_alike : (n v : ℕ) → v < 5
    → Alike (Gives (bound_is n)) (records.kind_form n (records.kind_of v)) (get_or (kind_forms n) v fault)
kind_alike n zero l = clock_alike n AtMost clock_at_most (λ x k. refl)
kind_alike n (suc zero) l = clock_alike n AtLeast clock_at_least (λ x k. refl)
kind_alike n (suc (suc zero)) l = difference_alike n DifferAtMost difference_at_most (λ x y k. refl)
kind_alike n (suc (suc (suc zero))) l = difference_alike n DifferAtLeast difference_at_least (λ x y k. refl)
kind_alike n (suc (suc (suc (suc zero)))) l = half_alike n
kind_alike n (suc (suc (suc (suc (suc v))))) l = absurd (omega arith)

-- a bound
bound_alike : (n : ℕ) → Alike (Gives (bound_is n)) (records.bound_form n) (bound_form n)
unfolding records.bound_form bound_form
bound_alike n = both_ask (λ v l. kind_alike n v l)

-- a list: those of the array that are counted
list_alike : (n : ℕ) → Alike (Gives (bounds_of n)) (records.bounds_form n) (list_form n)
unfolding records.bounds_form list_form
list_alike n = both_ask (λ count l.
    alike_done (λ items. record { count = count; items = items })
    (alike_array (bound_is n) (bound_alike n) 8 records.no_bound count) (λ items bs e. e))

-- an edge
edge_alike : (n l : ℕ) → Alike (Gives (edge_of n)) (models.edge_form n l) (edge_form n l)
unfolding models.edge_form edge_form
edge_alike n l = both_ask (λ s p. both_ask (λ d q. alike_then (list_alike n) (λ g bs e. both_ask (λ r m.
    both_done (ap (λ bs. record { source = s; destination = d; guard = bs; resets = clocks_of n 0 r }) e)))))

-- ---- models
-- a model from its parts
abbrev model : ℕ → ℕ → ℕ → ℕ → List (List Bound) → List Edge → List Bound → Model
model n i t d is es g = record {
  system = record { clocks = n; initial = i; invariants = is; edges = es; target = t; goal = g };
  depth = d;
}

-- equal lists make equal models
model_is : (n i t d : ℕ) {is js : List (List Bound)} {es fs : List Edge} {g h : List Bound}
    → is ≡ js → es ≡ fs → g ≡ h → model n i t d is es g ≡ model n i t d js fs h
model_is n i t d p q r = cc

-- a model, number by number
model_alike : Alike (Gives plain) models.model_form model_form
unfolding models.model_form model_form models.head_form models.goal_form ◌>>=◌
model_alike =
    both_ask (λ n _. guarded _ _ _ _ (eqb n 0)
    (both_ask (λ l _. guarded _ _ _ _ (eqb l 0)
    (both_ask (λ e _.
    both_ask (λ i _.
    alike_then (alike_array (bounds_of n) (list_alike n) 32 records.no_bounds l) (λ is _ p.
    alike_then (alike_array (edge_of n) (edge_alike n l) 64 models.no_edge e) (λ es _ q.
    both_ask (λ t _.
    regrouped (records.bounds_form n) _ _ (alike_then (list_alike n) (λ b g r.
    both_ask (λ d _.
    both_done (model_is n i t d p q r)))))))))))))

-- ---- what is said
-- f of a value; a refusal stays
abbrev pub said_map : {A B : Type 0} → (A → B) → Said A → Said B
said_map f (value a) = value (f a)
said_map f (refusal e) = refusal e

-- bytes that are left over are refused, whatever the value
wholly_map : {A B : Type 0} (f : A → B) (g : Got A)
    → wholly (onto (λ a t. got (f a) t) g) ≡ said_map f (wholly g)
wholly_map f (got a []) = refl
wholly_map f (got a (b ∷ s)) = refl
wholly_map f (refused e) = refl

-- bytes are those of the plain model of what is read, or refused alike
pub plain_read : (s : List ℕ) → plain_of s ≡ said_map plain (read_of s)
unfolding plain_of read_of
plain_read s = ap wholly (reads_alike plain model_alike s) ∙ wholly_map plain (read_in models.model_form s)
