-- The answers of the calls that ask: the rule meets each contract, and each contract settles its answer.
use Rattle.std.proofs.Common.{Err, Ok}
use mathlib.Core.Bool.{Bool, true, false, ◌&&◌, cond}
use mathlib.Core.List.{List, map}
use mathlib.Core.Path.{◌≡◌, refl, sym, ap, subst}
use Prim.Native.Nat.{ℕ, ◌<◌}
use native.Mathlib.Omega.{arith}
use lib.Dec.{eqb}
use lib.IntN.{ℤ}
use lib.ListN.{length}
use Rattle.numbers.specs.Words.{number}
use Rattle.numbers.specs.Refusals.{refusal_number}
use Rattle.numbers.specs.declared.Refusal.{Refusal}
use Rattle.numbers.specs.declared.Refusal.TheVariants.{Shape, Entry, Arg, Range, Gens, Room, Bytes, Model}
use Rattle.numbers.proofs.RefusalLaws.{number_inj, number_range}
use Rattle.numbers.proofs.Tells.{Tells, means, both, tells_eqb}
use Rattle.algebra.specs.Sets.{set_of, Included}
use Rattle.sets.specs.Types.{Told}
use Rattle.sets.specs.Limits.{Clocks, Whole}
use Rattle.sets.specs.Demands.{Demands, Refuses, Input, Good as GoodInput, asking}
use Rattle.sets.specs.Answers.{said_by, Asks}
use Rattle.sets.specs.Calls.{contains_input, Contains, included_input, IsIncluded}
use Rattle.sets.specs.Tests.{clocks_ok, whole_ok, list_ok, words_ok}
use Rattle.sets.specs.Rules.{checked, tell_after, inside, has_point, covered}
use Rattle.sets.specs.Rules.{contains_checked, contains_of, included_checked, included_of}
use Rattle.sets.proofs.TestLaws.{tells_clocks, tells_whole, tells_words, tells_list}
use Rattle.sets.proofs.Membership.{tells_inside, tells_included}

-- the first demand that is not met has one number
pub one_refusal : (demand : Demands) (k l : ℕ) → Refuses demand k → Refuses demand l → k ≡ l
one_refusal demand k l p q =
    let no_less : ¬ (k < l) = λ h. p.broken (q.before p.why (subst (λ (n : ℕ). n < l) p.number h)) in
    let no_more : ¬ (l < k) = λ h. q.broken (p.before q.why (subst (λ (n : ℕ). n < k) q.number h)) in
    omega (arith, no_less, no_more)

-- ---- the contract settles the answer
all_met : (c : Input) → GoodInput c → (e : Refusal) → asking c e
all_met c g Shape = g.0
all_met c g Entry = g.1
all_met c g Arg = g.2
all_met c g Range = tt
all_met c g Gens = tt
all_met c g Room = tt
all_met c g Bytes = tt
all_met c g Model = tt

-- two answers that a contract allows are equal
pub asks_settled : (c : Input) (question : Type 0) (a b : Told)
    → Asks c question (said_by a) → Asks c question (said_by b) → a ≡ b
asks_settled c question (Ok true) (Ok true) p q = refl
asks_settled c question (Ok true) (Ok false) p q = absurd (q.1 p.1)
asks_settled c question (Ok true) (Err e) p q = absurd (q.broken (all_met c p.0 q.why))
asks_settled c question (Ok false) (Ok true) p q = absurd (p.1 q.1)
asks_settled c question (Ok false) (Ok false) p q = refl
asks_settled c question (Ok false) (Err e) p q = absurd (q.broken (all_met c p.0 q.why))
asks_settled c question (Err e) (Ok true) p q = absurd (p.broken (all_met c q.0 p.why))
asks_settled c question (Err e) (Ok false) p q = absurd (p.broken (all_met c q.0 p.why))
asks_settled c question (Err e) (Err f) p q =
    ap Err (number_inj e f (one_refusal (asking c) (refusal_number e) (refusal_number f) p q))

-- ---- the rule meets the contract
-- SHAPE is the first demand, ENTRY the second
broken_shape : (c : Input) → ¬ c.shape → Refuses (asking c) 1
broken_shape c h = record {
  why = Shape;
  number = refl;
  broken = h;
  before = λ e l. absurd (omega (arith, number_range e));
}

broken_limits : (c : Input) → c.shape → ¬ c.limits → Refuses (asking c) 2
broken_limits c s h = record {
  why = Entry;
  number = refl;
  broken = h;
  before = λ e l. one e (omega (arith, number_range e));
}
  where
    one : (e : Refusal) → refusal_number e ≡ 1 → asking c e
    one e q = subst (asking c) (number_inj Shape e (sym q)) s

-- tests in order, then the answer of a test that tells the question
asks_by : (c : Input) (question : Type 0) (shape limits answer : Bool)
    → Tells shape c.shape → Tells limits c.limits → c.arg → (GoodInput c → Tells answer question)
    → Asks c question (said_by (tell_after (checked shape limits) answer))
asks_by c question false limits answer s l a t = broken_shape c (s.no refl)
asks_by c question true false answer s l a t = broken_limits c (s.yes refl) (l.no refl)
asks_by c question true true true s l a t = let g : GoodInput c = (s.yes refl, l.yes refl, a) in (g, (t g).yes refl)
asks_by c question true true false s l a t = let g : GoodInput c = (s.yes refl, l.yes refl, a) in (g, (t g).no refl)

-- ---- contains
contains_shape : (n : ℕ) (l p : List ℤ)
    → Tells (clocks_ok n && (whole_ok n (length l) && eqb (length p) n)) (Clocks n × Whole n l × (length p ≡ n))
contains_shape n l p = means (λ h. (h.0, h.1.0, h.1.1)) (λ h. (h.0, (h.1, h.2)))
    (both (clocks_ok n) (whole_ok n (length l) && eqb (length p) n) (tells_clocks n)
    (both (whole_ok n (length l)) (eqb (length p) n) (tells_whole n l) (tells_eqb (length p) n)))

-- the rule's answer meets the contract
pub contains_meets : (n : ℕ) (l p : List ℤ) → Contains n l p (contains_of n l p)
unfolding contains_of contains_checked
contains_meets n l p = asks_by (contains_input n l p) (set_of n l (map number p))
    (clocks_ok n && (whole_ok n (length l) && eqb (length p) n)) (list_ok n l && words_ok false n p) (inside n l p)
    (contains_shape n l p) (both (list_ok n l) (words_ok false n p) (tells_list n l) (tells_words false n p)) tt
    (λ g. tells_inside n l p g.0.2 g.1.0)

-- the contract allows one answer
pub contains_settled : (n : ℕ) (l p : List ℤ) (a b : Told) → Contains n l p a → Contains n l p b → a ≡ b
contains_settled n l p = asks_settled (contains_input n l p) (set_of n l (map number p))

-- ---- included
included_shape : (n : ℕ) (inner outer : List ℤ)
    → Tells (clocks_ok n && (whole_ok n (length inner) && whole_ok n (length outer)))
    (Clocks n × Whole n inner × Whole n outer)
included_shape n inner outer = means (λ h. (h.0, h.1.0, h.1.1)) (λ h. (h.0, (h.1, h.2)))
    (both (clocks_ok n) (whole_ok n (length inner) && whole_ok n (length outer)) (tells_clocks n)
    (both (whole_ok n (length inner)) (whole_ok n (length outer)) (tells_whole n inner) (tells_whole n outer)))

-- the rule's answer meets the contract
pub included_meets : (n : ℕ) (inner outer : List ℤ) → IsIncluded n inner outer (included_of n inner outer)
unfolding included_of included_checked
included_meets n inner outer = asks_by (included_input n inner outer) (Included (set_of n inner) (set_of n outer))
    (clocks_ok n && (whole_ok n (length inner) && whole_ok n (length outer))) (list_ok n inner && list_ok n outer)
    (cond (has_point n inner) (covered n inner outer) true)
    (included_shape n inner outer) (both (list_ok n inner) (list_ok n outer) (tells_list n inner) (tells_list n outer)) tt
    (λ g. tells_included n inner outer g.1.0 g.1.1)

-- the contract allows one answer
pub included_settled : (n : ℕ) (inner outer : List ℤ) (a b : Told)
    → IsIncluded n inner outer a → IsIncluded n inner outer b → a ≡ b
included_settled n inner outer = asks_settled (included_input n inner outer) (Included (set_of n inner) (set_of n outer))

-- ---- the code's way to the answer
-- tests that all passed
all_passed : (shape limits : Bool) → checked shape limits ≡ (Ok tt) → (shape ≡ true) × (limits ≡ true)
all_passed false limits e = absurd (let z : ◌≡◌ {A = ℕ} 0 1 = cc in omega arith)
all_passed true false e = absurd (let z : ◌≡◌ {A = ℕ} 0 1 = cc in omega arith)
all_passed true true e = (refl, refl)

-- an answer by the rule meets the contract
pub contains_as : (n : ℕ) (l p : List ℤ) {r : Told} → r ≡ contains_of n l p → Contains n l p r
contains_as n l p e = subst (Contains n l p) (sym e) (contains_meets n l p)

-- so it does for `included`
pub included_as : (n : ℕ) (inner outer : List ℤ) {r : Told} → r ≡ included_of n inner outer → IsIncluded n inner outer r
included_as n inner outer e = subst (IsIncluded n inner outer) (sym e) (included_meets n inner outer)

-- input that was checked is good
pub contains_good : (n : ℕ) (l p : List ℤ) → contains_checked n l p ≡ (Ok tt) → GoodInput (contains_input n l p)
unfolding contains_checked
contains_good n l p e = (
  (contains_shape n l p).yes b.0,
  (both (list_ok n l) (words_ok false n p) (tells_list n l) (tells_words false n p)).yes b.1,
  tt,
)
  where
    b : ((clocks_ok n && (whole_ok n (length l) && eqb (length p) n)) ≡ true) × ((list_ok n l && words_ok false n p) ≡ true)
    b = all_passed _ _ e

-- so it is for `included`
pub included_good : (n : ℕ) (inner outer : List ℤ) → included_checked n inner outer ≡ (Ok tt)
    → GoodInput (included_input n inner outer)
unfolding included_checked
included_good n inner outer e = (
  (included_shape n inner outer).yes b.0,
  (both (list_ok n inner) (list_ok n outer) (tells_list n inner) (tells_list n outer)).yes b.1,
  tt,
)
  where
    b : ((clocks_ok n && (whole_ok n (length inner) && whole_ok n (length outer))) ≡ true)
        × ((list_ok n inner && list_ok n outer) ≡ true)
    b = all_passed _ _ e
