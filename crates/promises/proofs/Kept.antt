use Rattle.std.proofs.Common.{Err, Ok}
-- Every promise is kept.
use mathlib.Core.List.{List}
use mathlib.Core.Path.{◌≡◌, refl, sym, ap, ◌∙◌, subst}
use Prim.Native.Nat.{ℕ, suc, ◌*◌, ◌≤◌}
use native.Mathlib.Omega.{arith}
use lib.IntN.{ℤ, pos}
use lib.ListN.{length, take, drop, replicate, length-replicate, length-map}
use lib.Seq.{take_at}
use Rattle.numbers.specs.declared.Refusal.TheVariants.{Shape, Entry, Arg}
use Rattle.algebra.specs.Vectors.{Vector, words}
use Rattle.algebra.specs.Sets.{Set}
use Rattle.algebra.proofs.CanonicalLists.{unique}
use Rattle.sets.specs.Demands.{Input, Good}
use Rattle.sets.proofs.Asking.{contains_settled, included_settled}
use Rattle.making.specs.Answers.{Makes}
use Rattle.making.proofs.Settled.{makes_settled}
use Rattle.runs.specs.Models.{System}
use Rattle.runs.specs.Verdicts.{SaysNever}
use Rattle.runs.specs.Verdicts.{Judged}
use Rattle.runs.specs.declared.Verdict.TheVariants.{Reached, Never, Open}
use Rattle.runs.proofs.Covering.{closed_never}
use Rattle.runs.proofs.ProperLists.{words_long}
use Rattle.model.specs.declared.Model.{Model}
use Rattle.model.specs.Answers.{value, read_of, WritesModel, outside, short, wrote}
use Rattle.model.specs.Limits.{ModelLimits}
use Rattle.model.specs.Written.{model_bytes}
use Rattle.model.proofs.Theorems.{read_written_lem, written_read_lem, size, first_many, read_settled, write_settled}
use Rattle.walk.specs.Walks.{walked_of, Walks}
use Rattle.walk.proofs.Theorems as walks
use Rattle.answer.specs.Says.{OfModel, Says}
use Rattle.answer.specs.Printed.{Answered, text_for, text_over, report_of, printed_of, Prints}
use Rattle.answer.proofs.Saying.{says_alike}
use Rattle.answer.proofs.Theorems.{answer_settled, answer_first}
use Rattle.answer.proofs.Reported.{room_full}
use Rattle.console.proofs.ReportLaws.{report_settled}
use Rattle.promises.specs.Promises.{Promises, EqualSets, ReadWritten, WrittenRead, AnswerMeans, ProgramMeans, ProgramRoom}
use Rattle.promises.specs.Promises.{NoRun, TextMeans, Certain, Stable, Counted, ClosedMeans}

-- ---- sets
equal_sets_lem : EqualSets
equal_sets_lem c d n A B before before' k k' after after' p q h = (many, front p ∙ (ap words same ∙ sym (front' q)))
  where
    good : (e : Input) {S : Set} {start last : List ℤ} {j : ℕ} → Makes e n S start (Ok j) last → Good e
    good e m = (m.outcome.met Shape (omega arith), m.outcome.met Entry (omega arith), m.outcome.met Arg (omega arith))

    same : p.R ≡ q.R
    same = unique n p.R q.R (p.canonical (good c p)) (q.canonical (good d q)) (λ x. (
      λ i. (q.exact (good d q) x).1 ((h x).0 ((p.exact (good c p) x).0 i)),
      λ i. (p.exact (good c p) x).1 ((h x).1 ((q.exact (good d q) x).0 i)),
    ))

    many : k ≡ k'
    many = p.outcome.count ∙ (ap (λ (R : List Vector). length R) same ∙ sym q.outcome.count)

    start : (e : Input) {S : Set} {from last : List ℤ} {j : ℕ} (m : Makes e n S from (Ok j) last)
        → take (j * suc n) last ≡ words m.R
    start e {from = from} {j = j} m =
        ap (take (j * suc n)) m.outcome.area
        ∙ take_at (words m.R) (drop (length (words m.R)) from) (j * suc n)
        (words_long n m.R (m.canonical (good e m)).long ∙ ap (λ (i : ℕ). i * suc n) (sym m.outcome.count))

    front : (m : Makes c n A before (Ok k) after) → take (k * suc n) after ≡ words m.R
    front m = start c m

    front' : (m : Makes d n B before' (Ok k') after') → take (k * suc n) after' ≡ words m.R
    front' m = ap (λ (i : ℕ). take (i * suc n) after') many ∙ start d m

-- ---- bytes
-- what was written stands at the start
written_start : (m : Model) (before after : List ℕ) (k : ℕ) → WritesModel m before after (value k)
    → take k after ≡ model_bytes m
written_start m before after k (outside l a e) = absurd (let z : ◌≡◌ {A = ℕ} 0 1 = cc in omega arith)
written_start m before after k (short l h a e) = absurd (let z : ◌≡◌ {A = ℕ} 0 1 = cc in omega arith)
written_start m before after k (wrote l h a e) =
    let long : k ≡ length (model_bytes m) = cc in
    ap (take k) a ∙ take_at (model_bytes m) (drop (length (model_bytes m)) before) k (sym long)

read_back : ReadWritten
read_back bytes m are e before after k w = written_start m before after k w ∙ sym (read_written_lem bytes m are e).bytes

written_back : WrittenRead
written_back m before after k w = ap read_of (written_start m before after k w) ∙ written_read_lem m (limits w)
  where
    limits : WritesModel m before after (value k) → ModelLimits m
    limits (outside l a e) = absurd (let z : ◌≡◌ {A = ℕ} 0 1 = cc in omega arith)
    limits (short l h a e) = l
    limits (wrote l h a e) = l

-- the first bytes of an input
walked_first : (input : List ℕ) (k : ℕ) → 33665 ≤ k → (before : List ℤ) (v : Judged) (after : List ℤ)
    → Walks (take k input) before v after → Walks input before v after
walked_first s k h before v after w = record {
  rule = w.rule ∙ walks.walk_first s k before h;
  means = λ m e. w.means m (first_many s k h ∙ e);
}

answered_first : (input : List ℕ) (k : ℕ) → 33665 ≤ k → (area : List ℤ) (text : List ℕ) (r : ℕ) (area' : List ℤ)
    (text' : List ℕ) → Prints (take k input) area text r area' text' → Prints input area text r area' text'
unfolding text_over
answered_first s k h area text r area' text' p = record {
  is = p.is ∙ answer_first s k area text h;
  means = subst (Says s) (ap (λ o. text_for o (walked_of o area)) (first_many s k h))
      (says_alike (text_over (take k s) area) (first_many s k h) p.means);
}

-- ---- runs
no_run : {S : System} → SaysNever S → NoRun S
no_run h edges r = h (length edges) (record { edges = edges; reaches = r; many = refl })

text_means : (bytes text : List ℕ) → Says bytes text → TextMeans bytes text
text_means bytes text s = record {
  never = λ rest e. map_of (λ S h. no_run h) (s.never rest e);
  reached = λ d k t stops e. map_of (λ S h. record {
    many = sym (length-map stops _) ∙ sym h.says.many;
    runs = h.says.reaches;
    first = λ edges l r. h.says.first (length edges) l (record { edges = edges; reaches = r; many = refl });
    entered = h.entered;
  }) (s.reached d k t stops e);
  opens = λ d k t e. map_of (λ S h edges l r. h (length edges) l (record { edges = edges; reaches = r; many = refl }))
      (s.opens d k t e);
}
  where
    map_of : {P Q : System → Type 0} → ((S : System) → P S → Q S) → OfModel bytes P → OfModel bytes Q
    map_of f o = record { model = o.model; read = o.read; holds = f _ o.holds }

answer_means_lem : AnswerMeans
unfolding printed_of
answer_means_lem bytes area text r area' text' p = subst (TextMeans bytes) (sym is) (text_means bytes (text_over bytes area) p.means)
  where
    is : take r text' ≡ text_over bytes area
    is = ap (take r) (ap (λ (x : Answered). x.text) p.is)
        ∙ take_at (text_over bytes area) _ r (sym (ap (λ (x : Answered). x.length) p.is))

program_means_lem : ProgramMeans
program_means_lem buffer n text r text' p input b =
    let q = p.of input b in
    subst (TextMeans input) (sym (ap (take r) q.is ∙ take_at (report_of input) _ r (sym q.long)))
    (text_means input (report_of input) q.means)

program_room_lem : ProgramRoom
program_room_lem n h = room_full n h (replicate 14592 (pos 0)) (omega (arith, length-replicate 14592 (pos 0)))

certain : (v : Judged) → Certain v → walks.Certain v
certain (Ok (Reached d k t)) c = c
certain (Ok (Never k t)) c = c
certain (Ok (Open d k t)) c = c
certain (Err e) c = c

stable : Stable
stable s s' m depth are are' e e' d before before' r v v' after after' w w' c =
    walks.walk_stable s s' m depth are are' e e' d before before' r v v' after after' w w' (certain v c)

counted : Counted
counted s m are e before (Ok (Reached d k t)) after w = walks.walk_counts s m are e before (Ok (Reached d k t)) after w
counted s m are e before (Ok (Never k t)) after w = walks.walk_counts s m are e before (Ok (Never k t)) after w
counted s m are e before (Ok (Open d k t)) after w = walks.walk_counts s m are e before (Ok (Open d k t)) after w
counted s m are e before (Err x) after w = omega arith

closed_means_lem : ClosedMeans
closed_means_lem S m location list c = no_run (closed_never S m location list c)

-- ---- all of them
pub kept : Promises
kept = record {
  settled = record {
    contains = contains_settled;
    included = included_settled;
    makes = makes_settled;
    read = read_settled;
    write = λ m before a b after last p q. write_settled m before after last a b p q;
    walk = walks.walk_settled;
    answer = answer_settled;
    report = report_settled;
  };
  equal_sets = equal_sets_lem;
  read_written = read_back;
  written_read = written_back;
  model_size = size;
  first_bytes = record { read = first_many; walk = walked_first; answer = answered_first };
  answer_means = answer_means_lem;
  program_means = program_means_lem;
  program_room = program_room_lem;
  stable = stable;
  counted = counted;
  never_closed = walks.never_closed_lem;
  closed_means = closed_means_lem;
}
