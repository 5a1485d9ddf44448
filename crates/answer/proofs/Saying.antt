-- What is printed means what it says of runs.
use mathlib.Core.List.{List, [], ◌∷◌, ◌++◌, map}
use mathlib.Core.Path.{◌≡◌, refl, sym, ap, ◌∙◌, subst}
use Prim.Native.Nat.{ℕ}
use native.Mathlib.Omega.{arith}
use lib.IntN.{ℤ}
use Rattle.codec.specs.Arrays.{All, AreBytes}
use Rattle.runs.specs.Models.{System, edge}
use Rattle.runs.specs.Verdicts.{Answer, reached, never, open_to, refused, Means, SaysReached, SaysNever, SaysOpen}
use Rattle.model.specs.declared.Model.{Model}
use Rattle.model.specs.Answers.{Said, value, refusal, read_of}
use Rattle.model.specs.Plain.{plain}
use Rattle.model.specs.Bytes.{plain_of}
use Rattle.model.proofs.Theorems.{read_written_lem}
use Rattle.model.proofs.PlainBytes.{said_map, plain_read}
use Rattle.walk.specs.Walks.{walked_of, path_in, kept_said}
use Rattle.walk.proofs.Theorems.{walked_means}
use Rattle.printing.specs.Text.{Stop, never_word, text_of}
use Rattle.printing.proofs.UniqueText.{reached_unique, open_unique, head_same}
use Rattle.answer.specs.Says.{OfModel, SaysLines, Says}
use Rattle.answer.specs.Printed.{stops_of, text_for, text_over}

-- the stops of a path have its edges, and the locations that these enter
edges_back : (S : System) (path : List ℕ) → map (λ (s : Stop). s.edge) (stops_of S path) ≡ path
edges_back S [] = refl
edges_back S (e ∷ path) = ap (λ (p : List ℕ). e ∷ p) (edges_back S path)

all_entered : (S : System) (path : List ℕ)
    → All (λ (s : Stop). s.location ≡ (edge S s.edge).destination) (stops_of S path)
all_entered S [] = tt
all_entered S (e ∷ path) = (refl, all_entered S path)

-- ---- a system and its text
module _ (S : System) (path : List ℕ) where
  never_said : (a : Answer) (rest : List ℕ) → text_of (stops_of S path) a ≡ never_word ++ rest → Means S path a → SaysNever S
  unfolding text_of
  never_said (never k t) rest e h = h
  never_said (reached d k t) rest e h = absurd (omega (arith, head_same e))
  never_said (open_to d k t) rest e h = absurd (omega (arith, head_same e))
  never_said (refused k) rest e h = absurd (omega (arith, head_same e))

  reached_said : (a : Answer) (d k t : ℕ) (stops : List Stop) → text_of (stops_of S path) a ≡ text_of stops (reached d k t)
      → Means S path a → SaysLines stops d S
  reached_said a d k t stops e h =
      let both = reached_unique d k t stops a (stops_of S path) (sym e) in
      let says = subst (Means S path) both.0 h in
      subst (λ (l : List Stop). SaysLines l d S) both.1 (record {
        says = subst (λ (p : List ℕ). SaysReached S p d) (sym (edges_back S path)) says;
        entered = all_entered S path;
      })

  open_said : (a : Answer) (d k t : ℕ) → text_of (stops_of S path) a ≡ text_of [] (open_to d k t) → Means S path a → SaysOpen S d
  open_said a d k t e h = subst (Means S path) (open_unique d k t [] a (stops_of S path) (sym e)) h

-- a refusal is no other text
module _ (number : ℕ) where
  no_never : (rest : List ℕ) → text_of [] (refused number) ≡ never_word ++ rest → ⊥
  unfolding text_of
  no_never rest e = omega (arith, head_same e)

  no_reached : (d k t : ℕ) (stops : List Stop) → text_of [] (refused number) ≡ text_of stops (reached d k t) → ⊥
  no_reached d k t stops e =
      let q = (reached_unique d k t stops (refused number) [] (sym e)).0 in let z : ◌≡◌ {A = ℕ} 0 1 = cc in omega arith

  no_open : (d k t : ℕ) → text_of [] (refused number) ≡ text_of [] (open_to d k t) → ⊥
  no_open d k t e =
      let q = open_unique d k t [] (refused number) [] (sym e) in let z : ◌≡◌ {A = ℕ} 0 1 = cc in omega arith

-- ---- bytes and their text
-- the text of the walk over bytes means what it says, in every area
pub text_says : (bytes : List ℕ) → AreBytes bytes → (area : List ℤ) → Says bytes (text_over bytes area)
unfolding text_over
text_says bytes are area = by (read_of bytes) refl
  where
    of : {P : System → Type 0} (m : Model) → read_of bytes ≡ value m → P (plain m).system → OfModel bytes P
    of m read h = record { model = plain m; read = plain_read bytes ∙ ap (said_map plain) read; holds = h }

    by : (o : Said Model) → read_of bytes ≡ o → Says bytes (text_for o (walked_of o area))
    by (value m) read =
        let S = (plain m).system in
        let w = walked_of (value m) area in
        let path = path_in m.clocks w.area (kept_said w.answer) in
        let means = walked_means m (read_written_lem bytes m are read).limits area in
        record {
          never = λ rest e. of m read (never_said S path w.answer rest e means);
          reached = λ d k t stops e. of m read (reached_said S path w.answer d k t stops e means);
          opens = λ d k t e. of m read (open_said S path w.answer d k t e means);
        }
    by (refusal n) read = record {
      never = λ rest e. absurd (no_never n rest e);
      reached = λ d k t stops e. absurd (no_reached n d k t stops e);
      opens = λ d k t e. absurd (no_open n d k t e);
    }

-- what a text says of bytes, it says of all bytes that are read alike
pub says_alike : {s t : List ℕ} (text : List ℕ) → read_of s ≡ read_of t → Says s text → Says t text
says_alike {s} {t} text e h = record {
  never = λ rest q. alike (h.never rest q);
  reached = λ d k n stops q. alike (h.reached d k n stops q);
  opens = λ d k n q. alike (h.opens d k n q);
}
  where
    same : plain_of t ≡ plain_of s
    same = plain_read t ∙ (ap (said_map plain) (sym e) ∙ sym (plain_read s))

    alike : {P : System → Type 0} → OfModel s P → OfModel t P
    alike o = record { model = o.model; read = same ∙ o.read; holds = o.holds }
