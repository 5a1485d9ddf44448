-- What holds of reading and writing a model.
use mathlib.Core.List.{List, [], ◌∷◌, append-nil}
use mathlib.Core.Path.{◌≡◌, refl, sym, ap, ◌∙◌, subst}
use Prim.Native.Nat.{ℕ, ◌≤◌, ◌<◌}
use native.Mathlib.Omega.{arith}
use lib.ListN.{length, get_or, take}
use lib.Seq.{take-take}
use Rattle.std.specs.Prelude.{Result, Ok, Err}
use Rattle.numbers.specs.declared.Refusal.{Refusal}
use Rattle.numbers.proofs.RefusalLaws.{number_inj}
use Rattle.std.specs.Prelude.{Result, Ok, Err}
use Rattle.codec.specs.Number.{Got, got, refused}
use Rattle.codec.specs.Form.{read_in}
use Rattle.codec.specs.Arrays.{AreBytes}
use Rattle.model.specs.declared.Model.{Model}
use Rattle.model.specs.declared.Outline.{Outline}
use Rattle.model.specs.Models.{model_form, past_edge}
use Rattle.model.specs.Limits.{ModelLimits}
use Rattle.model.specs.Written.{model_bytes}
use Rattle.model.specs.Answers.{
  Said,
  value,
  refusal,
  wholly,
  read_of,
  Stands,
  ReadsModel,
  written_said,
  WritesModel,
  outside,
  short,
  wrote,
}
use Rattle.model.specs.Outlines.{model_by, past_standing, ReadsOutline}
use Rattle.model.proofs.WholeTrip.{model_there, model_back}
use Rattle.model.proofs.ModelSize as sizes

-- a model in limits, written and read back, is the same model
pub written_read_lem : (m : Model) → ModelLimits m → read_of (model_bytes m) ≡ value m
unfolding read_of
written_read_lem m w =
    ap (λ (s : List ℕ). wholly (read_in model_form s)) (sym (append-nil (model_bytes m)))
    ∙ ap wholly (model_there m [] w).is

-- bytes read and written back are the same bytes, and the model is in limits
pub read_written_lem : (s : List ℕ) (m : Model) → AreBytes s → read_of s ≡ value m → Stands s m
unfolding read_of
read_written_lem s m hs e = by_found (read_in model_form s) refl e
  where
    stands : {n : Model} → read_in model_form s ≡ got n [] → n ≡ m → Stands s m
    stands {n} f q =
        let back = model_back m s [] hs (record { is = f ∙ ap (λ (x : Model). got x []) q }) in
        record { limits = back.0; bytes = back.1 ∙ append-nil (model_bytes m) }

    by_found : (g : Got Model) → read_in model_form s ≡ g → wholly g ≡ value m → Stands s m
    by_found (got n []) f q = stands f (cc)
    by_found (got n (b ∷ t)) f q = absurd (let z : ◌≡◌ {A = ℕ} 0 1 = cc in omega arith)
    by_found (refused n) f q = absurd (let z : ◌≡◌ {A = ℕ} 0 1 = cc in omega arith)

-- a model in limits has at most 33,664 bytes
pub size : (m : Model) → ModelLimits m → length (model_bytes m) ≤ 33664
size = sizes.size

-- reading a longer input's first 33,665 bytes answers as reading all of it
pub first_bytes_lem : (s : List ℕ) → read_of (take 33665 s) ≡ read_of s
first_bytes_lem = sizes.first_bytes_lem

-- and so does reading more of them
pub first_many : (s : List ℕ) (k : ℕ) → 33665 ≤ k → read_of (take k s) ≡ read_of s
first_many s k h = sym (first_bytes_lem (take k s)) ∙ ap read_of (take-take 33665 k s h) ∙ first_bytes_lem s

-- ---- the contracts settle the answers
same_number : {A : Type 0} {a b : ℕ} → ◌≡◌ {A = Said A} (refusal a) (refusal b) → a ≡ b
same_number q = cc

same_value : {A : Type 0} {a b : A} → ◌≡◌ {A = Said A} (value a) (value b) → a ≡ b
same_value q = cc

apart : {A : Type 0} {a : A} {n : ℕ} → ◌≡◌ {A = Said A} (value a) (refusal n) → ⊥
apart q = let z : ◌≡◌ {A = ℕ} 0 1 = cc in omega arith

-- two answers of `read` to the same bytes are equal
pub read_settled : (s : List ℕ) (p q : Result Model Refusal) → ReadsModel s p → ReadsModel s q → p ≡ q
read_settled s (Ok m) (Ok n) v w = ap Ok (same_value (v.said ∙ sym w.said))
read_settled s (Err e) (Err f) v w = ap Err (number_inj e f (same_number (v.said ∙ sym w.said)))
read_settled s (Ok m) (Err f) v w = absurd (apart (v.said ∙ sym w.said))
read_settled s (Err e) (Ok n) v w = absurd (apart (w.said ∙ sym v.said))

-- two outlines of the same bytes: the places may differ, and what stands there is the same
pub record SameOutline (o u : Outline) : Type 0 where
  pub model : model_by o ≡ model_by u
  pub sources : (e : ℕ) → e < o.edges
      → (get_or o.steps e past_standing).source ≡ (get_or u.steps e past_standing).source

-- two answers of `read_outline`: the same refusal, or outlines with the same model
abbrev pub SameOutlined : Result Outline Refusal → Result Outline Refusal → Type 0
SameOutlined (Ok o) (Ok u) = SameOutline o u
SameOutlined (Err e) (Err f) = e ≡ f
SameOutlined (Ok o) (Err f) = ⊥
SameOutlined (Err e) (Ok u) = ⊥

pub outline_settled : (s : List ℕ) (p q : Result Outline Refusal) → ReadsOutline s p → ReadsOutline s q
    → SameOutlined p q
outline_settled s (Ok o) (Ok u) v w =
    let same : model_by o ≡ model_by u = same_value (v.said ∙ sym w.said) in
    record {
      model = same;
      sources = λ e h.
          v.holds.sources e h ∙ ap (λ (m : Model). (get_or m.steps e past_edge).source) same
          ∙ sym (w.holds.sources e (subst (λ (m : Model). e < m.edges) same h));
    }
outline_settled s (Err e) (Err f) v w = number_inj e f (same_number (v.said ∙ sym w.said))
outline_settled s (Ok o) (Err f) v w = absurd (apart (v.said ∙ sym w.said))
outline_settled s (Err e) (Ok u) v w = absurd (apart (w.said ∙ sym v.said))

same_answer : (r q : Result ℕ Refusal) → written_said r ≡ written_said q → r ≡ q
same_answer (Ok a) (Ok b) e = ap Ok (same_value e)
same_answer (Err a) (Err b) e = ap Err (number_inj a b (same_number e))
same_answer (Ok a) (Err b) e = absurd (apart e)
same_answer (Err a) (Ok b) e = absurd (apart (sym e))

-- two answers of `write` to the same model and area, and the areas after them, are equal
pub write_settled : (m : Model) (before after last : List ℕ) (r q : Result ℕ Refusal)
    → WritesModel m before after (written_said r) → WritesModel m before last (written_said q) → (r ≡ q) ×
    (after ≡ last)
write_settled m before after last r q v w = let both = by_cases v w in (same_answer r q both.0, both.1)
  where
    by_cases : {s t : Said ℕ} → WritesModel m before after s → WritesModel m before last t → (s ≡ t) × (after ≡ last)
    by_cases (outside l a e) (outside k b f) = (e ∙ sym f, a ∙ sym b)
    by_cases (short l h a e) (short k i b f) = (e ∙ sym f, a ∙ sym b)
    by_cases (wrote l h a e) (wrote k i b f) = (e ∙ sym f, a ∙ sym b)
    by_cases (outside l a e) (short k i b f) = absurd (l k)
    by_cases (outside l a e) (wrote k i b f) = absurd (l k)
    by_cases (short l h a e) (outside k b f) = absurd (k l)
    by_cases (wrote l h a e) (outside k b f) = absurd (k l)
    by_cases (short l h a e) (wrote k i b f) = absurd (omega arith)
    by_cases (wrote l h a e) (short k i b f) = absurd (omega arith)
