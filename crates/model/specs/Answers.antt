-- What reading and writing a model answer, as the rules' numbers and values.
use Rattle.std.specs.Prelude.{List, ◌++◌, ◌≡◌, ℕ, ◌≤◌, ◌<◌, length, drop, Result, Ok, Err, IfOk}
use Rattle.numbers.specs.Refusals.{refusal_number}
use Rattle.numbers.specs.declared.Refusal.{Refusal}
use Rattle.numbers.specs.declared.Refusal.TheVariants.{Shape, Model as Field}
use Rattle.codec.specs.Form.{read_in}
use Rattle.model.specs.declared.Model.{Model}
pub use Rattle.model.specs.Bytes.{Said, value, refusal, wholly}
use Rattle.model.specs.Models.{model_form}
use Rattle.model.specs.Limits.{ModelLimits}
use Rattle.model.specs.Written.{model_bytes}

-- the model that bytes stand for, or the refusal of their first fault
unfoldable pub read_of : List ℕ → Said Model
read_of s = wholly (read_in model_form s)

-- the answer of `read`
abbrev pub reading_said : Result Model Refusal → Said Model
reading_said (Ok m) = value m
reading_said (Err e) = refusal (refusal_number e)

-- the bytes are those of a model in limits
pub record Stands (s : List ℕ) (m : Model) : Type 0 where
  pub limits : ModelLimits m
  pub bytes : s ≡ model_bytes m

-- `read`: the model that the bytes stand for, or the first fault's refusal
pub record ReadsModel (s : List ℕ) (r : Result Model Refusal) : Type 0 where
  pub said : reading_said r ≡ read_of s
  pub stands : IfOk r (Stands s)

-- the answer of `write`
abbrev pub written_said : Result ℕ Refusal → Said ℕ
written_said (Ok n) = value n
written_said (Err e) = refusal (refusal_number e)

-- `write`: 8 outside the limits, then 1 where the area is short, each with the area as at entry; else the bytes at the
-- area's start, and what is behind them as at entry
pub data WritesModel (m : Model) (before after : List ℕ) (said : Said ℕ) : Type 0 where
  outside : ¬ (ModelLimits m) → after ≡ before → said ≡ refusal (refusal_number Field) → WritesModel m before after
      said
  short : ModelLimits m → length before < length (model_bytes m) → after ≡ before
      → said ≡ refusal (refusal_number Shape) → WritesModel m before after said
  wrote : ModelLimits m → length (model_bytes m) ≤ length before
      → after ≡ model_bytes m ++ drop (length (model_bytes m)) before → said ≡ value (length (model_bytes m))
      → WritesModel m before after said
