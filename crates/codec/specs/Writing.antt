-- What a writer has done with its area.
use Rattle.std.specs.Prelude.{List, ◌≡◌, ℕ}
use Rattle.codec.specs.Answers.{Writes, Room}
use Rattle.codec.specs.declared.writing.Writer.{Writer}

-- there is room for bytes where the writer stands
abbrev pub HasRoom : Writer → List ℕ → Type 0
HasRoom w bytes = Room w.at bytes w.out.now

-- the writer w has stored bytes, and is v then, which stands behind them in the same area
pub record Wrote (w : Writer) (bytes : List ℕ) (v : Writer) : Type 0 where
  pub same : v.out.ghost_name ≡ w.out.ghost_name
  pub writes : Writes w.out.now w.at bytes v.out.now v.at
