-- Places read one by one, and what stands there.
use mathlib.Core.List.{List, map}
use mathlib.Core.Path.{◌≡◌, sym, ◌∙◌}
use Prim.Native.Nat.{ℕ}
use lib.ListN.{length, length-map}
use Rattle.codec.specs.Number.{got}
use Rattle.codec.specs.Form.{Form, read_in, many}
use Rattle.codec.proofs.ArrayLaws.{many_long}
use Rattle.model.specs.declared.Standing.{Standing}
use Rattle.model.specs.Outlines.{edge_by}

-- the source of the edge at a place
abbrev pub source_at : ℕ → ℕ → Standing → ℕ
source_at n l p = (edge_by n l p).source

-- as many places are stored as items are read
pub many_placed : {P A : Type 0} (F : Form A) (f : P → A) (n : ℕ) (s : List ℕ) (places : List P) {t : List ℕ}
    → got (map f places) t ≡ read_in (many n F) s → length places ≡ n
many_placed F f n s places e = sym (length-map places f) ∙ many_long F n s (sym e)
