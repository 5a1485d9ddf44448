-- The table of the code, in the words of the rule's table.
use Rattle.std.specs.Prelude.{List, ◌≡◌, ℕ, suc, ◌*◌, ℤ, length, take}
use Rattle.runs.specs.Table.{Slot as RuleSlot, Row as RuleRow, ax, ay, b, cx, cy, d}
use Rattle.steps.specs.declared.table.Slot.{Slot}
use Rattle.steps.specs.declared.table.Slot.TheVariants.{Ax, Ay, B, Cx, Cy, D}
use Rattle.steps.specs.declared.table.Row.{Row}

-- a slot
abbrev pub slot_by : Slot → RuleSlot
slot_by Ax = ax
slot_by Ay = ay
slot_by B = b
slot_by Cx = cx
slot_by Cy = cy
slot_by D = d

-- a row
abbrev pub row_by : Row → RuleRow
row_by r = record { nought = slot_by r.nought; constant = slot_by r.constant }

-- the first 2(n + 1) words are those of a half-space
pub record Halves (n : ℕ) (half words : List ℤ) : Type 0 where
  pub long : length words ≡ 14
  pub front : take (2 * suc n) words ≡ half
