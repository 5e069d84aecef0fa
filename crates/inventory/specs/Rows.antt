-- How a row is written as a line.
use Rattle.std.specs.Prelude.{◌≡◌, ℕ, cond, List, ◌++◌, Some, Ok, Err, codes, decimal}
use Rattle.kinds.specs.Labels.{bytes_of, is_label}
use Rattle.kinds.specs.declared.rows.slot.SlotRow.{SlotRow}
use Rattle.kinds.specs.declared.not_a_label.NotALabel.TheVariants.{WrongByte}
use Rattle.inventory.specs.Lines.{meaning}
use Rattle.inventory.specs.declared.fault.Fault.TheVariants.{NotALabel}

-- the eight bytes of a label; a number that is no label has none, and eight question marks stand for them
abbrev pub label_text : ℕ → List ℕ
label_text n = cond (is_label n) (bytes_of n) (codes "????????")

abbrev pub row_text : SlotRow → List ℕ
row_text row =
    decimal row.address ++ (codes " " ++ (label_text row.label ++ (codes " " ++ (decimal row.gigabytes ++ (codes " " ++ decimal row.day)))))

-- reading what was written for a row gives the row, and a refusal where its number is no label
abbrev pub ReadsBack : SlotRow → Type 0
ReadsBack row = meaning (row_text row) ≡ cond (is_label row.label) (Ok row) (Err (Some (NotALabel (WrongByte 0))))
