-- What the overdue report tells of an inventory.
use Rattle.std.specs.Prelude.{ℕ, suc, cond, List, [], ◌∷◌, ◌++◌, map, is_some, Option, Some, None, Ok, Err}
use Rattle.std.specs.List.{filter_map}
use Rattle.kinds.specs.declared.rows.slot.SlotRow.{SlotRow}
use Rattle.kinds.specs.contracts.rows.slot.SlotRowKind.TheImpl.{ghosts}
use Rattle.book.specs.Lists.{find, put, build}
use Rattle.inventory.specs.Lines.{Said, lines_of, meaning}
use Rattle.inventory.specs.declared.note.Note.{Note}
use Rattle.inventory.specs.declared.note.Remark.{Remark}
use Rattle.inventory.specs.declared.note.Remark.TheVariants.{Faulty, Repeated}

-- the row that a line says, if it says one
abbrev pub row_said : Said → Option SlotRow
row_said (Ok row) = Some row
row_said (Err why) = None

-- the rows among lines, in their order
abbrev pub rows_of : List Said → List SlotRow
rows_of ls = filter_map row_said ls

-- the inventory after one more line
abbrev pub after : Said → List SlotRow → List SlotRow
after (Ok row) rows = put ghosts.ops row rows
after (Err why) rows = rows

-- what is to be said of a line where the lines before it gave these rows
abbrev pub remarks : Said → List SlotRow → List Remark
remarks (Ok row) rows = cond (is_some (find ghosts.ops row.address rows)) (Repeated row.address ∷ []) []
remarks (Err None) rows = []
remarks (Err (Some fault)) rows = Faulty fault ∷ []

abbrev pub noted : ℕ → List Remark → List Note
noted line rs = map (λ r. record { line = line; remark = r }) rs

-- what is to be said of lines, each with its number, the first line's being i
abbrev pub notes_from : ℕ → List SlotRow → List Said → List Note
notes_from i rows [] = []
notes_from i rows (l ∷ ls) = noted i (remarks l rows) ++ notes_from (suc i) (after l rows) ls

-- what every line of a text says
abbrev pub saying : List ℕ → List Said
saying text = map meaning (lines_of text)

-- the cartridges of a text in the order of their addresses; of two lines with one address the later stands
abbrev pub inventory : List ℕ → List SlotRow
inventory text = build ghosts.ops (rows_of (saying text))
