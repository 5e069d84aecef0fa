-- How faults and notes are worded.
use Rattle.std.specs.Prelude.{ℕ, List, ◌++◌, codes, decimal}
use Rattle.kinds.specs.declared.not_a_label.NotALabel.TheVariants.{WrongLength, WrongByte}
use Rattle.inventory.specs.declared.fault.Field.{Field}
use Rattle.inventory.specs.declared.fault.Field.TheVariants.{Address, Label, Gigabytes, Day}
use Rattle.inventory.specs.declared.fault.Fault.{Fault}
use Rattle.inventory.specs.declared.fault.Fault.TheVariants.{Missing, NotANumber, TooLarge, NotALabel, ExtraWord}
use Rattle.inventory.specs.declared.note.Note.{Note}
use Rattle.inventory.specs.declared.note.Remark.{Remark}
use Rattle.inventory.specs.declared.note.Remark.TheVariants.{Faulty, Repeated}

abbrev pub field_text : Field → List ℕ
field_text Address = codes "address"
field_text Label = codes "label"
field_text Gigabytes = codes "gigabytes"
field_text Day = codes "day"

abbrev pub fault_text : Fault → List ℕ
fault_text (Missing field) = field_text field ++ codes " is missing"
fault_text (NotANumber field) = field_text field ++ codes " is not a number"
fault_text (TooLarge field) = field_text field ++ codes " is too large"
fault_text (NotALabel WrongLength) = codes "label does not have eight bytes"
fault_text (NotALabel (WrongByte place)) = codes "label has a wrong byte at place " ++ decimal place
fault_text ExtraWord = codes "a word follows the day"

abbrev pub remark_text : Remark → List ℕ
remark_text (Faulty fault) = codes "refused, " ++ fault_text fault
remark_text (Repeated address) = codes "address " ++ (decimal address ++ codes " again, this line stands")

abbrev pub note_text : Note → List ℕ
note_text n = codes "line " ++ (decimal n.line ++ (codes ": " ++ remark_text n.remark))
