-- How the refusal of a label is told.
use Rattle.std.specs.Prelude.{ℕ}
use Rattle.kinds.specs.declared.not_a_label.NotALabel.{NotALabel}
use Rattle.kinds.specs.declared.not_a_label.NotALabel.TheVariants.{WrongLength, WrongByte}

-- the place of the first wrong byte, counted from 0, or 8 where there are not eight bytes
abbrev pub place_of : NotALabel → ℕ
place_of WrongLength = 8
place_of (WrongByte place) = place
