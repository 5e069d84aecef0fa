-- The eight bytes of a label, and the number that they write.
use Rattle.std.specs.Prelude.{ℕ, Bool, cond, not, ◌&&◌, ◌||◌, List, length, Ok, Err, Result, Some, None, Option, ◌==◌, nat_le, position}
use Rattle.std.specs.List.{list_all}
use Rattle.std.specs.Int.{w64, to_be_bytes, from_be_bytes}
use Rattle.kinds.specs.declared.not_a_label.NotALabel.{NotALabel}
use Rattle.kinds.specs.declared.not_a_label.NotALabel.TheVariants.{WrongLength, WrongByte}

-- A to Z, or 0 to 9
abbrev pub allowed : ℕ → Bool
allowed b = (nat_le 65 b && nat_le b 90) || (nat_le 48 b && nat_le b 57)

-- the eight bytes that write a number below 2 ^ 64, the first byte highest, and the number that eight bytes write
abbrev pub bytes_of : ℕ → List ℕ
bytes_of n = to_be_bytes w64 n

abbrev pub written : List ℕ → ℕ
written bs = from_be_bytes w64 bs

-- a number that is a label: every one of its bytes is allowed
abbrev pub is_label : ℕ → Bool
is_label n = list_all allowed (bytes_of n)

-- what eight bytes give: the label's number, or the place of the first byte that is not allowed, counted from 0
abbrev pub checked : List ℕ → Option ℕ → Result ℕ NotALabel
checked bs None = Ok (written bs)
checked bs (Some place) = Err (WrongByte place)

-- what reading gives: the length is looked at first
abbrev pub reading : List ℕ → Result ℕ NotALabel
reading bs = cond (length bs == 8) (checked bs (position (λ b. not (allowed b)) bs)) (Err WrongLength)
