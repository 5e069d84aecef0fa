-- The worked cases: one run of the book of slots with 4 holds and first number 7, and the reserve of a small build.
use Rattle.std.specs.Prelude.{◌≡◌, ℕ, true, false, List, [], ◌∷◌, Some}
use Rattle.kinds.specs.declared.rows.slot.SlotRow.{SlotRow}
use Rattle.kinds.specs.contracts.rows.slot.SlotRowKind.TheImpl.{ghosts}
use Rattle.book.specs.Numbers.{digits, build_reserve, exceeds}
use Rattle.book.specs.Calls.{Call, build, put, remove, share, window, sift, without, give_back, ask, compare, find, position, sum, page, Answer, given, returned, says, refused, entry, amount, entries, alike}
use Rattle.book.specs.Book.{opened}
use Rattle.book.specs.Run.{Event, Rights}
use Rattle.book.specs.declared.refusal.Refusal.TheVariants.{NotHeld, CrossedBounds, HoldsTaken}

-- labelled A00001L8, A00002L8 and A00003L8
abbrev pub A : SlotRow
A = record { label = 0x4130303030314C38; gigabytes = 800; address = 10; day = 300 }

abbrev pub B : SlotRow
B = record { label = 0x4130303030324C38; gigabytes = 1200; address = 11; day = 280 }

abbrev pub C : SlotRow
C = record { label = 0x4130303030334C38; gigabytes = 0; address = 20; day = 310 }

infixl 40 ◌↝◌
abbrev pub ◌↝◌ : Call SlotRow ℕ ℕ → Answer SlotRow (ℕ × ℕ) → Event SlotRow ℕ (ℕ × ℕ) ℕ
◌↝◌ c a = record { call = c; answer = a }

abbrev pub events : List (Event SlotRow ℕ (ℕ × ℕ) ℕ)
events =
    (build (B ∷ A ∷ []) ↝ given 7) ∷ (ask 7 (position 0) ↝ says (entry (Some A)))
    ∷ (put 7 C ↝ given 8) ∷ (ask 8 (sum 10 20) ↝ says (amount (2000, 280)))
    ∷ (ask 8 (sum 12 19) ↝ says (amount (0, 65535)))
    ∷ (put 7 C ↝ given 9) ∷ (compare 8 9 ↝ says (alike true)) ∷ (compare 7 8 ↝ says (alike false))
    ∷ (remove 9 20 ↝ given 10) ∷ (compare 7 10 ↝ says (alike true))
    ∷ (share 7 ↝ refused HoldsTaken)
    ∷ (give_back 8 ↝ returned) ∷ (ask 8 (find 10) ↝ refused (NotHeld 8)) ∷ (share 7 ↝ given 11)
    ∷ (window 7 20 10 ↝ refused CrossedBounds)
    ∷ (give_back 9 ↝ returned) ∷ (sift 7 290 ↝ given 12) ∷ (ask 12 (page 0 8) ↝ says (entries (B ∷ [])))
    ∷ (give_back 10 ↝ returned) ∷ (without 7 12 ↝ given 13) ∷ (ask 13 (page 0 8) ↝ says (entries (A ∷ [])))
    ∷ []

-- every answer and refusal above is right, in a book with so many holds and this first number
abbrev pub TenCases : ℕ → ℕ → Type 0
TenCases holds first = Rights ghosts.ops (opened holds first) events

-- with so many cells and none used, a build from 7 entries is accepted, with reserve 55, and one from 8 is declined, with 68
pub record SmallBuilds (cells : ℕ) : Type 0 where
  pub seven : build_reserve 7 ≡ 55
  pub accepted : exceeds cells 0 (build_reserve 7) ≡ false
  pub eight : build_reserve 8 ≡ 68
  pub declined : exceeds cells 0 (build_reserve 8) ≡ true

pub record SmallDigits : Type 0 where
  pub zero : digits 0 ≡ 0
  pub seven : digits 7 ≡ 3
  pub eight : digits 8 ≡ 4
