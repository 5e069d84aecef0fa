-- A table of links by its cells: cell c lies at place c - 1. Link 0, which is no cell, and what lies past the last cell read as blank.
use Rattle.std.specs.Prelude.{◌≡◌, ℕ, zero, suc, ◌+◌, List, length, ◌≢◌, slice_index_or}
use Rattle.links.specs.declared.link.Link.{Link}
use Rattle.links.specs.Fields.{left_in, right_in, count_in, levels_in, refs_in, blank, SameShape}

unfoldable pub at : List Link → ℕ → Link
at ls zero = blank
at ls (suc i) = slice_index_or ls i blank

abbrev pub left_of : List Link → ℕ → ℕ
left_of ls c = left_in (at ls c)

abbrev pub right_of : List Link → ℕ → ℕ
right_of ls c = right_in (at ls c)

abbrev pub count_of : List Link → ℕ → ℕ
count_of ls c = count_in (at ls c)

abbrev pub levels_of : List Link → ℕ → ℕ
levels_of ls c = levels_in (at ls c)

abbrev pub refs_of : List Link → ℕ → ℕ
refs_of ls c = refs_in (at ls c)

-- the two links of a cell by their side, so that what holds of both is said once
pub data Side : Type 0 where
  to_left : Side
  to_right : Side

abbrev pub link_of : Side → List Link → ℕ → ℕ
link_of to_left ls c = left_of ls c
link_of to_right ls c = right_of ls c

-- the tables differ in their counts of references alone
pub record Kept (ls ms : List Link) : Type 0 where
  pub len : length ms ≡ length ls
  pub shape : (c : ℕ) → SameShape (at ls c) (at ms c)

-- one write: the count of references of one cell became n
pub record Put (ls ms : List Link) (cell n : ℕ) : Type 0 where
  pub kept : Kept ls ms
  pub here : refs_of ms cell ≡ n
  pub others : (c : ℕ) → (c ≢ cell) → at ms c ≡ at ls c

-- the sum of f over the cells 1 to n
unfoldable pub sum_to : ℕ → (ℕ → ℕ) → ℕ
sum_to zero f = 0
sum_to (suc n) f = sum_to n f + f (suc n)
