-- The cells as a ring, passed upward by a cursor, and which of them a call can still take.
use Rattle.std.specs.Prelude.{◌≡◌, ℕ, ◌+◌, ◌-◌, ◌<◌, ◌≤◌, Bool, cond, ◌&&◌, List, length, ◌==◌, ◌≢◌, nat_le, nat_lt}
use Rattle.links.specs.declared.link.Link.{Link}
use Rattle.links.specs.declared.ring.Cursor.{Cursor}
use Rattle.links.specs.Cells.{refs_of, sum_to}
use Rattle.links.specs.Counted.{one, live_count}

-- the steps upward from a cell to c in a ring of n cells, at least one
unfoldable pub steps : ℕ → ℕ → ℕ → ℕ
steps n from c = cond (nat_lt from c) (c - from) (n - from + c)

-- where a cursor may stand: it passed cell `last` last, or none if that is 0, and has `left` cells still to pass in this call
pub record OnRing (ls : List Link) (k : Cursor) : Type 0 where
  pub last : k.last ≤ length ls
  pub left : k.left ≤ length ls

-- a cell that nothing refers to
pub record Unused (ls : List Link) (c : ℕ) : Type 0 where
  pub low : 0 < c
  pub high : c ≤ length ls
  pub refs : refs_of ls c ≡ 0

-- an unused cell that the cursor has still to pass
pub record Available (ls : List Link) (k : Cursor) (c : ℕ) : Type 0 where
  pub unused : Unused ls c
  pub ahead : steps (length ls) k.last c ≤ k.left

-- the same as a test of a cell
abbrev pub is_available : List Link → Cursor → ℕ → Bool
is_available ls k c = refs_of ls c == 0 && nat_le (steps (length ls) k.last c) k.left

-- how many cells are available
unfoldable pub avail_count : List Link → Cursor → ℕ
avail_count ls k = sum_to (length ls) (λ c. one (is_available ls k c))

-- the start of a call: every unused cell is available, and no other
pub record Begun (ls : List Link) (k : Cursor) : Type 0 where
  pub ring : OnRing ls k
  pub whole : k.left ≡ length ls
  pub all : (c : ℕ) → Unused ls c → Available ls k c
  pub count : avail_count ls k + live_count ls ≡ length ls

-- cell c was taken, and the cursor went from k to j: c was the next available cell and is not available any more, and every other cell is available
-- exactly where it was
pub record Took (ls : List Link) (k j : Cursor) (c : ℕ) : Type 0 where
  pub ring : OnRing ls j
  pub was : Available ls k c
  pub next : (d : ℕ) → Available ls k d → steps (length ls) k.last c ≤ steps (length ls) k.last d
  pub passed : j.last ≡ c
  pub spent : j.left + steps (length ls) k.last c ≡ k.left
  pub gone : Available ls j c → ⊥
  pub stays : (d : ℕ) → (d ≢ c) → Available ls k d → Available ls j d
  pub back : (d : ℕ) → Available ls j d → Available ls k d
  pub count : avail_count ls k ≡ 1 + avail_count ls j

-- whatever the cursor, live and available cells are no more than there are
abbrev pub RoomIsLeft : Type 0
RoomIsLeft = (ls : List Link) (k : Cursor) → avail_count ls k + live_count ls ≤ length ls
