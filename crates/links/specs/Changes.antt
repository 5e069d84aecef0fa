-- What node, adopt and release do to a table.
use Rattle.std.specs.Prelude.{◌≡◌, ℕ, ◌+◌, ◌-◌, ◌<◌, ◌≤◌, max, List, ◌∷◌, length, ◌≢◌}
use Rattle.links.specs.declared.link.Link.{Link}
use Rattle.links.specs.declared.ring.Cursor.{Cursor}
use Rattle.links.specs.Cells.{at, left_of, right_of, count_of, levels_of, refs_of, Kept, Put}
use Rattle.links.specs.Counted.{live_count, Counted}
use Rattle.links.specs.Reach.{Exact}
use Rattle.links.specs.Ring.{avail_count, Available}
use Rattle.links.specs.Stands.{Among, Stands}
use Rattle.links.specs.Trees.{Tree, fork}

-- an unused cell was written over the links l and r; it stays unused
pub record Wrote (ls ms : List Link) (cell l r : ℕ) : Type 0 where
  pub len : length ms ≡ length ls
  pub others : (c : ℕ) → (c ≢ cell) → at ms c ≡ at ls c
  pub left : left_of ms cell ≡ l
  pub right : right_of ms cell ≡ r
  pub count : count_of ms cell ≡ 1 + count_of ls l + count_of ls r
  pub levels : levels_of ms cell ≡ 1 + max (levels_of ls l) (levels_of ls r)
  pub refs : refs_of ms cell ≡ 0

-- what that leaves as it was, and the tree that then stands at the cell
pub record Built (ls ms : List Link) (cell l r : ℕ) : Type 0 where
  pub live_cells : live_count ms ≡ live_count ls
  pub avail_cells : (k : Cursor) → avail_count ms k ≡ avail_count ls k
  pub counted : (rs : List ℕ) → Counted ls rs → Counted ms rs
  pub stays : (n : ℕ) (t : Tree ℕ) → (Among cell t → ⊥) → Stands ls n t → Stands ms n t
  pub stands : (a b : Tree ℕ) → (Among cell a → ⊥) → (Among cell b → ⊥) → Stands ls l a → Stands ls r b → Stands ms cell (fork cell a b)

-- one more outside reference to the tree at `cell`; `made` cells became live
pub record Adopted (ls ms : List Link) (cell made : ℕ) : Type 0 where
  pub kept : Kept ls ms
  pub live_cells : live_count ms ≡ live_count ls + made
  pub few : live_count ms ≤ length ms
  pub counted : (rs : List ℕ) → Counted ls rs → Counted ms (cell ∷ rs)
  pub exact : (rs : List ℕ) → Counted ls rs → Exact ms (cell ∷ rs)
  -- no count falls, and none changes outside the tree
  pub up : (c : ℕ) → refs_of ls c ≤ refs_of ms c
  pub outside : (t : Tree ℕ) → Stands ls cell t → (c : ℕ) → (Among c t → ⊥) → refs_of ms c ≡ refs_of ls c
  -- so what the tree does not use stays available
  pub avail_cells : (k : Cursor) (t : Tree ℕ) → Stands ls cell t → ((c : ℕ) → Among c t → Available ls k c → ⊥) → avail_count ms k ≡ avail_count ls k
  -- a live cell takes one write
  pub live : 0 < refs_of ls cell → Put ls ms cell (refs_of ls cell + 1) × (made ≡ 0)

-- one outside reference to the tree at `cell` fewer; `freed` cells became unused
pub record Released (ls ms : List Link) (cell freed : ℕ) : Type 0 where
  pub kept : Kept ls ms
  pub live_cells : live_count ms + freed ≡ live_count ls
  pub few : live_count ls ≤ length ls
  pub counted : (rs : List ℕ) → Counted ls (cell ∷ rs) → Counted ms rs
  pub exact : (rs : List ℕ) → Counted ls (cell ∷ rs) → Exact ms rs
  -- no count rises, and none changes outside the tree
  pub down : (c : ℕ) → refs_of ms c ≤ refs_of ls c
  pub outside : (t : Tree ℕ) → Stands ls cell t → (c : ℕ) → (Among c t → ⊥) → refs_of ms c ≡ refs_of ls c
  -- a cell with another holder takes one write
  pub held : 1 < refs_of ls cell → Put ls ms cell (refs_of ls cell - 1) × (freed ≡ 0)
