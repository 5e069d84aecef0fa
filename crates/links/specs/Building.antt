-- What a call that builds leaves standing: it takes cells and writes them, and no tree that it cannot take a cell of changes.
use Rattle.std.specs.Prelude.{◌≡◌, ℕ, ◌+◌, ◌≤◌, List}
use Rattle.links.specs.declared.link.Link.{Link}
use Rattle.links.specs.declared.ring.Cursor.{Cursor}
use Rattle.links.specs.Cells.{levels_of, refs_of, Kept}
use Rattle.links.specs.Changes.{Wrote}
use Rattle.links.specs.Counted.{Counted}
use Rattle.links.specs.Reach.{Reaches}
use Rattle.links.specs.Ring.{OnRing, Available, avail_count, Took}
use Rattle.links.specs.Stands.{Stands, Among}
use Rattle.links.specs.Trees.{Tree, Balanced}

-- a balanced tree stands at link n, and none of its cells is available
pub record Settled (ls : List Link) (k : Cursor) (n : ℕ) : Type 0 where
  pub tree : Tree ℕ
  pub stands : Stands ls n tree
  pub balanced : Balanced tree
  pub apart : (c : ℕ) → Among c tree → Available ls k c → ⊥

-- one step: cell c is taken and written over the links l and r, and the cursor goes from k to j
pub record Step (ls ms : List Link) (k j : Cursor) (c l r : ℕ) : Type 0 where
  pub took : Took ls k j c
  pub wrote : Wrote ls ms c l r

pub record BuildingKeepsTrees : Type 0 where
  -- the empty tree and every live tree are settled, wherever the cursor stands
  pub empty : (ls : List Link) (k : Cursor) → Settled ls k 0
  pub live : (ls : List Link) (rs : List ℕ) (k : Cursor) (c : ℕ) → Counted ls rs → Reaches ls rs c → Settled ls k c
  -- a step leaves every settled tree settled, over like sides it settles one more, and it uses up one available cell
  pub stays : (ls ms : List Link) (k j : Cursor) (c l r n : ℕ) → Step ls ms k j c l r → Settled ls k n → Settled ms j n
  pub settles : (ls ms : List Link) (k j : Cursor) (c l r : ℕ) → Step ls ms k j c l r → Settled ls k l → Settled ls k r
      → levels_of ls l ≤ levels_of ls r + 1 → levels_of ls r ≤ levels_of ls l + 1 → Settled ms j c
  pub uses : (ls ms : List Link) (k j : Cursor) (c l r : ℕ) → Step ls ms k j c l r → OnRing ms j × (avail_count ls k ≡ 1 + avail_count ms j)
  -- and so does any change of counts that lowers none
  pub counts : (ls ms : List Link) (k : Cursor) (n : ℕ) → Kept ls ms → ((c : ℕ) → refs_of ls c ≤ refs_of ms c) → Settled ls k n → Settled ms k n
