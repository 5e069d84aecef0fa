-- What the outside references reach, and that the counts of references are exact.
use Rattle.std.specs.Prelude.{◌≡◌, ℕ, ◌+◌, ◌<◌, Bool, true, List}
use Rattle.links.specs.declared.link.Link.{Link}
use Rattle.links.specs.Cells.{Side, link_of, refs_of, Kept}
use Rattle.links.specs.Counted.{occurs, inlinks, Counted}
use Rattle.links.specs.Stands.{Among, Stands, BalancedAt}
use Rattle.links.specs.Trees.{Tree}

-- an outside reference names the cell, or a link of a reached cell does
pub data Reaches : List Link → List ℕ → ℕ → Type 0 where
  from_outside : {ls : List Link} {rs : List ℕ} {c : ℕ} → 0 < c → 0 < occurs c rs → Reaches ls rs c
  by_link : {ls : List Link} {rs : List ℕ} {d : ℕ} → (s : Side) → Reaches ls rs d → 0 < link_of s ls d → Reaches ls rs (link_of s ls d)

-- the test says of each number whether P holds
abbrev pub Tells : (ℕ → Bool) → (ℕ → Type 0) → Type 0
Tells p P = (c : ℕ) → (p c ≡ true → P c) × (P c → p c ≡ true)

-- What the invariant gives, with rs the outside references.
pub record Exact (ls : List Link) (rs : List ℕ) : Type 0 where
  -- a count is above 0 exactly where an outside reference reaches the cell
  pub live_reached : (c : ℕ) → 0 < refs_of ls c → Reaches ls rs c
  pub reached_live : (c : ℕ) → Reaches ls rs c → 0 < refs_of ls c
  -- some test tells what is reached, and by every such test a count is the number of outside references and of reached cells' links to the cell
  pub test : (p : ℕ → Bool) × Tells p (Reaches ls rs)
  pub counts : (p : ℕ → Bool) → Tells p (Reaches ls rs) → (c : ℕ) → 0 < c → refs_of ls c ≡ occurs c rs + inlinks p ls c
  -- the links and the outside references leave no choice of counts
  pub only : (ms : List Link) → Kept ls ms → Counted ms rs → (c : ℕ) → refs_of ms c ≡ refs_of ls c
  -- and the order of the outside references is free
  pub order_free : (ss : List ℕ) → ((c : ℕ) → 0 < c → occurs c ss ≡ occurs c rs) → Counted ls ss
  -- at every outside reference and at every reached cell stands a balanced tree of live cells
  pub trees : (c : ℕ) → Reaches ls rs c → BalancedAt ls c
  pub live_trees : (c : ℕ) → Reaches ls rs c → (t : Tree ℕ) → Stands ls c t → (d : ℕ) → Among d t → 0 < refs_of ls d

abbrev pub LiveIsReached : Type 0
LiveIsReached = (ls : List Link) (rs : List ℕ) → Counted ls rs → Exact ls rs
