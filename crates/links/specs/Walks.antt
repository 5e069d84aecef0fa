-- What a walk has still to give.
use Rattle.std.specs.Prelude.{◌≡◌, ℕ, zero, suc, ◌+◌, ◌<◌, ◌≤◌, List, [], ◌∷◌, ◌++◌, length, Some, None, Option, slice_index}
use Rattle.links.specs.declared.link.Link.{Link}
use Rattle.links.specs.declared.walk.Walk.{Walk}
use Rattle.links.specs.Cells.{right_of, levels_of}
use Rattle.links.specs.Stands.{Stands}
use Rattle.links.specs.Trees.{Tree, inorder, height}

-- cell c waits at place d of the stack: it comes first, then the tree on its right, then what waits below it
pub record Waits (ls : List Link) (c d : ℕ) (cells : List ℕ) (Below : List ℕ → Type 0) : Type 0 where
  pub right : Tree ℕ
  pub rest : List ℕ
  pub low : 0 < c
  pub high : c ≤ length ls
  pub stands : Stands ls (right_of ls c) right
  pub room : d + height right < 22
  pub below : Below rest
  pub are : cells ≡ c ∷ (inorder right ++ rest)

-- the cells still to come, in order, where the first `depth` places of the stack wait
abbrev pub Pending : List Link → List ℕ → ℕ → List ℕ → Type 0
Pending ls stack zero cells = cells ≡ []
Pending ls stack (suc d) cells = Waits ls (slice_index stack d) d cells (Pending ls stack d)

abbrev pub ToCome : List Link → Walk → List ℕ → Type 0
ToCome ls w cells = Pending ls w.stack w.depth cells

-- a tree stands at link n, and the stack has room for its levels from place d on
pub record RoomFor (ls : List Link) (n d : ℕ) : Type 0 where
  pub tree : Tree ℕ
  pub stands : Stands ls n tree
  pub room : d + levels_of ls n ≤ 22

abbrev pub first : List ℕ → Option ℕ
first [] = None
first (c ∷ cs) = Some c
