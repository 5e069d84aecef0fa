-- Which tree of cells stands at a link.
use Rattle.std.specs.Prelude.{◌≡◌, ℕ, ◌+◌, ◌*◌, ◌/◌, ◌^◌, ◌<◌, ◌≤◌, List, length}
use Rattle.links.specs.declared.link.Link.{Link}
use Rattle.links.specs.Fields.{SameShape}
use Rattle.links.specs.Cells.{at, left_of, right_of, count_of, levels_of}
use Rattle.links.specs.Counted.{occurs, CellRules}
use Rattle.links.specs.Trees.{Tree, tip, fork, inorder, height, size, Balanced, fewest}

-- link n names cell c, which has those levels and that count, with L of its left side and R of its right
pub record Forks (ls : List Link) (n c levels count : ℕ) (L R : Type 0) : Type 0 where
  pub here : n ≡ c
  pub low : 0 < c
  pub high : c ≤ length ls
  pub levels_are : levels_of ls c ≡ levels
  pub count_is : count_of ls c ≡ count
  pub left : L
  pub right : R

-- link 0 is the empty tree, and any other link a cell with the trees at its two links
abbrev pub Stands : List Link → ℕ → Tree ℕ → Type 0
Stands ls n tip = n ≡ 0
Stands ls n (fork c l r) = Forks ls n c (height (fork c l r)) (size (fork c l r)) (Stands ls (left_of ls c) l) (Stands ls (right_of ls c) r)

-- c is a cell of the tree
abbrev pub Among : ℕ → Tree ℕ → Type 0
Among c t = 0 < occurs c (inorder t)

-- a balanced tree stands at link n
pub record BalancedAt (ls : List Link) (n : ℕ) : Type 0 where
  pub tree : Tree ℕ
  pub stands : Stands ls n tree
  pub balanced : Balanced tree

-- A balanced tree has at least `fewest` entries for its levels. So 65,535 entries stand in 22 levels, and fewer than 2 ^ b, as those with b
-- binary digits, in 2 b levels and in 3 b / 2 + 1.
pub record FewLevels (ls : List Link) (n : ℕ) : Type 0 where
  pub least : fewest (levels_of ls n) ≤ count_of ls n
  pub in_22 : count_of ls n ≤ 65535 → levels_of ls n ≤ 22
  pub twice_digits : (b : ℕ) → count_of ls n < 2 ^ b → levels_of ls n ≤ 2 * b
  pub fewer_yet : (b : ℕ) → count_of ls n < 2 ^ b → levels_of ls n ≤ 3 * b / 2 + 1

abbrev pub LevelsAreFew : Type 0
LevelsAreFew = (ls : List Link) (n : ℕ) → BalancedAt ls n → FewLevels ls n

pub record TreesStand : Type 0 where
  -- at a link stands one tree at most
  pub unique : (ls : List Link) (n : ℕ) (t u : Tree ℕ) → Stands ls n t → Stands ls n u → t ≡ u
  -- a tree stays where the shape of its own cells does, whatever else changes
  pub stays : (ls ms : List Link) (n : ℕ) (t : Tree ℕ) → length ls ≤ length ms → ((c : ℕ) → Among c t → SameShape (at ls c) (at ms c)) → Stands ls n t → Stands ms n t
  -- it is balanced exactly where its cells keep the cell rules
  pub rules : (ls : List Link) (n : ℕ) (t : Tree ℕ) → Stands ls n t → Balanced t → (c : ℕ) → Among c t → CellRules ls c
  pub balance : (ls : List Link) (n : ℕ) (t : Tree ℕ) → Stands ls n t → ((c : ℕ) → Among c t → CellRules ls c) → Balanced t
  -- its levels and its number of entries are those that its link tells
  pub told : (ls : List Link) (n : ℕ) (t : Tree ℕ) → Stands ls n t → (levels_of ls n ≡ height t) × (count_of ls n ≡ size t) × (length (inorder t) ≡ size t)
