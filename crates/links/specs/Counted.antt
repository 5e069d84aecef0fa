-- Which cells are live, the cell rules, and what the counts of references count.
use Rattle.std.specs.Prelude.{◌≡◌, ℕ, ◌+◌, ◌<◌, ◌≤◌, max, Bool, cond, List, [], ◌∷◌, length, ◌==◌, nat_lt}
use Rattle.links.specs.declared.link.Link.{Link}
use Rattle.links.specs.Cells.{left_of, right_of, count_of, levels_of, refs_of, sum_to}

-- 1 where the test says yes, else 0
abbrev pub one : Bool → ℕ
one b = cond b 1 0

-- how often c stands in the list
abbrev pub occurs : ℕ → List ℕ → ℕ
occurs c [] = 0
occurs c (r ∷ rs) = one (c == r) + occurs c rs

-- how many of the two links of cell d lead to c
unfoldable pub points_to : List Link → ℕ → ℕ → ℕ
points_to ls d c = one (c == left_of ls d) + one (c == right_of ls d)

-- how many links lead to c from the cells that pass a test
unfoldable pub inlinks : (ℕ → Bool) → List Link → ℕ → ℕ
inlinks p ls c = sum_to (length ls) (λ d. cond (p d) (points_to ls d c) 0)

-- a cell is live where its count of references is above 0
abbrev pub is_live : List Link → ℕ → Bool
is_live ls c = nat_lt 0 (refs_of ls c)

-- how many cells are live
unfoldable pub live_count : List Link → ℕ
live_count ls = sum_to (length ls) (λ c. one (is_live ls c))

-- the cell rules: levels and count by those of the two sides, which differ by at most one level
pub record CellRules (ls : List Link) (c : ℕ) : Type 0 where
  pub levels : levels_of ls c ≡ 1 + max (levels_of ls (left_of ls c)) (levels_of ls (right_of ls c))
  pub left_low : levels_of ls (left_of ls c) ≤ levels_of ls (right_of ls c) + 1
  pub right_low : levels_of ls (right_of ls c) ≤ levels_of ls (left_of ls c) + 1
  pub count : count_of ls c ≡ 1 + count_of ls (left_of ls c) + count_of ls (right_of ls c)

-- The counting invariant, with rs the references from outside (link 0 among them counts for nothing): every cell's count is the number of
-- outside references and of live cells' links that lead to it, and every live cell keeps the cell rules.
pub record Counted (ls : List Link) (rs : List ℕ) : Type 0 where
  pub counts : (c : ℕ) → 0 < c → refs_of ls c ≡ occurs c rs + inlinks (is_live ls) ls c
  pub rules : (c : ℕ) → 0 < refs_of ls c → CellRules ls c
