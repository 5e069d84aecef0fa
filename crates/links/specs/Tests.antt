-- The table that the tests work on.
use Rattle.std.specs.Prelude.{◌≡◌, ℕ, ◌≤◌, List, [], length}
use Rattle.links.specs.declared.link.Link.{Link}
use Rattle.links.specs.Counted.{live_count, Counted}
use Rattle.links.specs.Stands.{BalancedAt}

-- 64 cells, nothing held, and balanced trees at two links
pub record Planted (ls : List Link) (a b : ℕ) : Type 0 where
  pub size : length ls ≡ 64
  pub counted : Counted ls []
  pub none_live : live_count ls ≡ 0
  pub first : BalancedAt ls a
  pub second : BalancedAt ls b
  pub first_high : a ≤ length ls
  pub second_high : b ≤ length ls
