use Rattle.std.proofs.Common.{◌≡◌, ℕ, ◌<◌, ◌≤◌}
use Rattle.links.specs.Cells.{refs_of, Kept}
use Rattle.links.proofs.nodes.clear.Given as goal

abbrev pub invariant-loop-link : goal.invariant-loop-link
invariant-loop-link l = Kept l.initial.links l.links × ((c : ℕ) → 0 < c → c ≤ l.link-index → refs_of l.links c ≡ 0)
