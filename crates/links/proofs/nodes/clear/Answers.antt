use Rattle.std.proofs.Common.{◌≡◌, ℕ, ◌<◌, ◌≤◌, length, arith}
use Rattle.links.specs.Cells.{refs_of}
use Rattle.links.proofs.Writing.{swept, all_unused, none_live_count, none_counted}
use Rattle.links.proofs.nodes.clear.Goals as goal

pub loop-link-preserved : goal.loop-link-preserved
loop-link-preserved c =
    swept c.args.links.now c.loop-link.links c.loop-link.link-index c.clear.new.self (omega arith)
    c.clear.ensures.shape c.clear.ensures.refs c.loop-link.invariant.0 c.loop-link.invariant.1

pub returns : goal.returns
returns c =
    let none : (d : ℕ) → 0 < d → d ≤ length c.loop-link.links → refs_of c.loop-link.links d ≡ 0 =
    λ d p i. c.loop-link.invariant.1 d p (omega arith) in
    record {
      kept = c.loop-link.invariant.0;
      unused = all_unused c.loop-link.links none;
      live_count = none_live_count c.loop-link.links none;
      counted = none_counted c.loop-link.links none;
    }
