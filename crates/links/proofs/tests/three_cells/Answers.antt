use Rattle.std.proofs.Common.{[], arith}
use Rattle.links.proofs.Settling.{building}
use Rattle.links.proofs.Standing.{stands_low}
use Rattle.links.proofs.tests.three_cells.Goals as goal

pub plant-requires-3-clause-some : goal.plant-requires-3-clause-some
plant-requires-3-clause-some g c =
    let low = c.in_ok-low.ensures.step in
    let high = c.in_ok-high.ensures.step in
    omega (arith, (building.uses _ _ _ _ _ _ _ low).1, (building.uses _ _ _ _ _ _ _ high).1, c.begin.ensures.begun.count)

pub returns : goal.returns
returns g c =
    let low = c.in_ok-low.ensures in
    let high = c.in_ok-high.ensures in
    let root = c.in_ok-root.ensures in
    let low_tree = building.stays _ _ _ _ _ _ _ _ root.step (building.stays _ _ _ _ _ _ _ _ high.step low.tree) in
    record {
      size = omega (arith, low.step.wrote.len, high.step.wrote.len, root.step.wrote.len, c.clear.ensures.kept.len);
      counted = root.built.counted [] (high.built.counted [] (low.built.counted [] c.clear.ensures.counted));
      none_live = omega (arith, low.built.live_cells, high.built.live_cells, root.built.live_cells, c.clear.ensures.live_count);
      first = record { tree = low_tree.tree; stands = low_tree.stands; balanced = low_tree.balanced };
      second = record { tree = root.tree.tree; stands = root.tree.stands; balanced = root.tree.balanced };
      first_high = stands_low _ _ low_tree.tree low_tree.stands;
      second_high = stands_low _ _ root.tree.tree root.tree.stands;
    }
