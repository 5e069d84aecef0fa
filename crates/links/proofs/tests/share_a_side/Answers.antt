use Rattle.links.proofs.Standing.{stays_kept}
use Rattle.links.proofs.tests.share_a_side.Goals as goal

pub adopt-requires-2-clause-tree : goal.adopt-requires-2-clause-tree
adopt-requires-2-clause-tree g c =
    let t = c.in_ok-low.ensures.second in
    record { tree = t.tree; stands = stays_kept _ _ c.adopt.ensures.kept _ t.tree t.stands; balanced = t.balanced }
