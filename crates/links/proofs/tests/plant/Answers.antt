use Rattle.std.proofs.Common.{◌≡◌, true, ap, arith, rules}
use Rattle.links.specs.Fields.{levels_in}
use Rattle.links.proofs.Settling.{settles}
use Rattle.links.proofs.Standing.{stands_low}
use Rattle.links.proofs.tests.plant.Goals as goal

pub link_of-l-requires : goal.link_of-l-requires
link_of-l-requires g c = stands_low _ _ c.requires.left.tree c.requires.left.stands

pub link_of-r-requires : goal.link_of-r-requires
link_of-r-requires g c = stands_low _ _ c.requires.right.tree c.requires.right.stands

pub node-requires-clause-left : goal.node-requires-clause-left
node-requires-clause-left g c = stands_low _ _ c.requires.left.tree c.requires.left.stands

pub node-requires-clause-right : goal.node-requires-clause-right
node-requires-clause-right g c = stands_low _ _ c.requires.right.tree c.requires.right.stands

pub returns-clause-tree : goal.returns-clause-tree
returns-clause-tree g c =
    let yes : c.are_like.result ≡ true = search rules in
    let like = c.are_like.ensures in
    let l = ap levels_in c.link_of-l.ensures in
    let r = ap levels_in c.link_of-r.ensures in
    settles _ _ _ _ _ _ _ (record { took = c.take-cell.ensures; wrote = c.node.ensures.wrote }) c.requires.left c.requires.right
    (omega (arith, like.left yes)) (omega (arith, like.right yes))
