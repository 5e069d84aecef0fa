use Rattle.std.proofs.Common.{ℕ, ◌≡◌, ◌+◌, ◌*◌, ◌<◌, ◌∷◌, ap, arith}
use Rattle.links.specs.Fields.{refs_in}
use Rattle.links.specs.Cells.{levels_of}
use Rattle.links.proofs.Counting.{refs_small}
use Rattle.links.proofs.Holding.{Fresh, adopted_none, adopted_live, fresh, left_tree, left_lower, right_tree, right_lower, still_unused, adopted_unused}
use Rattle.links.proofs.Standing.{stands_low}
use Rattle.links.proofs.holders.+adopt.Goals as goal
use Rattle.links.proofs.holders.+adopt.Goals.{adopt_cell-After-sides-left}

pub adopt-adopt_cell-requires : goal.adopt-adopt_cell-requires
adopt-adopt_cell-requires t c =
    let m : 2 * levels_of c.args.links.now c.args.root + 1 ≡ t = c.decreases in
    let less : 2 * levels_of c.args.links.now c.args.root < t = omega arith in
    let tree = c.requires.tree in
    (less, (c.requires.few, (omega arith, (stands_low c.args.links.now c.args.root tree.tree tree.stands, (tree, c.requires.counted)))))

pub adopt-returns-then-root-eq0 : goal.adopt-returns-then-root-eq0
adopt-returns-then-root-eq0 t c = adopted_none c.args.links.now c.args.root c.if-root-eq0.true

pub adopt_cell-raise-requires-clause-small : goal.adopt_cell-raise-requires-clause-small
adopt_cell-raise-requires-clause-small t c =
    let (rs, k) = c.requires.counted in omega (arith, refs_small c.args.links.now rs k.0 c.args.cell c.requires.low, k.1)

pub adopt_cell-returns-then-refs-gt0 : goal.adopt_cell-returns-then-refs-gt0
adopt_cell-returns-then-refs-gt0 t c =
    adopted_live c.args.links.now c.raise.new.links c.args.cell c.requires.low c.requires.high c.raise.ensures (omega (arith, ap refs_in c.link_of-link.ensures))

-- the cell that nothing refers to, with its two links
here : (t : ℕ) (c : adopt_cell-After-sides-left t) → Fresh c.args.links.now c.args.cell c.sides-left.result.0 c.sides-left.result.1
here t c = fresh c.args.links.now c.args.cell c.requires.low c.requires.tree c.link_of-link.result c.link_of-link.ensures (omega arith) c.sides-left.result.0 c.sides-left.result.1 c.sides-left.ensures.left c.sides-left.ensures.right

pub adopt_cell-adopt-made-requires : goal.adopt_cell-adopt-made-requires
adopt_cell-adopt-made-requires t c =
    let ls = c.args.links.now in
    let l = c.sides-left.result.0 in
    let p = here t (goal.at.adopt_cell-adopt-made-requires t c).After-sides-left in
    let m : 2 * levels_of ls c.args.cell ≡ t = c.decreases in
    let low = left_lower ls c.args.cell l _ p in
    let less : 2 * levels_of ls l + 1 < t = omega arith in
    let (rs, k) = c.requires.counted in
    (less, (c.requires.few, (left_tree ls c.args.cell l _ p, (rs, (k.0, omega (arith, k.1))))))

pub adopt_cell-adopt-more-requires : goal.adopt_cell-adopt-more-requires
adopt_cell-adopt-more-requires t c =
    let ls = c.args.links.now in
    let l = c.sides-left.result.0 in
    let r = c.sides-left.result.1 in
    let p = here t (goal.at.adopt_cell-adopt-more-requires t c).After-sides-left in
    let first = c.adopt-made.ensures in
    let ms = c.adopt-made.new.links in
    let m : 2 * levels_of ls c.args.cell ≡ t = c.decreases in
    let low = right_lower ls c.args.cell l r p ms c.adopt-made.result first in
    let less : 2 * levels_of ms r + 1 < t = omega arith in
    let (rs, k) = c.requires.counted in
    (less, (omega (arith, first.kept.len), (right_tree ls c.args.cell l r p ms c.adopt-made.result first, (l ∷ rs, (first.counted rs k.0, omega (arith, k.1))))))

pub adopt_cell-raise-requires-2-clause-small : goal.adopt_cell-raise-requires-2-clause-small
adopt_cell-raise-requires-2-clause-small t c =
    let p = here t (goal.at.adopt_cell-raise-requires-2-clause-small t c).After-sides-left in
    omega (arith, still_unused _ _ _ _ p _ _ c.adopt-made.ensures _ _ c.adopt-more.ensures)

pub adopt_cell-returns : goal.adopt_cell-returns
adopt_cell-returns t c =
    let p = here t (goal.at.adopt_cell-returns t c).After-sides-left in
    adopted_unused _ _ _ _ p _ _ c.adopt-made.ensures _ _ c.adopt-more.ensures c.raise-2.new.links c.raise-2.ensures
