use Rattle.std.proofs.Common.{ℕ, ◌≡◌, ◌+◌, ◌*◌, ◌<◌, ◌∷◌, sym, ◌∙◌, arith}
use Rattle.links.specs.Cells.{levels_of}
use Rattle.links.proofs.Counting.{held_live}
use Rattle.links.proofs.Holding.{Last, released_none, released_held, last, handed, left_falls, right_falls, released_last}
use Rattle.links.proofs.Tables.{live_high}
use Rattle.links.proofs.holders.+release.Goals as goal
use Rattle.links.proofs.holders.+release.Goals.{release_cell-After-sides-left}

pub release-release_cell-requires : goal.release-release_cell-requires
release-release_cell-requires t c =
    let m : 2 * levels_of c.args.links.now c.args.root + 1 ≡ t = c.decreases in
    let less : 2 * levels_of c.args.links.now c.args.root < t = omega arith in
    let low : 0 < c.args.root = omega arith in
    let (rs, k) = c.requires.counted in
    (less, (c.requires.few, (low, (live_high c.args.links.now c.args.root (held_live c.args.links.now rs c.args.root low k), c.requires.counted))))

pub release-returns-then-root-eq0 : goal.release-returns-then-root-eq0
release-returns-then-root-eq0 t c = released_none c.args.links.now c.args.root c.if-root-eq0.true

pub release_cell-returns-then-lower : goal.release_cell-returns-then-lower
release_cell-returns-then-lower t c =
    let cut = c.lower.ensures in
    released_held c.args.links.now c.lower.new.links c.args.cell c.requires.low c.requires.high cut.put (sym cut.held ∙ c.if-lower.true)

-- the cell's last reference goes, and its two links are held in its place
here : (t : ℕ) (c : release_cell-After-sides-left t) → Last c.args.links.now c.lower.new.links c.args.cell c.sides-left.result.0 c.sides-left.result.1
here t c =
    let cut = c.lower.ensures in
    last c.args.links.now c.lower.new.links c.args.cell c.requires.low c.requires.high cut.put (sym cut.held ∙ c.if-lower.false) c.requires.counted
    c.link_of-link.result c.link_of-link.ensures c.sides-left.result.0 c.sides-left.result.1 c.sides-left.ensures.left c.sides-left.ensures.right

pub release_cell-release-freed-requires : goal.release_cell-release-freed-requires
release_cell-release-freed-requires t c =
    let ls = c.args.links.now in
    let ms = c.lower.new.links in
    let l = c.sides-left.result.0 in
    let r = c.sides-left.result.1 in
    let cut = c.lower.ensures in
    let p = here t (goal.at.release_cell-release-freed-requires t c).After-sides-left in
    let m : 2 * levels_of ls c.args.cell ≡ t = c.decreases in
    let falls = left_falls ls ms c.args.cell l r p in
    let less : 2 * levels_of ms l + 1 < t = omega arith in
    let (rs, k) = c.requires.counted in
    (less, (omega (arith, cut.put.kept.len), (r ∷ rs, handed ls ms c.args.cell l r p rs k)))

pub release_cell-release-more-requires : goal.release_cell-release-more-requires
release_cell-release-more-requires t c =
    let ls = c.args.links.now in
    let ms = c.lower.new.links in
    let l = c.sides-left.result.0 in
    let r = c.sides-left.result.1 in
    let cut = c.lower.ensures in
    let p = here t (goal.at.release_cell-release-more-requires t c).After-sides-left in
    let first = c.release-freed.ensures in
    let ns = c.release-freed.new.links in
    let m : 2 * levels_of ls c.args.cell ≡ t = c.decreases in
    let falls = right_falls ls ms c.args.cell l r p ns c.release-freed.result first in
    let less : 2 * levels_of ns r + 1 < t = omega arith in
    let (rs, k) = c.requires.counted in
    (less, (omega (arith, cut.put.kept.len, first.kept.len), (rs, first.counted (r ∷ rs) (handed ls ms c.args.cell l r p rs k))))

pub release_cell-returns : goal.release_cell-returns
release_cell-returns t c =
    let cut = c.lower.ensures in
    let p = here t (goal.at.release_cell-returns t c).After-sides-left in
    released_last _ _ _ _ _ p _ _ c.release-freed.ensures _ _ c.release-more.ensures
