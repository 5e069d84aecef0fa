use Rattle.std.proofs.Common.{◌+◌, ◌*◌}
use Rattle.links.specs.Cells.{levels_of}
use Rattle.links.proofs.holders.+release.Given as goal

abbrev pub decreases-release : goal.decreases-release
decreases-release l = 2 * levels_of l.links.now l.root + 1

abbrev pub decreases-release_cell : goal.decreases-release_cell
decreases-release_cell l = 2 * levels_of l.links.now l.cell
