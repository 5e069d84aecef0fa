use Rattle.std.proofs.Common.{◌+◌, ◌*◌}
use Rattle.links.specs.Cells.{levels_of}
use Rattle.links.proofs.holders.+adopt.Given as goal

abbrev pub decreases-adopt : goal.decreases-adopt
decreases-adopt l = 2 * levels_of l.links.now l.root + 1

abbrev pub decreases-adopt_cell : goal.decreases-adopt_cell
decreases-adopt_cell l = 2 * levels_of l.links.now l.cell
