use Rattle.links.specs.Cells.{levels_of}
use Rattle.links.proofs.Walking.{Ahead, Going}
use Rattle.links.proofs.walk.Walk.descend.Given as goal

abbrev pub invariant-loop-n : goal.invariant-loop-n
invariant-loop-n l = Going l.links (Ahead l.links l.initial.self.stack l.initial.self.depth l.initial.n 0) l.self.stack l.self.depth l.n 0

abbrev pub decreases-loop-n : goal.decreases-loop-n
decreases-loop-n l = levels_of l.links l.n
