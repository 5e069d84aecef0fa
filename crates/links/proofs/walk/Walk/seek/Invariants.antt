use Rattle.links.specs.Cells.{levels_of}
use Rattle.links.proofs.Walking.{Ahead, Going}
use Rattle.links.proofs.walk.Walk.seek.Given as goal

abbrev pub invariant-loop-n : goal.invariant-loop-n
invariant-loop-n l = Going l.links (Ahead l.links l.initial.walk.stack l.initial.walk.depth l.initial.n l.initial.skip) l.walk.stack l.walk.depth l.n l.skip

abbrev pub decreases-loop-n : goal.decreases-loop-n
decreases-loop-n l = levels_of l.links l.n
