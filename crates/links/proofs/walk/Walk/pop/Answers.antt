use Rattle.std.proofs.Common.{ℕ, ◌-◌, sym, subst, arith}
use Rattle.links.specs.Walks.{RoomFor}
use Rattle.links.proofs.Standing.{levels_told}
use Rattle.links.proofs.Walking.{pending_last}
use Rattle.links.proofs.walk.Walk.pop.Goals as goal

pub descend-requires : goal.descend-requires
descend-requires c =
    let w = pending_last _ _ _ _ c.requires.some c.requires.walk.1 in
    subst (λ (n : ℕ). RoomFor c.args.links.now n (c.args.self.now.depth - 1)) (sym c.right_of-right.ensures)
    (record { tree = w.right; stands = w.stands; room = omega (arith, w.room, levels_told _ _ w.right w.stands) })
