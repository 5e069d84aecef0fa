use Rattle.std.proofs.Common.{refl, arith}
use Rattle.links.specs.Cells.{to_left}
use Rattle.links.proofs.Walking.{going_sides, going_falls, going_left, going_ends}
use Rattle.links.proofs.walk.Walk.descend.Goals as goal

pub push-requires : goal.push-requires
push-requires c = omega (arith, going_falls c.loop-n.invariant c.loop-n-test.true to_left _ refl)

pub left_of-n-requires : goal.left_of-n-requires
left_of-n-requires c = (going_sides c.loop-n.invariant c.loop-n-test.true).stands.high

pub loop-n-smaller : goal.loop-n-smaller
loop-n-smaller c = going_falls c.loop-n.invariant c.loop-n-test.true to_left c.left_of-n.result c.left_of-n.ensures

pub loop-n-preserved : goal.loop-n-preserved
loop-n-preserved c = going_left c.loop-n.invariant c.loop-n-test.true _ _ _ c.push.ensures.stack c.push.ensures.depth c.left_of-n.type_inv c.left_of-n.ensures (omega arith)

pub returns : goal.returns
returns c t cells s p =
    going_ends c.loop-n.invariant c.loop-n-test.false _ (record { tree = t; rest = cells; stands = s; waits = p; are = refl })
