use Rattle.std.proofs.Common.{◌≡◌, [], drop, sym, refl, ap, ◌∙◌, append-nil, arith}
use Rattle.links.specs.Cells.{left_of, count_of, to_left, to_right}
use Rattle.links.specs.Fields.{left_in, right_in}
use Rattle.links.specs.Trees.{inorder}
use Rattle.links.proofs.Standing.{stands_low}
use Rattle.links.proofs.Walking.{none_wait, going_sides, going_falls, going_left, going_right, going_ends}
use Rattle.links.proofs.walk.Walk.seek.Goals as goal

pub link_of-requires : goal.link_of-requires
link_of-requires c = (going_sides c.loop-n.invariant c.loop-n-test.true).stands.high

pub count_of-requires : goal.count_of-requires
count_of-requires c =
    let o = going_sides c.loop-n.invariant c.loop-n-test.true in
    rw (c.sides-left.ensures.left, c.link_of.ensures) (stands_low _ _ o.left o.stands.left)

pub push-requires : goal.push-requires
push-requires c = omega (arith, going_falls c.loop-n.invariant c.loop-n-test.true to_left _ refl)

pub loop-n-smaller-then-skip-before : goal.loop-n-smaller-then-skip-before
loop-n-smaller-then-skip-before c =
    going_falls c.loop-n.invariant c.loop-n-test.true to_left c.sides-left.result.0 (c.sides-left.ensures.left ∙ ap left_in c.link_of.ensures)

pub loop-n-preserved-then-skip-before : goal.loop-n-preserved-then-skip-before
loop-n-preserved-then-skip-before c =
    let few = rw (c.from-before.ensures, c.count_of.ensures, c.sides-left.ensures.left, c.link_of.ensures) at c.if-skip-before.true in
    going_left c.loop-n.invariant c.loop-n-test.true _ _ c.sides-left.result.0 c.push.ensures.stack c.push.ensures.depth (omega arith) (c.sides-left.ensures.left ∙ ap left_in c.link_of.ensures) few

pub loop-n-smaller : goal.loop-n-smaller
loop-n-smaller c =
    going_falls c.loop-n.invariant c.loop-n-test.true to_right c.sides-left.result.1 (c.sides-left.ensures.right ∙ ap right_in c.link_of.ensures)

pub loop-n-preserved : goal.loop-n-preserved
loop-n-preserved c =
    let before : c.from-before.result ≡ count_of c.args.links.now (left_of c.args.links.now c.loop-n.n) = cc in
    going_right c.loop-n.invariant c.loop-n-test.true c.sides-left.result.1 _ (omega arith) (c.sides-left.ensures.right ∙ ap right_in c.link_of.ensures) (omega arith)

pub returns : goal.returns
returns c t s =
    going_ends c.loop-n.invariant c.loop-n-test.false _ (record { tree = t; rest = []; stands = s; waits = none_wait _ _ _ _ c.empty-walk.ensures refl; are = sym (append-nil (drop c.args.place (inorder t))) })
