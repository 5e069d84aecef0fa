use Rattle.std.proofs.Common.{◌-◌, ap, ◌∙◌, arith}
use Rattle.links.proofs.Rings.{some_unused, steps_left, took}
use Rattle.links.proofs.ring.Cursor.take.Goals as goal

pub next_unused-cell-requires-clause-some : goal.next_unused-cell-requires-clause-some
next_unused-cell-requires-clause-some c =
    let (e, a) = some_unused c.args.links.now c.args.self.now c.requires.some in (e, a.unused)

pub pass-requires : goal.pass-requires
pass-requires c =
    let next = c.next_unused-cell.ensures in
    omega (arith, steps_left c.args.links.now c.args.self.now c.requires.ring c.requires.some _ next.unused next.next)

pub returns : goal.returns
returns c =
    let next = c.next_unused-cell.ensures in
    took c.args.links.now c.args.self.now c.requires.ring c.requires.some _ next.unused next.next
    c.pass.new.self c.pass.ensures.last (c.pass.ensures.left ∙ ap (λ x. c.args.self.now.left - x) c.steps_to-steps.ensures)
