use Rattle.std.proofs.Common.{◌+◌, ◌*◌, drop, arith}
use Rattle.inventory.proofs.Decimals.{read_on_ge, read_on_more}
use Rattle.inventory.proofs.line.value.Goals as goal

pub returns-then-value-from : goal.returns-then-value-from
returns-then-value-from c =
    let on = read_on_more c.args.digits.now c.loop-digit.digit-index c.loop-digit.value c.from.result c.loop-digit-test.true (omega arith) c.loop-digit.invariant.read in
    let over = read_on_ge (c.loop-digit.value * 10 + c.from.result) (drop (c.loop-digit.digit-index + 1) c.args.digits.now) in
    omega (arith, on.value, over)
