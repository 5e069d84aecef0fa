use Rattle.std.proofs.Common.{◌≤◌}
use Rattle.inventory.proofs.Decimals.{Sofar}
use Rattle.inventory.proofs.line.value.Given as goal

abbrev pub invariant-loop-digit : goal.invariant-loop-digit
invariant-loop-digit l = record { read : Sofar l.digits l.digit-index l.value; small : l.value ≤ l.most }
