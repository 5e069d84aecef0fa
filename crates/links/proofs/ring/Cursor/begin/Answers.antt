use Rattle.std.proofs.Common.{refl, arith}
use Rattle.links.proofs.Rings.{begun}
use Rattle.links.proofs.ring.Cursor.begin.Goals as goal

pub returns-clause-begun : goal.returns-clause-begun
returns-clause-begun c = begun c.args.links.now _ (record { last = omega arith; left = omega arith }) refl
