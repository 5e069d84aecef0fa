use Rattle.std.proofs.Common.{rules}
use Rattle.book.proofs.Placing.{stands_at, goes_to}
use Rattle.book.proofs.sorted.SortedVec.seek.Goals as goal

pub returns-in-Some : goal.returns-in-Some
returns-in-Some g c = stands_at g.K.Kind.ops g.met.K.Kind.lawful c.args.key c.args.self.now c.as_slice.ensures.rises c.rank-place.result c.rank-place.ensures c.in-Some.entry.now (search rules) (search rules) (search rules)

pub returns-in_default : goal.returns-in_default
returns-in_default g c = goes_to g.K.Kind.ops g.met.K.Kind.lawful c.args.key c.args.self.now c.as_slice.ensures.rises c.rank-place.result c.rank-place.ensures (λ d inside. search rules)

pub returns-in_default-2 : goal.returns-in_default-2
returns-in_default-2 g c = goes_to g.K.Kind.ops g.met.K.Kind.lawful c.args.key c.args.self.now c.as_slice.ensures.rises c.rank-place.result c.rank-place.ensures (λ d inside. search rules)
