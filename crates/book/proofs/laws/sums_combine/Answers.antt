use Rattle.book.proofs.Summing.{sums}
use Rattle.book.proofs.laws.sums_combine.Goals as goal

pub returns : goal.returns
returns g c = sums g.K.Kind.ops g.met.K.Kind.lawful
