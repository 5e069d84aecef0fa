use Rattle.book.proofs.Comparing.{compares}
use Rattle.book.proofs.laws.compare_is_equality.Goals as goal

pub returns : goal.returns
returns g c = compares g.K.Kind.ops g.met.K.Kind.lawful
