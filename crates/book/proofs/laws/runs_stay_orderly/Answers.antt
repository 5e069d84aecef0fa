use Rattle.book.proofs.Orderly.{runs_orderly}
use Rattle.book.proofs.laws.runs_stay_orderly.Goals as goal

pub returns : goal.returns
returns g c = runs_orderly g.K.Kind.ops g.met.K.Kind.lawful
