use Rattle.book.proofs.Picking.{picks}
use Rattle.book.proofs.laws.picks_pass.Goals as goal

pub returns : goal.returns
returns g c = picks g.K.Kind.ops g.met.K.Kind.lawful
