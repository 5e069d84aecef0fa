use Rattle.book.proofs.Finding.{key_by_key}
use Rattle.book.proofs.laws.told_key_by_key.Goals as goal

pub returns : goal.returns
returns g c = key_by_key g.K.Kind.ops g.met.K.Kind.lawful
