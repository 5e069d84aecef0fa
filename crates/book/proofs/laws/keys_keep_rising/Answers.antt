use Rattle.book.proofs.Rising.{keeps_rising}
use Rattle.book.proofs.laws.keys_keep_rising.Goals as goal

pub returns : goal.returns
returns g c = keeps_rising g.K.Kind.ops g.met.K.Kind.lawful
