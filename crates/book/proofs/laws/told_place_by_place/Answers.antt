use Rattle.book.proofs.Places.{place_by_place}
use Rattle.book.proofs.laws.told_place_by_place.Goals as goal

pub returns : goal.returns
returns g c = place_by_place g.K.Kind.ops g.met.K.Kind.lawful
