use Rattle.links.proofs.Standing.{few_levels}
use Rattle.links.proofs.laws.levels_are_few.Goals as goal

pub returns : goal.returns
returns c = few_levels
