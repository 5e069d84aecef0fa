use Rattle.std.proofs.Common.{rules, tests, not}
use Rattle.std.proofs.lemmas.Iterator.{YieldsList-from_slice}
use Rattle.std.proofs.lemmas.Iterator.Search.{position_from_yields_List}
use Rattle.inventory.proofs.Cutting.{up_to_first}
use Rattle.inventory.proofs.front.front_length.Goals as goal

pub returns-clause-longest : goal.returns-clause-longest
returns-clause-longest g c p h =
    up_to_first p c.args.bytes.now c.position.result c.unwrap_or.result
    (position_from_yields_List (λ b. not (p b)) _ _ c.position.result c.position.ensures.ran (YieldsList-from_slice c.args.bytes.now cc) (λ x b q k. search (rules, tests, h)))
    (search rules)
