use Rattle.std.proofs.Common.{rules, tests}
use Rattle.std.proofs.lemmas.Iterator.{YieldsList-from_map, items_from_collect}
use Rattle.std.proofs.lemmas.Iterator.Consumers.{YieldsList-at, YieldsList-from_first}
use Rattle.inventory.specs.Lines.{meaning, lines_of, lines_left}
use Rattle.inventory.proofs.text.read_text.Goals as goal

pub returns : goal.returns
returns c =
    let lines = YieldsList-from_first (λ x. x.now) lines_left (lines_of c.args.text.now) c.new.ensures in
    items_from_collect c.collect.result c.collect.ensures.ran (YieldsList-from_map _ meaning (YieldsList-at c.map.ensures.source lines) c.map.ensures.closure (λ x r q k. search (rules, tests)))
