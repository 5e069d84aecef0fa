use Rattle.std.proofs.Common.{◌+◌, sym, ap, ◌∙◌, arith}
use Rattle.links.specs.Fields.{refs_in}
use Rattle.links.specs.Cells.{refs_of}
use Rattle.links.proofs.Tables.{at_place, put_set}
use Rattle.links.proofs.cells.raise.Goals as goal

pub raise-requires : goal.raise-requires
raise-requires c =
    omega (arith, c.requires.small, ap refs_in (at_place c.args.links.now c.args.cell c.place.result c.place.ensures c.requires.low))

pub returns : goal.returns
returns c =
    let was = at_place c.args.links.now c.args.cell c.place.result c.place.ensures c.requires.low in
    put_set c.args.links.now c.args.cell c.place.result c.raise.new.self c.place.ensures c.requires.low c.requires.high c.raise.ensures.shape
    (refs_of c.args.links.now c.args.cell + 1) (c.raise.ensures.refs ∙ ap (λ r. refs_in r + 1) (sym was))
