use Rattle.std.proofs.Common.{◌-◌, ltb, sym, ap, ◌∙◌, arith}
use Rattle.links.specs.Fields.{refs_in}
use Rattle.links.specs.Cells.{refs_of}
use Rattle.links.proofs.Tables.{at_place, at_same, put_set}
use Rattle.links.proofs.cells.lower.Goals as goal

pub lower-requires : goal.lower-requires
lower-requires c =
    omega (arith, c.requires.some, ap refs_in (at_place c.args.links.now c.args.cell c.place.result c.place.ensures c.requires.low))

pub returns : goal.returns
returns c =
    let was = ap refs_in (at_place c.args.links.now c.args.cell c.place.result c.place.ensures c.requires.low) in
    let left = c.lower.ensures.refs in
    record {
      put = put_set c.args.links.now c.args.cell c.place.result c.lower.new.self c.place.ensures c.requires.low c.requires.high c.lower.ensures.shape
          (refs_of c.args.links.now c.args.cell - 1) (omega arith);
      held = c.lower.ensures.held
          ∙ ap (λ r. ltb 0 (refs_in r)) (sym (at_same c.args.links.now c.args.cell c.place.result c.lower.new.self c.place.ensures c.requires.low c.requires.high));
    }
