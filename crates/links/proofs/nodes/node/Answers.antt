use Rattle.std.proofs.Common.{ℕ, List, set, ap, ◌∙◌, arith, length-set}
use Rattle.links.specs.declared.link.Link.{Link}
use Rattle.links.specs.Changes.{Wrote}
use Rattle.links.specs.Fields.{left_in, right_in, count_in, levels_in, refs_in}
use Rattle.links.proofs.Tables.{at_same, at_other}
use Rattle.links.proofs.Writing.{built}
use Rattle.links.proofs.nodes.node.Goals as goal

pub returns : goal.returns
returns c =
    let ls : List Link = c.args.links.now in
    let cell : ℕ = c.args.cell in
    let i : ℕ = c.place.result in
    let v : Link = c.over.result in
    let l = c.link_of-l.ensures in
    let r = c.link_of-r.ensures in
    let here = at_same ls cell i v c.place.ensures c.requires.low c.requires.high in
    let wrote : Wrote ls (set ls i v) cell c.args.left c.args.right =
    record {
      len = length-set ls i v;
      others = at_other ls cell i v c.place.ensures c.requires.low c.requires.high;
      left = ap left_in here ∙ c.over.ensures.left;
      right = ap right_in here ∙ c.over.ensures.right;
      count = omega (arith, ap count_in here, c.over.ensures.count, ap count_in l, ap count_in r);
      levels = omega (arith, ap levels_in here, c.over.ensures.levels, ap levels_in l, ap levels_in r);
      refs = ap refs_in here ∙ c.over.ensures.refs;
    } in
    record {
      wrote = wrote;
      built = built ls (set ls i v) cell c.args.left c.args.right wrote c.requires.unused c.requires.low c.requires.high;
    }
