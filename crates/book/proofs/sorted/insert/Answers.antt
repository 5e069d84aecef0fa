use Rattle.std.proofs.Common.{◌≡◌, ◌+◌, ◌∷◌, ◌++◌, [], length, set, ap, ◌∙◌, rules}
use Rattle.std.specs.List.{copy_within}
use Rattle.book.proofs.Inserting.{inserted}
use Rattle.book.proofs.sorted.insert.Goals as goal

pub returns : goal.returns
returns g c =
    let pushed : c.push.new.self.items ≡ c.args.entries.now.items ++ c.args.entry ∷ [] = search rules in
    let end : c.len-end.result ≡ length c.args.entries.now.items = search rules in
    ap (λ ys. set ys c.args.place c.args.entry) (c.copy_within.ensures.items ∙ (λ k. copy_within (pushed k) c.args.place (end k) (c.args.place + 1)))
    ∙ inserted c.args.entries.now.items c.args.place c.args.entry c.requires
