use Rattle.std.proofs.Common.{◌≡◌, ◌+◌, ◌++◌, drop, is_ok, vec_items, sym, ap, ◌∙◌, rules}
use Rattle.std.proofs.ResultArms.{chosen}
use Rattle.std.specs.List.{filter}
use Rattle.book.specs.Lists.{passing}
use Rattle.book.proofs.Sweeping.{keep_more, pass_over, kept_all}
use Rattle.book.proofs.sorted.sift.Goals as goal
use Rattle.book.proofs.sorted.sift.Goals.{then-passes+in_ok-push, else-passes}

pub loop-entry-preserved : goal.loop-entry-preserved
loop-entry-preserved g c =
    let p = passing g.K.Kind.ops c.args.limit in
    let x = c.entry-item.result in
    let told : p x ≡ c.passes.result = search rules in
    let rest = filter p (drop (c.loop-entry.entry-index + 1) c.args.entries.now) in
    elim c.if-passes.branch [
      | then-passes+in_ok-push w ↦
          let pushed = chosen _ _ _ _ w.push.ensures.items (ap is_ok w.in_ok-push.was) in
          ap (λ v. vec_items v ++ rest) w.passing-is ∙ ap (λ l. l ++ rest) pushed
          ∙ keep_more c.args.entries.now c.loop-entry.entry-index x c.loop-entry-test.true c.entry-item.is p (vec_items c.loop-entry.passing) (told ∙ w.if-passes.true) ∙ c.loop-entry.invariant
      | else-passes w ↦
          ap (λ v. vec_items v ++ rest) w.passing-is
          ∙ pass_over c.args.entries.now c.loop-entry.entry-index x c.loop-entry-test.true c.entry-item.is p (vec_items c.loop-entry.passing) (told ∙ w.if-passes.false) ∙ c.loop-entry.invariant
    ]

pub returns : goal.returns
returns g c =
    sym (kept_all c.args.entries.now c.loop-entry.entry-index (passing g.K.Kind.ops c.args.limit) (vec_items c.loop-entry.passing) c.loop-entry-test.false) ∙ c.loop-entry.invariant
