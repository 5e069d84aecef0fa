use Rattle.std.proofs.Common.{rules, tests, sym}
use Rattle.std.proofs.lemmas.Iterator.{YieldsList-from_slice}
use Rattle.std.proofs.lemmas.Iterator.Search.{all_from_yields_List}
use Rattle.inventory.specs.Lines.{gap, in_text}
use Rattle.inventory.proofs.Cutting.{said}
use Rattle.inventory.proofs.line.read_line.Goals as goal

pub returns-then-all-clause-value : goal.returns-then-all-clause-value
returns-then-all-clause-value c =
    let text = c.split_front.result.0.now in
    let tested = all_from_yields_List gap _ _ c.all.result c.all.ensures.ran (YieldsList-from_slice text cc) (λ x b q k. search (rules, tests)) in
    rw (sym (c.split_front.ensures.front in_text (λ b r h. search rules)), said text c.all.result tested, c.if-all.true)

pub returns-clause-value : goal.returns-clause-value
returns-clause-value c =
    let text = c.split_front.result.0.now in
    let tested = all_from_yields_List gap _ _ c.all.result c.all.ensures.ran (YieldsList-from_slice text cc) (λ x b q k. search (rules, tests)) in
    rw (sym (c.split_front.ensures.front in_text (λ b r h. search rules)), said text c.all.result tested, c.if-all.false, sym c.read_row.ensures.value) (search rules)
