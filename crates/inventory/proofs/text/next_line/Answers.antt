use Rattle.std.proofs.Common.{rules}
use Rattle.std.proofs.lemmas.List.{take_rest}
use Rattle.inventory.specs.Lines.{in_line}
use Rattle.inventory.proofs.Lining.{cut, cut_last}
use Rattle.inventory.proofs.text.next_line.Goals as goal

pub returns-in-empty : goal.returns-in-empty
returns-in-empty c =
    cut_last c.args.text.now c.split_front.result.0.now c.split_front.result.1.now (c.split_front.ensures.front in_line (λ b r h. search rules)) (c.split_front.ensures.rest in_line (λ b r h. search rules)) (search rules) (search rules)

pub returns-in-len1-up : goal.returns-in-len1-up
returns-in-len1-up c =
    cut c.args.text.now c.split_front.result.0.now c.split_front.result.1.now (c.split_front.ensures.front in_line (λ b r h. search rules)) (c.split_front.ensures.rest in_line (λ b r h. search rules)) (search rules) _ (take_rest c.split_front.result.1.now 1)
