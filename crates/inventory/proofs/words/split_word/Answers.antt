use Rattle.std.proofs.Common.{sym, rules}
use Rattle.inventory.specs.Lines.{gap, in_word}
use Rattle.inventory.proofs.Cutting.{no_word, first_cut}
use Rattle.inventory.proofs.words.split_word.Goals as goal

pub returns-then-is_empty : goal.returns-then-is_empty
returns-then-is_empty c =
    no_word c.args.text.now c.split_front.result.1.now c.split_front-2.result.0.now c.split_front-2.result.1.now (c.split_front.ensures.rest gap (λ b r h. search rules))
    (c.split_front-2.ensures.front in_word (λ b r h. search rules)) (c.split_front-2.ensures.rest in_word (λ b r h. search rules)) (sym c.if-is_empty.ensures)

pub returns : goal.returns
returns c =
    first_cut c.args.text.now c.split_front.result.1.now c.split_front-2.result.0.now c.split_front-2.result.1.now (c.split_front.ensures.rest gap (λ b r h. search rules))
    (c.split_front-2.ensures.front in_word (λ b r h. search rules)) (c.split_front-2.ensures.rest in_word (λ b r h. search rules)) (sym c.if-is_empty.ensures)
