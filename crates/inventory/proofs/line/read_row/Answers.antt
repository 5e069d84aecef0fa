use Rattle.std.proofs.Common.{◌≡◌, [], refl, ap, ◌∙◌, rules}
use Rattle.std.proofs.lemmas.Result.{err_from_is_err_and}
use Rattle.inventory.specs.Lines.{words_left, row_of}
use Rattle.inventory.proofs.Rowing.{extra, whole, no_gigabytes, no_day}
use Rattle.inventory.proofs.line.read_row.Goals as goal

pub returns-then-is_some-clause-value : goal.returns-then-is_some-clause-value
returns-then-is_some-clause-value c =
    extra (words_left c.new-words.result) (words_left c.next_number.new.self) (words_left c.next_label.new.self) (words_left c.next_number-2.new.self) (words_left c.next_number-3.new.self)
    c.next_number.ensures.rest c.next_label.ensures.rest c.next_number-2.ensures.rest c.next_number-3.ensures.rest
    c.in_ok-address.address c.in_ok-label.label c.in_ok-gigabytes.gigabytes c.in_ok-day.day
    c.in_ok-address.ensures.value c.in_ok-label.ensures.value c.in_ok-gigabytes.ensures.value c.in_ok-day.ensures.value
    c.next_number-3.new.self.rest.now c.next.result (words_left c.next.new.self) refl c.next.ensures.steps c.if-is_some.ensures
    ∙ ap row_of c.new-words.ensures

pub returns-clause-value : goal.returns-clause-value
returns-clause-value c =
    let none : words_left c.next_number-3.new.self ≡ [] = search rules in
    whole (words_left c.new-words.result) (words_left c.next_number.new.self) (words_left c.next_label.new.self) (words_left c.next_number-2.new.self) (words_left c.next_number-3.new.self)
    c.next_number.ensures.rest c.next_label.ensures.rest c.next_number-2.ensures.rest c.next_number-3.ensures.rest
    c.in_ok-address.address c.in_ok-label.label c.in_ok-gigabytes.gigabytes c.in_ok-day.day
    c.in_ok-address.ensures.value c.in_ok-label.ensures.value c.in_ok-gigabytes.ensures.value c.in_ok-day.ensures.value none
    ∙ ap row_of c.new-words.ensures

pub returns-in_err-gigabytes-clause-value : goal.returns-in_err-gigabytes-clause-value
returns-in_err-gigabytes-clause-value c =
    let e = err_from_is_err_and c.from_residual-in_err-gigabytes.result c.from_residual-in_err-gigabytes.ensures.1 in
    rw (e.1, e.2) (no_gigabytes (words_left c.new-words.result) (words_left c.next_number.new.self) (words_left c.next_label.new.self) c.next_number.ensures.rest c.next_label.ensures.rest
    c.in_ok-address.address c.in_ok-label.label c.in_err-gigabytes.field-0.0 c.in_ok-address.ensures.value c.in_ok-label.ensures.value c.in_err-gigabytes.ensures.value)
    ∙ ap row_of c.new-words.ensures

pub returns-in_err-day-clause-value : goal.returns-in_err-day-clause-value
returns-in_err-day-clause-value c =
    let e = err_from_is_err_and c.from_residual-in_err-day.result c.from_residual-in_err-day.ensures.1 in
    rw (e.1, e.2) (no_day (words_left c.new-words.result) (words_left c.next_number.new.self) (words_left c.next_label.new.self) c.next_number.ensures.rest c.next_label.ensures.rest
    c.in_ok-address.address c.in_ok-label.label c.in_err-day.field-0.0 c.in_ok-address.ensures.value c.in_ok-label.ensures.value
    (words_left c.next_number-2.new.self) c.in_ok-gigabytes.gigabytes c.next_number-2.ensures.rest c.in_ok-gigabytes.ensures.value c.in_err-day.ensures.value)
    ∙ ap row_of c.new-words.ensures
