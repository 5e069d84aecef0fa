use Rattle.std.proofs.Common.{rules, ◌≡◌, not, position, Some, None, ap}
use Rattle.kinds.specs.Labels.{allowed, bytes_of, checked}
use Rattle.kinds.proofs.Reading.{none_wrong, some_wrong}
use Rattle.kinds.proofs.label.LabelTryFromU64.try_from.Goals as goal

pub invariant_of-result : goal.invariant_of-result
invariant_of-result c =
    let none : position (λ b. not (allowed b)) (bytes_of c.args.number) ≡ None = search rules in
    record { lettered = none_wrong allowed (bytes_of c.args.number) none }

pub returns-in-Some : goal.returns-in-Some
returns-in-Some c =
    let some : position (λ b. not (allowed b)) (bytes_of c.args.number) ≡ Some c.in-Some.place = search rules in
    (ap (checked (bytes_of c.args.number)) some, some_wrong allowed (bytes_of c.args.number) c.in-Some.place some)
