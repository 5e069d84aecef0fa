use Rattle.std.proofs.Common.{rules, ◌≡◌, length}
use Rattle.std.proofs.lemmas.Nat.{be_bytes_8}
use Rattle.kinds.specs.Labels.{bytes_of}
use Rattle.kinds.proofs.Reading.{read_by_number}
use Rattle.kinds.proofs.label.LabelTryFromRefSliceU8.try_from.Goals as goal

pub returns : goal.returns
returns c =
    let eight : length c.args.bytes.now ≡ 8 = search rules in
    let back : bytes_of c.from_be_bytes.result ≡ c.args.bytes.now =
    be_bytes_8 c.args.bytes.now c.from_be_bytes.result eight (λ i. search rules) (search rules) in
    read_by_number c.args.bytes.now c.from_be_bytes.result c.try_from-2.result back c.from_be_bytes.type_inv c.try_from-2.ensures
