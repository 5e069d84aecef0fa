use Rattle.std.proofs.Common.{◌≡◌, ℕ, List, ◌++◌, string_bytes, codes, IsUtf8, decimal, sym, ap, ◌∙◌, subst, arith, rules}
use Rattle.std.proofs.lemmas.Result.{IfOk-weaker}
use Rattle.inventory.specs.Rows.{label_text, row_text}
use Rattle.inventory.proofs.ReadBack.{reads_back, label_utf8}
use Rattle.inventory.proofs.row.write_row.Goals as goal

pub returns-in_err-label : goal.returns-in_err-label
returns-in_err-label c = record { text = search rules; back = reads_back c.args.row (omega arith) (omega arith) (omega arith) (omega arith) }

pub returns : goal.returns
returns c =
    let utf8 = subst IsUtf8 (sym c.label_text-bytes.ensures) (label_utf8 c.args.row.label) in
    let same : string_bytes c.in_ok-label.label ≡ label_text c.args.row.label = c.in_ok-label.ensures.ok utf8 ∙ c.label_text-bytes.ensures in
    let text : List ℕ → List ℕ = λ label. decimal c.args.row.address ++ (codes " " ++ (label ++ (codes " " ++ (decimal c.args.row.gigabytes ++ (codes " " ++ decimal c.args.row.day))))) in
    record {
      text = IfOk-weaker c.format.result (λ s. string_bytes s ≡ text (string_bytes c.in_ok-label.label)) (λ s. string_bytes s ≡ row_text c.args.row) (λ s is. is ∙ ap text same) c.format.ensures.ok;
      back = reads_back c.args.row (grind arith) (grind arith) (grind arith) (grind arith);
    }
