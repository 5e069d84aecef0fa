-- How a text is cut after its first line.
use Rattle.std.proofs.Common.{◌≡◌, ℕ, ◌+◌, ◌-◌, ◌<◌, Bool, List, [], ◌∷◌, length, drop, sym, ap, ◌∙◌, arith}
use Rattle.std.specs.List.{prefix_len, take_while}
use Rattle.std.specs.Prelude.{◌==◌}
use Rattle.std.proofs.lemmas.List.{length-take-le, length-drop, drop-drop, nil_from_length}
use Rattle.std.proofs.lemmas.List.Sums.{prefix_len-le-length}
use Rattle.std.proofs.lemmas.Bool.{cond-false, ne_eqb}
use Rattle.inventory.specs.Lines.{past_front, in_line, is_empty, ended, lines_of, Cut}
use Rattle.inventory.proofs.Cutting.{split-first, later}

abbrev ends : ℕ → Bool
ends b = b == 10

-- past is what stands after the line, its line end included
first_line : (line past : List ℕ) → 0 < length line + length past → ended (line ∷ later ends past) ≡ line ∷ lines_of (drop 1 past)
first_line line [] h = cond-false (is_empty line) [] (line ∷ []) (ne_eqb (length line) 0 (λ z. omega arith))
first_line line (b ∷ bs) h = let rest = split-first ends bs in cc

module _ (text line past : List ℕ) (is_line : line ≡ take_while in_line text) (is_past : past ≡ past_front in_line text) (some : 0 < length text) where
  pub cut : (rest : List ℕ) → rest ≡ drop 1 past → Cut text line rest
  cut rest is_rest =
      let inside = prefix_len-le-length in_line text in
      let line_long : length line ≡ prefix_len in_line text = ap length is_line ∙ length-take-le (prefix_len in_line text) text inside in
      let past_long : length past ≡ length text - prefix_len in_line text = ap length is_past ∙ length-drop (prefix_len in_line text) text in
      let rest_long : length rest ≡ length past - 1 = ap length is_rest ∙ length-drop 1 past in
      record {
        front = is_line;
        after = is_rest ∙ ap (drop 1) is_past ∙ drop-drop 1 (prefix_len in_line text) text ∙ ap (λ k. drop (k + 1) text) (sym line_long);
        first = let pieced = split-first ends text in let lines = first_line line past (omega arith) in cc;
        shorter = omega arith;
      }

  -- nothing stands after the line
  pub cut_last : length past ≡ 0 → Cut text line past
  cut_last none = let nil = nil_from_length past none in cut past (nil ∙ sym (ap (drop 1) nil))
