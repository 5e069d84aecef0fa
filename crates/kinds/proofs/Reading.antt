-- No byte of a list is wrong exactly where every byte is allowed, and a number and its eight bytes give one another.
use Rattle.std.proofs.Common.{◌≡◌, ℕ, ◌^◌, ◌<◌, ◌≤◌, Bool, true, false, not, List, [], ◌∷◌, length, position, Ok, Err, Result, MatchResult, Some, None, refl, sym, ap, ◌∙◌, arith, rules}
use Rattle.std.specs.List.{list_all, position_or_len}
use Rattle.std.proofs.lemmas.Grind.{common_steps}
use Rattle.std.proofs.lemmas.List.Quantifiers.{position-Some}
use Rattle.std.proofs.lemmas.List.Folds.{list_all_at}
use Rattle.std.proofs.lemmas.Nat.{from_be_bytes-to_be_bytes_8}
use Rattle.kinds.specs.declared.label.Label.{Label}
use Rattle.kinds.specs.declared.not_a_label.NotALabel.{NotALabel}
use Rattle.kinds.specs.Labels.{allowed, bytes_of, is_label, checked, reading}

module _ (p : ℕ → Bool) where
  past : (bs : List ℕ) → length bs ≤ position_or_len (λ b. not (p b)) bs → list_all p bs ≡ true
  past [] h = refl
  past (b ∷ bs) h = let rest = past bs in grind (arith, common_steps)

  pub none_wrong : (bs : List ℕ) → position (λ b. not (p b)) bs ≡ None → list_all p bs ≡ true
  none_wrong bs h = past bs (search rules)

  pub some_wrong : (bs : List ℕ) (i : ℕ) → position (λ b. not (p b)) bs ≡ Some i → list_all p bs ≡ false
  some_wrong bs i h =
      let at = position-Some (λ b. not (p b)) bs i 0 h in
      let wrong = at.1 in
      list_all_at p bs i 0 at.0 (search rules)

  pub none_where : (bs : List ℕ) → list_all p bs ≡ true → position (λ b. not (p b)) bs ≡ None
  none_where [] h = refl
  none_where (b ∷ bs) h = let rest = none_where bs in grind (arith, common_steps)

pub reads_back : (n : ℕ) → n < 2 ^ 64 → is_label n ≡ true → reading (bytes_of n) ≡ Ok n
reads_back n fits is =
    let all : position (λ b. not (allowed b)) (bytes_of n) ≡ None = none_where allowed (bytes_of n) is in
    ap (checked (bytes_of n)) all ∙ ap Ok (from_be_bytes-to_be_bytes_8 n fits)

-- what the check of the number gives is what reading its bytes gives
pub read_by_number : (bs : List ℕ) (n : ℕ) (r : Result Label NotALabel) → bytes_of n ≡ bs → n < 2 ^ 64 →
    MatchResult r (λ l. (l.number ≡ n) × (is_label n ≡ true)) (λ e. (reading (bytes_of n) ≡ Err e) × (is_label n ≡ false)) →
    MatchResult r (λ l. (reading bs ≡ Ok l.number) × (bytes_of l.number ≡ bs)) (λ e. reading bs ≡ Err e)
read_by_number bs n (Ok l) back fits h =
    let is = h.0 in
    (ap reading (sym back) ∙ reads_back n fits h.1 ∙ ap Ok (sym is), ap bytes_of is ∙ back)
read_by_number bs n (Err e) back fits h = ap reading (sym back) ∙ h.0
