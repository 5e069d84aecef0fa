-- How a word of digits is read.
use Rattle.std.proofs.Common.{◌≡◌, ℕ, ◌+◌, ◌-◌, ◌*◌, ◌<◌, ◌≤◌, true, false, ◌&&◌, List, [], ◌∷◌, length, get_or, drop, Ok, Err, sym, refl, ap, ◌∙◌, arith}
use Rattle.std.specs.Char.{is_ascii_digit, digit_value}
use Rattle.std.specs.List.{list_all}
use Rattle.std.specs.Str.{all_ascii_digits}
use Rattle.std.specs.Str.Parse.{digits_value, digits_value_after}
use Rattle.std.proofs.lemmas.List.{at_drop_more}
use Rattle.std.proofs.lemmas.Str.Parse.{IsNumeralModel, numerals_by_value, tells_all_ascii_digits}
use Rattle.std.proofs.lemmas.Bool.Decides.{nat_tests}
use Rattle.std.proofs.lemmas.Bool.{and_parts, lt-ltb, le-ltb}
use Rattle.inventory.specs.Lines.{is_empty, number_in}
use Rattle.inventory.specs.declared.fault.Field.{Field}
use Rattle.inventory.specs.declared.fault.Fault.TheVariants.{TooLarge}

pub own : IsNumeralModel (λ ds. all_ascii_digits ds ≡ true) (digits_value 10)
own = numerals_by_value (λ ds. all_ascii_digits ds ≡ true) tells_all_ascii_digits

pub all_tested : (ds : List ℕ) → list_all is_ascii_digit ds ≡ all_ascii_digits ds
all_tested [] = refl
all_tested (d ∷ ds) = ap (λ t. is_ascii_digit d && t) (all_tested ds)

pub read_on_ge : (n : ℕ) (ds : List ℕ) → n ≤ digits_value_after 10 n ds
read_on_ge n [] = omega arith
read_on_ge n (d ∷ ds) = omega (arith, read_on_ge (n * 10 + digit_value d) ds)

-- digits, read up to i: v is what those before i write
pub record Sofar (word : List ℕ) (i v : ℕ) : Type 0 where
  pub value : digits_value_after 10 v (drop i word) ≡ digits_value 10 word
  pub left : all_ascii_digits (drop i word) ≡ true

-- one digit more
pub read_on_more : (word : List ℕ) (i v d : ℕ) → i < length word → d ≡ get_or word i 0 - 48 → Sofar word i v → Sofar word (i + 1) (v * 10 + d)
read_on_more word i v d h is before =
    let digit = get_or word i 0 in
    let both = and_parts (is_ascii_digit digit) (all_ascii_digits (drop (i + 1) word)) (sym (at_drop_more all_ascii_digits word i 0 h) ∙ before.left) in
    let here : is_ascii_digit digit ≡ true = both.0 in
    let means : d ≡ digit_value digit = grind (arith, nat_tests) in
    record {
      value = ap (λ x. digits_value_after 10 (v * 10 + x) (drop (i + 1) word)) means ∙ sym (at_drop_more (digits_value_after 10 v) word i 0 h) ∙ before.value;
      left = both.1;
    }

-- a word of digits, as a number of at most `most` and as a larger one
module _ (field : Field) (most : ℕ) (word : List ℕ) (there : is_empty word ≡ false) (all : all_ascii_digits word ≡ true) where
  pub read_number : digits_value 10 word ≤ most → number_in field most word ≡ Ok (digits_value 10 word)
  read_number fits = rw (there, all, le-ltb most (digits_value 10 word) fits)

  too_large : most < digits_value 10 word → number_in field most word ≡ Err (TooLarge field)
  too_large over = rw (there, all, lt-ltb most (digits_value 10 word) over)
