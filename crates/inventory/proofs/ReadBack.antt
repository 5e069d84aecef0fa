-- That reading what was written for a row gives the row.
use Rattle.std.proofs.Common.{◌≡◌, ℕ, ◌^◌, ◌<◌, ◌≤◌, true, false, List, [], length, ◌∷◌, ◌++◌, Some, Ok, Err, codes, IsUtf8, decimal, sym, refl, ap, ◌∙◌, inl, inr, arith, rules}
use Rattle.std.specs.Result.{result_map_both}
use Rattle.std.specs.Char.{is_ascii_digit}
use Rattle.std.specs.List.{list_all, All, take_while, filter, slice_split}
use Rattle.std.specs.Str.{all_ascii_digits}
use Rattle.std.proofs.lemmas.List.Elements.{All-nil, All-cons, All-append, All-weaker}
use Rattle.std.proofs.lemmas.List.Splits.{slice_split_none, slice_split_at}
use Rattle.std.proofs.lemmas.Str.Ascii.{IsAscii-from_all}
use Rattle.std.proofs.lemmas.Fmt.{digits_decimal, digits_value-decimal, decimal_nonempty}
use Rattle.std.proofs.lemmas.Bool.{cases_Bool, and_parts, cond-true, cond-false, cond_both, ne_eqb}
use Rattle.std.proofs.lemmas.Str.{IsUtf8-from_ascii}
use Rattle.std.proofs.lemmas.Bool.Decides.{nat_tests}
use Rattle.kinds.specs.declared.not_a_label.NotALabel.TheVariants.{WrongByte}
use Rattle.kinds.specs.Labels.{allowed, bytes_of, is_label}
use Rattle.kinds.proofs.Reading.{reads_back as number_reads_back}
use Rattle.kinds.specs.declared.rows.slot.SlotRow.{SlotRow}
use Rattle.inventory.specs.Lines.{in_text, is_empty, gap, words, number_in, label_in, line_of}
use Rattle.inventory.specs.Rows.{label_text, row_text, ReadsBack}
use Rattle.inventory.specs.declared.fault.Field.{Field}
use Rattle.inventory.specs.declared.fault.Field.TheVariants.{Address, Gigabytes, Day}
use Rattle.inventory.specs.declared.fault.Fault.{Fault}
use Rattle.inventory.specs.declared.fault.Fault.TheVariants.{NotALabel}
use Rattle.inventory.proofs.Cutting.{some, front_all}
use Rattle.inventory.proofs.Decimals.{own, read_number}

-- every byte of a number or a label is from 0 to Z: past the gaps and the sign of a comment, and ASCII
abbrev Sign : ℕ → Type 0
Sign b = (48 ≤ b) × (b ≤ 90)

sign_no_gap : (b : ℕ) → Sign b → gap b ≡ false
sign_no_gap b h = grind (arith, nat_tests)

sign_content : (b : ℕ) → Sign b → in_text b ≡ true
sign_content b h = grind (arith, nat_tests)

signs_from_digits : (ds : List ℕ) → all_ascii_digits ds ≡ true → All Sign ds
signs_from_digits [] h = All-nil Sign
signs_from_digits (d ∷ ds) h =
    let both = and_parts (is_ascii_digit d) (all_ascii_digits ds) h in
    let here : is_ascii_digit d ≡ true = both.0 in
    let low : 48 ≤ d = grind (arith, nat_tests) in
    let high : d ≤ 90 = grind (arith, nat_tests) in
    All-cons Sign d ds (low, high) (signs_from_digits ds both.1)

signs_from_allowed : (bs : List ℕ) → list_all allowed bs ≡ true → All Sign bs
signs_from_allowed [] h = All-nil Sign
signs_from_allowed (b ∷ bs) h =
    let both = and_parts (allowed b) (list_all allowed bs) h in
    let here : allowed b ≡ true = both.0 in
    let low : 48 ≤ b = grind (arith, nat_tests) in
    let high : b ≤ 90 = grind (arith, nat_tests) in
    All-cons Sign b bs (low, high) (signs_from_allowed bs both.1)

signs_marks : All Sign (codes "????????")
signs_marks = search rules

-- the words of a text whose words are known from the left
module _ (w : List ℕ) (there : is_empty w ≡ false) (signs : All Sign w) where
  cut_free : All (λ b. gap b ≡ false) w
  cut_free = All-weaker Sign (λ b. gap b ≡ false) sign_no_gap w signs

  kept : (ws : List (List ℕ)) → filter some (w ∷ ws) ≡ w ∷ filter some ws
  kept ws = rw there

  words_end : words w ≡ w ∷ []
  words_end = ap (filter some) (slice_split_none gap w cut_free) ∙ kept []

  words_cut : (bs : List ℕ) → words (w ++ 32 ∷ bs) ≡ w ∷ words bs
  words_cut bs = ap (filter some) (slice_split_at gap w 32 bs cut_free refl) ∙ kept (slice_split gap bs)

  no_comment : All (λ b. in_text b ≡ true) w
  no_comment = All-weaker Sign (λ b. in_text b ≡ true) sign_content w signs

-- a number
module _ (n : ℕ) (small : n < 2 ^ 64) where
  decimal-digits : all_ascii_digits (decimal n) ≡ true
  decimal-digits = digits_decimal own n small

  decimal_there : is_empty (decimal n) ≡ false
  decimal_there = (let long = decimal_nonempty n small in ne_eqb (length (decimal n)) 0 (λ z. omega arith))

  decimal_signs : All Sign (decimal n)
  decimal_signs = signs_from_digits (decimal n) decimal-digits

  decimal-read : (field : Field) (most : ℕ) → n ≤ most → number_in field most (decimal n) ≡ Ok n
  decimal-read field most fits =
      read_number field most (decimal n) decimal_there decimal-digits (omega (arith, digits_value-decimal own n small)) ∙ ap (λ k. Ok k) (digits_value-decimal own n small)

-- a label, or what stands for one
module _ (n : ℕ) where
  label_there : is_empty (label_text n) ≡ false
  label_there = cond_both (is_label n) (bytes_of n) (codes "????????") (λ t. is_empty t ≡ false) (λ _. refl) (λ _. refl)

  label_signs : All Sign (label_text n)
  label_signs =
      cond_both (is_label n) (bytes_of n) (codes "????????") (λ t. All Sign t) (λ h. signs_from_allowed (bytes_of n) h)
      (λ _. signs_marks)

  pub label_utf8 : IsUtf8 (label_text n)
  label_utf8 = IsUtf8-from_ascii (label_text n) (IsAscii-from_all (label_text n) (All-weaker Sign (λ b. b < 128) (λ b h. omega arith) (label_text n) label_signs))

  label_read : n < 2 ^ 64 → is_label n ≡ true → label_in (label_text n) ≡ Ok n
  label_read small is =
      let text : label_text n ≡ bytes_of n = cond-true (is_label n) (bytes_of n) (codes "????????") is in
      ap label_in text ∙ ap (result_map_both (λ k. k) (λ why. NotALabel why)) (number_reads_back n small is)

  marks_refused : is_label n ≡ false → label_in (label_text n) ≡ Err (NotALabel (WrongByte 0))
  marks_refused no_label = ap label_in (cond-false (is_label n) (bytes_of n) (codes "????????") no_label)

-- the four words of a line, read
module _ (a l g d : List ℕ) (x y z : ℕ) (is_x : number_in Address 65535 a ≡ Ok x) (is_y : number_in Gigabytes 4294967295 g ≡ Ok y) (is_z : number_in Day 65535 d ≡ Ok z) where
  four_read : (n : ℕ) → label_in l ≡ Ok n → line_of (a ∷ l ∷ g ∷ d ∷ []) ≡ Ok (record { label = n; gigabytes = y; address = x; day = z })
  four_read n is_n = rw (is_x, is_n, is_y, is_z)

  four_refused : (fault : Fault) → label_in l ≡ Err fault → line_of (a ∷ l ∷ g ∷ d ∷ []) ≡ Err (Some fault)
  four_refused fault is_fault = rw (is_x, is_fault)

module _ (row : SlotRow) (address : row.address < 65536) (label : row.label < 2 ^ 64) (gigabytes : row.gigabytes < 4294967296) (day : row.day < 65536) where
  a : List ℕ
  a = decimal row.address

  l : List ℕ
  l = label_text row.label

  g : List ℕ
  g = decimal row.gigabytes

  d : List ℕ
  d = decimal row.day

  four : words (row_text row) ≡ a ∷ l ∷ g ∷ d ∷ []
  unfolding a l g d
  four =
      words_cut a (decimal_there row.address (omega arith)) (decimal_signs row.address (omega arith)) (l ++ 32 ∷ (g ++ 32 ∷ d))
      ∙ ap (λ ws. a ∷ ws) (words_cut l (label_there row.label) (label_signs row.label) (g ++ 32 ∷ d)
      ∙ ap (λ ws. l ∷ ws) (words_cut g (decimal_there row.gigabytes (omega arith)) (decimal_signs row.gigabytes (omega arith)) d
      ∙ ap (λ ws. g ∷ ws) (words_end d (decimal_there row.day (omega arith)) (decimal_signs row.day (omega arith)))))

  uncut : take_while in_text (row_text row) ≡ row_text row
  unfolding a l g d
  uncut =
      let kept : ℕ → Type 0 = λ b. in_text b ≡ true in
      let in_a = no_comment a (decimal_there row.address (omega arith)) (decimal_signs row.address (omega arith)) in
      let in_l = no_comment l (label_there row.label) (label_signs row.label) in
      let in_g = no_comment g (decimal_there row.gigabytes (omega arith)) (decimal_signs row.gigabytes (omega arith)) in
      let in_d = no_comment d (decimal_there row.day (omega arith)) (decimal_signs row.day (omega arith)) in
      front_all in_text (row_text row)
      (All-append kept a (32 ∷ (l ++ 32 ∷ (g ++ 32 ∷ d))) in_a (All-cons kept 32 _ refl (All-append kept l (32 ∷ (g ++ 32 ∷ d)) in_l (All-cons kept 32 _ refl (All-append kept g (32 ∷ d) in_g (All-cons kept 32 _ refl in_d))))))

  pub reads_back : ReadsBack row
  unfolding a l g d
  reads_back =
      let is_a = decimal-read row.address (omega arith) Address 65535 (omega arith) in
      let is_g = decimal-read row.gigabytes (omega arith) Gigabytes 4294967295 (omega arith) in
      let is_d = decimal-read row.day (omega arith) Day 65535 (omega arith) in
      let split = ap (λ t. line_of (words t)) uncut ∙ ap line_of four in
      elim (cases_Bool (is_label row.label)) [
        | inl is ↦
            split ∙ four_read a l g d row.address row.gigabytes row.day is_a is_g is_d row.label (label_read row.label label is)
            ∙ sym (cond-true (is_label row.label) (Ok row) (Err (Some (NotALabel (WrongByte 0)))) is)
        | inr none ↦
            split ∙ four_refused a l g d row.address row.gigabytes row.day is_a is_g is_d (NotALabel (WrongByte 0)) (marks_refused row.label none)
            ∙ sym (cond-false (is_label row.label) (Ok row) (Err (Some (NotALabel (WrongByte 0)))) none)
      ]
