-- How a list falls into parts, and its first word.
use Rattle.std.proofs.Common.{◌≡◌, ℕ, Bool, true, false, cond, not, ltb, Option, Some, None, ◌≤◌, List, [], ◌∷◌, length, take, sym, refl, ap, ◌∙◌, inl, inr, one-add, take_all, ◌==◌, Err, arith}
use Rattle.std.specs.Option.{unwrap_or}
use Rattle.std.specs.Result.{result_map_both}
use Rattle.std.proofs.lemmas.List.Sums.{prefix_len-le-length, prefix_len_is}
use Rattle.std.proofs.lemmas.List.Elements.{All-get_or}
use Rattle.std.specs.List.{position, position_or_len, prefix_len, take_while, filter, slice_split, list_all, All}
use Rattle.std.proofs.Math.Bool.{not-not}
use Rattle.std.proofs.lemmas.Bool.{cases_Bool, cases_lt, cond-true, cond-false, ne_eqb, lt-ltb, le-ltb}
use Rattle.inventory.specs.Lines.{past_front, is_empty, gap, in_word, words, first_word, after_word, Split, row_of, line_of}

-- the place of the first element that fails, or else the length, is how many pass from the front on
pub up_to_first : (p : ℕ → Bool) (bs : List ℕ) (found : Option ℕ) (n : ℕ) → found ≡ position (λ b. not (p b)) bs → n ≡ unwrap_or found (length bs) → n ≡ prefix_len p bs
up_to_first p bs found n is_found is_n =
    let first = position_or_len (λ b. not (p b)) bs in
    let fits : first ≤ length bs = prefix_len-le-length (λ b. not (not (p b))) bs in
    let same : first ≡ prefix_len p bs = λ i. prefix_len (λ b. not-not (p b) i) bs in
    elim (cases_lt first (length bs)) [
      | inl low ↦ let there = cond-true (ltb first (length bs)) (Some first) None (lt-ltb first (length bs) low) in cc
      | inr high ↦ let none = cond-false (ltb first (length bs)) (Some first) None (le-ltb first (length bs) high) in let all : first ≡ length bs = omega arith in cc
    ]

-- the parts that are words
abbrev pub some : List ℕ → Bool
some w = not (is_empty w)

-- the elements that do not pass
abbrev pub others : (ℕ → Bool) → ℕ → Bool
others p b = not (p b)

-- the parts after the first, where bs is what stands after it
abbrev pub later : (ℕ → Bool) → List ℕ → List (List ℕ)
later p [] = []
later p (b ∷ bs) = slice_split p bs

module _ (p : ℕ → Bool) where
  pub split-first : (bs : List ℕ) → slice_split p bs ≡ take_while (others p) bs ∷ later p (past_front (others p) bs)
  split-first [] = refl
  split-first (b ∷ bs) = elim (cases_Bool (p b)) [ inl cut ↦ rw cut | inr on ↦ rw (on, one-add, split-first bs) ]

  -- what stands after a front of others is empty or starts with an element that passes, so its first part is empty
  later-words : (bs : List ℕ) → filter some (later p (past_front (others p) bs)) ≡ filter some (slice_split p (past_front (others p) bs))
  later-words [] = refl
  later-words (b ∷ bs) = elim (cases_Bool (p b)) [ inl cut ↦ rw (cut, cut) | inr on ↦ rw (on, one-add) (later-words bs) ]

  -- the first part that is not empty
  pub words-first : (bs : List ℕ) →
      filter some (slice_split p bs)
      ≡ cond (is_empty (take_while (others p) (past_front p bs))) [] (take_while (others p) (past_front p bs) ∷ filter some (slice_split p (past_front (others p) (past_front p bs))))
  words-first [] = refl
  words-first (b ∷ bs) =
      elim (cases_Bool (p b)) [
        | inl cut ↦ rw (cut, one-add) (words-first bs)
        | inr on ↦
            let there : is_empty (b ∷ take_while (others p) bs) ≡ false = ne_eqb (length (b ∷ take_while (others p) bs)) 0 (λ z. omega arith) in
            rw (on, split-first bs, one-add, later-words bs, on, there)
      ]

  pub front_all : (bs : List ℕ) → All (λ b. p b ≡ true) bs → take_while p bs ≡ bs
  front_all bs h =
      let whole : prefix_len p bs ≡ length bs = prefix_len_is p bs (length bs) 0 (omega arith) (λ k low. All-get_or (λ b. p b ≡ true) bs k 0 low h) (λ low. absurd (omega arith)) in
      ap (λ n. take n bs) whole ∙ take_all (length bs) bs (omega arith)

module _ (text found word rest : List ℕ) (is_found : found ≡ past_front gap text) (is_word : word ≡ take_while in_word found) (is_rest : rest ≡ past_front in_word found) where
  first_is : word ≡ first_word text
  first_is = is_word ∙ ap (take_while in_word) is_found

  pub no_word : is_empty word ≡ true → words text ≡ []
  no_word none = words-first gap text ∙ cond-true (is_empty (first_word text)) [] (first_word text ∷ words (after_word text)) (ap is_empty (sym first_is) ∙ none)

  pub first_cut : is_empty word ≡ false → Split text word rest
  first_cut some_word =
      let after : rest ≡ after_word text = is_rest ∙ ap (past_front in_word) is_found in
      record {
        front = first_is;
        after = after;
        first =
            words-first gap text ∙ cond-false (is_empty (first_word text)) [] (first_word text ∷ words (after_word text)) (ap is_empty (sym first_is) ∙ some_word)
            ∙ (λ i. sym first_is i ∷ words (sym after i));
      }

-- a text has no word where every byte is a gap
pub blank : (bs : List ℕ) → (length (words bs) == 0) ≡ list_all gap bs
blank [] = refl
blank (b ∷ bs) =
    elim (cases_Bool (gap b)) [
      | inl cut ↦ rw cut (blank bs)
      | inr on ↦
          let there : is_empty (b ∷ take_while (others gap) bs) ≡ false = ne_eqb (length (b ∷ take_while (others gap) bs)) 0 (λ z. omega arith) in
          rw (on, split-first gap bs, there) (ne_eqb (length ((b ∷ take_while (others gap) bs) ∷ filter some (later gap (past_front (others gap) bs)))) 0 (λ z. omega arith))
    ]

-- what words say, by a test whether there are none
by_words : (ws : List (List ℕ)) (none : Bool) → none ≡ (length ws == 0) → line_of ws ≡ cond none (Err None) (result_map_both (λ row. row) (λ fault. Some fault) (row_of ws))
by_words [] none is = rw is
by_words (w ∷ ws) none is = rw (is, ne_eqb (length (w ∷ ws)) 0 (λ z. omega arith))

-- the same, by a test whether every byte is a gap
pub said : (bs : List ℕ) (none : Bool) → none ≡ list_all gap bs → line_of (words bs) ≡ cond none (Err None) (result_map_both (λ row. row) (λ fault. Some fault) (row_of (words bs)))
said bs none is = by_words (words bs) none (is ∙ sym (blank bs))
