-- The words of a line, what a line says, and the lines of a text.
use Rattle.std.specs.Prelude.{◌≡◌, ℕ, ◌+◌, ◌<◌, Bool, cond, not, ◌||◌, List, [], ◌∷◌, length, drop, Option, Some, None, Ok, Err, Result, ◌==◌, nat_lt, slice_index_or}
use Rattle.std.specs.Result.{result_map_both}
use Rattle.std.specs.List.{prefix_len, take_while, filter, slice_split}
use Rattle.std.specs.Str.{all_ascii_digits}
use Rattle.std.specs.Str.Parse.{digits_value}
use Rattle.kinds.specs.Labels.{reading}
use Rattle.kinds.specs.declared.rows.slot.SlotRow.{SlotRow}
use Rattle.inventory.specs.declared.words.Words.{Words}
use Rattle.inventory.specs.declared.text.Lines.{Lines}
use Rattle.inventory.specs.declared.fault.Field.{Field}
use Rattle.inventory.specs.declared.fault.Field.TheVariants.{Address, Label, Gigabytes, Day}
use Rattle.inventory.specs.declared.fault.Fault.{Fault}
use Rattle.inventory.specs.declared.fault.Fault.TheVariants.{Missing, NotANumber, TooLarge, NotALabel, ExtraWord}

-- what stands after the longest front of elements that pass
abbrev pub past_front : (ℕ → Bool) → List ℕ → List ℕ
past_front p bs = drop (prefix_len p bs) bs

abbrev pub is_empty : List ℕ → Bool
is_empty bs = length bs == 0

-- go on with the value, or keep the error
abbrev pub and_then : {T U E : Type 0} → Result T E → (T → Result U E) → Result U E
and_then (Ok x) f = f x
and_then (Err e) f = Err e

-- space, tab and carriage return
abbrev pub gap : ℕ → Bool
gap b = b == 32 || b == 9 || b == 13

-- what a call at a byte says is what p says of it
abbrev pub Computes : (ℕ → Bool → Type 0) → (ℕ → Bool) → Type 0
Computes says p = (b : ℕ) (r : Bool) → says b r → r ≡ p b

abbrev pub in_word : ℕ → Bool
in_word b = not (gap b)

-- every byte but the one that starts a comment
abbrev pub in_text : ℕ → Bool
in_text b = not (b == 35)

-- every byte but the line end
abbrev pub in_line : ℕ → Bool
in_line b = not (b == 10)

-- the longest runs of bytes that are no gap
abbrev pub words : List ℕ → List (List ℕ)
words bs = filter (λ w. not (is_empty w)) (slice_split gap bs)

-- the first word, and what stands after it
abbrev pub first_word : List ℕ → List ℕ
first_word bs = take_while in_word (past_front gap bs)

abbrev pub after_word : List ℕ → List ℕ
after_word bs = past_front in_word (past_front gap bs)

-- a text that has a word, cut after its first one
pub record Split (text word rest : List ℕ) : Type 0 where
  pub front : word ≡ first_word text
  pub after : rest ≡ after_word text
  pub first : words text ≡ word ∷ words rest

-- the words that an iterator has left
abbrev pub words_left : Words → List (List ℕ)
words_left it = words it.rest.now

-- a word as the number of a field; an empty one is missing
abbrev pub number_in : Field → ℕ → List ℕ → Result ℕ Fault
number_in field most word =
    cond (is_empty word) (Err (Missing field))
    (cond (all_ascii_digits word) (cond (nat_lt most (digits_value 10 word)) (Err (TooLarge field)) (Ok (digits_value 10 word))) (Err (NotANumber field)))

-- a word as the number of a label: a wrong one is refused as reading refuses it
abbrev pub label_in : List ℕ → Result ℕ Fault
label_in word = cond (is_empty word) (Err (Missing Label)) (result_map_both (λ n. n) (λ why. NotALabel why) (reading word))

-- the row that words write, or the first fault from the left: address, label, gigabytes and day, and no fifth word
abbrev pub row_of : List (List ℕ) → Result SlotRow Fault
row_of ws =
    and_then (number_in Address 65535 (slice_index_or ws 0 [])) (λ a. and_then (label_in (slice_index_or ws 1 [])) (λ l.
    and_then (number_in Gigabytes 4294967295 (slice_index_or ws 2 [])) (λ g. and_then (number_in Day 65535 (slice_index_or ws 3 [])) (λ d.
    cond (is_empty (slice_index_or ws 4 [])) (Ok (record { label = l; gigabytes = g; address = a; day = d })) (Err ExtraWord)))))

-- what a line says: a row, or why there is none: the fault where it is refused, and none where it has no word
abbrev pub Said : Type 0
Said = Result SlotRow (Option Fault)

abbrev pub line_of : List (List ℕ) → Said
line_of [] = Err None
line_of (w ∷ ws) = result_map_both (λ row. row) (λ fault. Some fault) (row_of (w ∷ ws))

-- what a line says: its words, with what stands from the first # on cut off
abbrev pub meaning : List ℕ → Said
meaning line = line_of (words (take_while in_text line))

-- no piece after the last line end where nothing stands there
abbrev pub ended : List (List ℕ) → List (List ℕ)
ended [] = []
ended (p ∷ []) = cond (is_empty p) [] (p ∷ [])
ended (p ∷ q ∷ ps) = p ∷ ended (q ∷ ps)

-- the lines of a text, each without its line end
abbrev pub lines_of : List ℕ → List (List ℕ)
lines_of text = ended (slice_split (λ b. b == 10) text)

-- a text that is not empty, cut after its first line
pub record Cut (text line rest : List ℕ) : Type 0 where
  pub front : line ≡ take_while in_line text
  pub after : rest ≡ drop (length line + 1) text
  pub first : lines_of text ≡ line ∷ lines_of rest
  pub shorter : length rest < length text

-- the lines that an iterator has left
abbrev pub lines_left : Lines → List (List ℕ)
lines_left it = lines_of it.rest.now
