-- How a row is read word by word.
use Rattle.std.proofs.Common.{◌≡◌, ℕ, ◌+◌, true, false, not, Option, None, Some, MatchOption, Bor, is_some, List, [], ◌∷◌, drop, get_or, Ok, Err, sym, ap, ◌∙◌, subst}
use Rattle.std.specs.List.{All, slice_split}
use Rattle.std.proofs.lemmas.List.Elements.{All-head, filter_passes}
use Rattle.std.proofs.Math.Bool.{not-not}
use Rattle.std.proofs.lemmas.Grind.{get_or_after_one}
use Rattle.inventory.specs.Lines.{gap, is_empty, words, number_in, label_in, row_of}
use Rattle.inventory.specs.declared.fault.Field.TheVariants.{Address, Gigabytes, Day}
use Rattle.inventory.specs.declared.fault.Fault.{Fault}
use Rattle.inventory.specs.declared.fault.Fault.TheVariants.{ExtraWord}
use Rattle.inventory.proofs.Cutting.{some}

-- a word has a byte
pub word_there : (bs w : List ℕ) (ws : List (List ℕ)) → words bs ≡ w ∷ ws → is_empty w ≡ false
word_there bs w ws is =
    let passes : some w ≡ true = All-head (λ v. some v ≡ true) w ws (subst (λ vs. All (λ v. some v ≡ true) vs) is (filter_passes some (slice_split gap bs))) in
    sym (not-not (is_empty w)) ∙ ap not passes

-- one word later
next : (us vs : List (List ℕ)) (k : ℕ) → vs ≡ drop 1 us → get_or vs k [] ≡ get_or us (1 + k) []
next us vs k is = ap (λ ws. get_or ws k []) is ∙ get_or_after_one us k []

-- four words are read from ts, and us, vs, ws and xs are left after each
module _ (ts us vs ws xs : List (List ℕ)) (is_us : us ≡ drop 1 ts) (is_vs : vs ≡ drop 1 us) (is_ws : ws ≡ drop 1 vs) (is_xs : xs ≡ drop 1 ws) (x n y z : ℕ) (is_x : Ok x ≡ number_in Address 65535 (get_or ts 0 [])) (is_n : Ok n ≡ label_in (get_or us 0 [])) (is_y : Ok y ≡ number_in Gigabytes 4294967295 (get_or vs 0 [])) (is_z : Ok z ≡ number_in Day 65535 (get_or ws 0 [])) where
  second : label_in (get_or ts 1 []) ≡ Ok n
  second = ap label_in (sym (next ts us 0 is_us)) ∙ sym is_n

  third : number_in Gigabytes 4294967295 (get_or ts 2 []) ≡ Ok y
  third = ap (number_in Gigabytes 4294967295) (sym (next us vs 0 is_vs ∙ next ts us 1 is_us)) ∙ sym is_y

  fourth : number_in Day 65535 (get_or ts 3 []) ≡ Ok z
  fourth = ap (number_in Day 65535) (sym (next vs ws 0 is_ws ∙ next us vs 1 is_vs ∙ next ts us 2 is_us)) ∙ sym is_z

  fifth : get_or ts 4 [] ≡ get_or xs 0 []
  fifth = sym (next ws xs 0 is_xs ∙ next vs ws 1 is_ws ∙ next us vs 2 is_vs ∙ next ts us 3 is_us)

  pub whole : xs ≡ [] → Ok (record { label = n; gigabytes = y; address = x; day = z }) ≡ row_of ts
  whole none =
      let last : is_empty (get_or ts 4 []) ≡ true = ap is_empty fifth ∙ ap (λ vs. is_empty (get_or vs 0 [])) none in
      rw (sym is_x, second, third, fourth, last)

  -- a call of `next` gave a fifth word; bs is the text that is left before it
  pub extra : (bs : List ℕ) (r : Option (Bor (List ℕ))) (ys : List (List ℕ)) → xs ≡ words bs → MatchOption r ((xs ≡ []) × (ys ≡ [])) (λ w. xs ≡ w.now ∷ ys) → true ≡ is_some r → Err ExtraWord ≡ row_of ts
  extra bs None ys is_bs h some_word = cc
  extra bs (Some w) ys is_bs h some_word =
      let last : is_empty (get_or ts 4 []) ≡ false = ap is_empty fifth ∙ ap (λ vs. is_empty (get_or vs 0 [])) h ∙ word_there bs w.now ys (sym is_bs ∙ h) in
      rw (sym is_x, second, third, fourth, last)

-- the third or the fourth word is refused
module _ (ts us vs : List (List ℕ)) (is_us : us ≡ drop 1 ts) (is_vs : vs ≡ drop 1 us) (x n : ℕ) (fault : Fault) (is_x : Ok x ≡ number_in Address 65535 (get_or ts 0 [])) (is_n : Ok n ≡ label_in (get_or us 0 [])) where
  label_is : label_in (get_or ts 1 []) ≡ Ok n
  label_is = ap label_in (sym (next ts us 0 is_us)) ∙ sym is_n

  pub no_gigabytes : Err fault ≡ number_in Gigabytes 4294967295 (get_or vs 0 []) → Err fault ≡ row_of ts
  no_gigabytes is =
      let third : number_in Gigabytes 4294967295 (get_or ts 2 []) ≡ Err fault = ap (number_in Gigabytes 4294967295) (sym (next us vs 0 is_vs ∙ next ts us 1 is_us)) ∙ sym is in
      rw (sym is_x, label_is, third)

  pub no_day : (ws : List (List ℕ)) (y : ℕ) → ws ≡ drop 1 vs → Ok y ≡ number_in Gigabytes 4294967295 (get_or vs 0 []) → Err fault ≡ number_in Day 65535 (get_or ws 0 []) → Err fault ≡ row_of ts
  no_day ws y is_ws is_y is =
      let third : number_in Gigabytes 4294967295 (get_or ts 2 []) ≡ Ok y = ap (number_in Gigabytes 4294967295) (sym (next us vs 0 is_vs ∙ next ts us 1 is_us)) ∙ sym is_y in
      let fourth : number_in Day 65535 (get_or ts 3 []) ≡ Err fault = ap (number_in Day 65535) (sym (next vs ws 0 is_ws ∙ next us vs 1 is_vs ∙ next ts us 2 is_us)) ∙ sym is in
      rw (sym is_x, label_is, third, fourth)
