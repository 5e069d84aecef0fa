-- An entry is inserted where those behind its place are copied one place on, as one block, and it is written at the place.
use Rattle.std.proofs.Common.{◌≡◌, ℕ, ◌+◌, ◌-◌, ◌≤◌, List, [], ◌∷◌, ◌++◌, length, get_or, set, take, drop, ap, ◌∙◌, append-nil, append_assoc, length-append, length-drop, arith}
use Rattle.std.proofs.lemmas.List.{take_more, take_rest, take-append-le, drop-append-le, drop_all, set_at, length-take-le}
use Rattle.std.specs.List.{copy_within, insert}

module _ {E : Type 0} (xs : List E) (i : ℕ) (e : E) (inside : i ≤ length xs) where
  -- with room for one more at the end
  more : List E
  more = xs ++ e ∷ []

  front : take (i + 1) more ≡ take i xs ++ get_or more i e ∷ []
  unfolding more
  front = take_more more i e (let long = length-append xs (e ∷ []) in omega arith) ∙ ap (λ ys. ys ++ get_or more i e ∷ []) (take-append-le i xs (e ∷ []) inside)

  behind : take (length xs - i) (drop i more) ≡ drop i xs
  unfolding more
  behind =
      let long = length-drop i xs in
      ap (take (length xs - i)) (drop-append-le i xs (e ∷ []) inside) ∙ take-append-le (length xs - i) (drop i xs) (e ∷ []) (omega arith) ∙ take_rest xs i

  past : drop (i + 1 + (length xs - i)) more ≡ []
  unfolding more
  past = drop_all (i + 1 + (length xs - i)) more (let long = length-append xs (e ∷ []) in omega arith)

  copied : copy_within more i (length xs) (i + 1) ≡ take i xs ++ get_or more i e ∷ drop i xs
  unfolding more
  copied =
      (λ k. front k ++ behind k ++ past k) ∙ append-nil ((take i xs ++ get_or more i e ∷ []) ++ drop i xs)
      ∙ append_assoc (take i xs) (get_or more i e ∷ []) (drop i xs)

  pub inserted : set (copy_within (xs ++ e ∷ []) i (length xs) (i + 1)) i e ≡ insert xs i e
  unfolding more
  inserted = ap (λ ys. set ys i e) copied ∙ set_at (take i xs) (get_or more i e) (drop i xs) e i (length-take-le i xs inside)
