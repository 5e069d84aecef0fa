-- One turn of a loop that keeps the entries that pass a test.
use Rattle.std.proofs.Common.{◌≡◌, ℕ, ◌+◌, ◌<◌, ◌≤◌, Bool, true, false, List, [], ◌∷◌, ◌++◌, length, get_or, drop, sym, ap, ◌∙◌, append_assoc, append-nil}
use Rattle.std.proofs.lemmas.List.{at_drop_more, at_drop_all}
use Rattle.std.proofs.lemmas.Bool.{cond-true, cond-false}
use Rattle.std.specs.List.{filter}

module _ {E : Type 0} (xs : List E) (i : ℕ) (x : E) (inside : i < length xs) (is : x ≡ get_or xs i x) (p : E → Bool) (done : List E) where
  -- what is kept of the entries left, with the next one as it was read
  next : filter p (drop i xs) ≡ filter p (x ∷ drop (i + 1) xs)
  next = at_drop_more (filter p) xs i x inside ∙ ap (λ y. filter p (y ∷ drop (i + 1) xs)) (sym is)

  pub keep_more : p x ≡ true → (done ++ x ∷ []) ++ filter p (drop (i + 1) xs) ≡ done ++ filter p (drop i xs)
  keep_more e =
      append_assoc done (x ∷ []) (filter p (drop (i + 1) xs))
      ∙ ap (λ l. done ++ l) (sym (next ∙ cond-true (p x) (x ∷ filter p (drop (i + 1) xs)) (filter p (drop (i + 1) xs)) e))

  pub pass_over : p x ≡ false → done ++ filter p (drop (i + 1) xs) ≡ done ++ filter p (drop i xs)
  pass_over e = ap (λ l. done ++ l) (sym (next ∙ cond-false (p x) (x ∷ filter p (drop (i + 1) xs)) (filter p (drop (i + 1) xs)) e))

pub kept_all : {E : Type 0} (xs : List E) (i : ℕ) (p : E → Bool) (done : List E) → length xs ≤ i → done ++ filter p (drop i xs) ≡ done
kept_all xs i p done past = ap (λ l. done ++ l) (at_drop_all (filter p) xs i past) ∙ append-nil done
