-- What holds of every element of a list, and which elements a test keeps.
use Rattle.std.proofs.Common.{◌≡◌, ℕ, Bool, false, List, [], ◌∷◌, Some, refl, subst}
use Rattle.std.proofs.ByRecursion.{All-get_or}
use Rattle.std.proofs.lemmas.Option.{slice_get_within, get_or_from_slice_get}
use Rattle.std.specs.List.{filter}
use Rattle.book.specs.Lists.{Every, position}

module _ {E : Type 0} where
  pub kept_none : (P : E → Type 0) (p : E → Bool) → ((x : E) → P x → p x ≡ false) → (xs : List E) → Every P xs → filter p xs ≡ []
  kept_none P p f [] a = refl
  kept_none P p f (x ∷ xs) a = rw (f x a.0) (kept_none P p f xs a.1)

  -- what holds of every element holds of the one at a place
  pub all_at : (P : E → Type 0) (i : ℕ) (x : E) (xs : List E) → Every P xs → position i xs ≡ Some x → P x
  all_at P i x xs a e = subst P (get_or_from_slice_get xs i x x e) (All-get_or P xs i x (slice_get_within xs i x e) a)
