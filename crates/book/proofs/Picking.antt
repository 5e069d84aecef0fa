-- What pick may answer, against what sift keeps.
use Rattle.std.proofs.Common.{◌≡◌, zero, suc, Bool, false, List, [], ◌∷◌, Some, None, Option, refl, inl, inr, arith}
use Rattle.std.proofs.lemmas.Bool.{cases_Bool, both_ways}
use Rattle.kinds.specs.Kinds.{Ops, Laws}
use Rattle.std.specs.List.{filter}
use Rattle.book.specs.Lists.{Every, Rising, passing, find, sift, Picked}
use Rattle.book.specs.Keyed.{Picks}
use Rattle.book.proofs.Kept.{kept_none, all_at}
use Rattle.book.proofs.Finding.{find-passing}
use Rattle.book.proofs.Places.{ranked_there}

-- a test that keeps nothing fails at every element
none_kept : {E : Type 0} (p : E → Bool) (xs : List E) → filter p xs ≡ [] → Every (λ x. p x ≡ false) xs
none_kept p [] e = tt
none_kept p (x ∷ xs) e = (grind arith, none_kept p xs (grind arith))

module _ {E K S L : Type 0} (o : Ops E K S L) (laws : Laws o) where
  found : (l : L) (xs : List E) (x : E) → Rising o xs → Picked o l xs (Some x) → find o (o.key x) (sift o l xs) ≡ Some x
  found l xs x r (i, at, passes) =
      let h = (ranked_there o laws i x xs r at).1 in
      let f = find-passing o laws (passing o l) (o.key x) xs r in
      grind arith

  none_where : (l : L) (xs : List E) (r : Option E) → Picked o l xs r → sift o l xs ≡ [] → r ≡ None
  none_where l xs None p e = refl
  none_where l xs (Some x) (i, at, passes) e =
      absurd (both_ways (passing o l x) (all_at (λ y. passing o l y ≡ false) i x xs (none_kept (passing o l) xs e) at) passes)

  some_answer : (l : L) (xs : List E) → (r : Option E) × Picked o l xs r
  some_answer l [] = (None, tt)
  some_answer l (x ∷ xs) =
      elim (cases_Bool (passing o l x)) [ inl e ↦ (Some x, (zero, refl, e)) | inr e ↦ later e (some_answer l xs).0 (some_answer l xs).1 ]
    where
      later : passing o l x ≡ false → (r : Option E) → Picked o l xs r → (r : Option E) × Picked o l (x ∷ xs) r
      later e None p = (None, (e, p))
      later e (Some y) (i, at, passes) = (Some y, (suc i, at, passes))

  pub picks : Picks o
  picks = record {
    found = found;
    none_then = λ l. kept_none (λ x. passing o l x ≡ false) (passing o l) (λ x e. e);
    none_where = none_where;
    some_answer = some_answer;
  }
