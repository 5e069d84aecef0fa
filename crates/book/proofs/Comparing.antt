-- That `equal` says true of equal lists, and of no others.
use Rattle.std.proofs.Common.{◌≡◌, true, List, [], ◌∷◌, refl}
use Rattle.std.proofs.lemmas.Bool.{false≢true, and_parts, and_from}
use Rattle.kinds.specs.Kinds.{Ops, Laws}
use Rattle.book.specs.Lists.{equal}
use Rattle.book.specs.Keyed.{Compares}

module _ {E K S L : Type 0} (o : Ops E K S L) (laws : Laws o) where
  only_equal : (xs ys : List E) → equal o xs ys ≡ true → xs ≡ ys
  only_equal [] [] e = refl
  only_equal [] (y ∷ ys) e = absurd (false≢true e)
  only_equal (x ∷ xs) [] e = absurd (false≢true e)
  only_equal (x ∷ xs) (y ∷ ys) e =
      let p = and_parts (o.same x y) (equal o xs ys) e in
      let h = laws.equality.only_equal x y p.0 in
      let t = only_equal xs ys p.1 in
      cc

  itself : (xs : List E) → equal o xs xs ≡ true
  itself [] = refl
  itself (x ∷ xs) = and_from (o.same x x) (equal o xs xs) (laws.equality.itself x) (itself xs)

  pub compares : Compares o
  compares = record { only_equal = only_equal; itself = itself }
