-- How find, position, rank, size and page go together.
use Rattle.std.proofs.Common.{◌≡◌, ℕ, zero, suc, ◌+◌, true, cond, ltb, List, [], ◌∷◌, length, take, drop, is_some, Some, None, refl, ap, subst, suc-add, zero-add, arith}
use Rattle.std.proofs.lemmas.Bool.Decides.{nat_tests}
use Rattle.kinds.specs.Kinds.{Ops, Laws}
use Rattle.book.specs.Lists.{position, Rising, find, rank}
use Rattle.book.specs.Keyed.{PlaceByPlace}
use Rattle.book.proofs.Kept.{kept_none, all_at}
use Rattle.book.proofs.Orders.{Above, not_back, found_at}

module _ {E : Type 0} where
  places : (i : ℕ) (xs : List E) → is_some (position i xs) ≡ ltb i (length xs)
  places i [] = grind (arith, nat_tests)
  places zero (x ∷ xs) = grind (arith, nat_tests)
  places (suc i) (x ∷ xs) = let h = places i xs in grind (arith, nat_tests)

  position-take : (i n : ℕ) (xs : List E) → position i (take n xs) ≡ cond (ltb i n) (position i xs) None
  position-take i zero xs = grind (arith, nat_tests)
  position-take i (suc n) [] = grind (arith, nat_tests)
  position-take zero (suc n) (x ∷ xs) = grind (arith, nat_tests)
  position-take (suc i) (suc n) (x ∷ xs) = let h = position-take i n xs in grind (arith, nat_tests)

  position-drop : (i n : ℕ) (xs : List E) → position i (drop n xs) ≡ position (n + i) xs
  position-drop i zero xs = rw (zero-add i)
  position-drop i (suc n) [] = refl
  position-drop i (suc n) (x ∷ xs) = rw (suc-add n i) (position-drop i n xs)

module _ {E K S L : Type 0} (o : Ops E K S L) (laws : Laws o) where
  rank_above : (k : K) (xs : List E) → Above o k xs → rank o k xs ≡ 0
  rank_above k xs a = ap length (kept_none (λ x. o.less k (o.key x) ≡ true) (λ x. o.less (o.key x) k) (λ x. not_back o laws k (o.key x)) xs a)

  pub ranked_there : (i : ℕ) (x : E) (xs : List E) → Rising o xs → position i xs ≡ Some x → (rank o (o.key x) xs ≡ i) × (find o (o.key x) xs ≡ Some x)
  ranked_there i x [] r e = absurd (grind arith)
  ranked_there zero x (y ∷ ys) r e =
      let is : y ≡ x = cc in
      let none = rank_above (o.key y) ys r.0 in
      let no = laws.order.irreflexive (o.key y) in
      (grind arith, grind arith)
  ranked_there (suc i) x (y ∷ ys) r e =
      let h = ranked_there i x ys r.1 e in
      let l = all_at (λ z. o.less (o.key y) (o.key z) ≡ true) i x ys r.0 e in
      (grind arith, grind arith)

  found_there : (k : K) (x : E) (xs : List E) → Rising o xs → find o k xs ≡ Some x → (o.key x ≡ k) × (position (rank o k xs) xs ≡ Some x)
  found_there k x xs r e =
      let at = found_at o laws k x xs e in
      let h = ranked_there at.0 x xs r at.1 in
      (at.2, subst (λ (j : K). position (rank o j xs) xs ≡ Some x) at.2 (rw h.0 at.1))

  pub place_by_place : PlaceByPlace o
  place_by_place = record {
    found_there = found_there;
    ranked_there = ranked_there;
    places = places;
    paged = λ i from room xs. let d = position-drop i from xs in let t = position-take i room (drop from xs) in cc;
  }
