-- The place of a key among rising keys: std's `partition_point` finds it, and an entry is put there.
use Rattle.std.proofs.Common.{◌≡◌, ℕ, zero, suc, ◌<◌, ◌≤◌, Bool, true, false, cond, List, [], ◌∷◌, length, get_or, set, is_some, Some, None, sym, refl, ap, subst, inl, inr, arith}
use Rattle.std.proofs.lemmas.Bool.{cases_Bool, cases_eq}
use Rattle.std.specs.List.{insert}
use Rattle.std.specs.List.Sorted.{IsPartitionedBy, IsPartitionPoint}
use Rattle.std.proofs.ByRecursion.{All-get_or}
use Rattle.kinds.specs.Kinds.{Ops, Laws}
use Rattle.std.specs.List.{filter}
use Rattle.book.specs.Lists.{Rising, find, rank, put}
use Rattle.book.specs.Sorted.{StandsAt, GoesTo}
use Rattle.book.proofs.Kept.{kept_none}
use Rattle.book.proofs.Orders.{Above, not_back, all_above, find_above}
use Rattle.book.proofs.Rising.{rising_put}

module _ {E K S L : Type 0} (o : Ops E K S L) where
  rises_at : (xs : List E) → Rising o xs → (i j : ℕ) (d e : E) → i < j → j < length xs → o.less (o.key (get_or xs i d)) (o.key (get_or xs j e)) ≡ true
  rises_at [] r i j d e h l = absurd (omega arith)
  rises_at (x ∷ xs) r i zero d e h l = absurd (omega arith)
  rises_at (x ∷ xs) r zero (suc j) d e h l = All-get_or (λ y. o.less (o.key x) (o.key y) ≡ true) xs j e (omega arith) r.0
  rises_at (x ∷ xs) r (suc i) (suc j) d e h l = rises_at xs r.1 i j d e (omega arith) (omega arith)

  abbrev pub smaller : K → E → Bool
  smaller k x = o.less (o.key x) k

  kept_cons : (p : E → Bool) (b : Bool) (x : E) (xs : List E) → p x ≡ b → length (filter p (x ∷ xs)) ≡ cond b (suc (length (filter p xs))) (length (filter p xs))
  kept_cons p true x xs e = rw e
  kept_cons p false x xs e = rw e

  rank_le : (k : K) (xs : List E) → rank o k xs ≤ length xs
  rank_le k [] = omega arith
  rank_le k (x ∷ xs) =
      elim (cases_Bool (smaller k x)) [
        | inl e ↦ omega (arith, kept_cons (smaller k) true x xs e, rank_le k xs)
        | inr e ↦ omega (arith, kept_cons (smaller k) false x xs e, rank_le k xs)
      ]

  -- the place between the smaller keys and the others is the rank
  pub ranked : (k : K) (xs : List E) (place : ℕ) → place ≤ length xs → IsPartitionPoint (λ x. smaller k x ≡ true) (λ x. smaller k x ≡ false) xs place → place ≡ rank o k xs
  ranked k [] place inside parts = omega arith
  ranked k (x ∷ xs) zero inside parts =
      let rest = ranked k xs 0 (omega arith) (λ i d low high. absurd (omega arith), λ i d low high. parts.1 (suc i) d (omega arith) (omega arith)) in
      omega (arith, kept_cons (smaller k) false x xs (parts.1 0 x (omega arith) (omega arith)))
  ranked k (x ∷ xs) (suc place) inside parts =
      let rest = ranked k xs place (omega arith) (λ i d low high. parts.0 (suc i) d (omega arith) (omega arith), λ i d low high. parts.1 (suc i) d (omega arith) (omega arith)) in
      omega (arith, kept_cons (smaller k) true x xs (parts.0 0 x (omega arith) (omega arith)))

  module _ (laws : Laws o) (k : K) where
    -- an entry that is not before k has nothing before k after it
    none_smaller : (x : E) (xs : List E) → Above o (o.key x) xs → smaller k x ≡ false → rank o k (x ∷ xs) ≡ 0
    none_smaller x xs a n =
        let later = λ (y : E). laws.order.transitive (o.key x) (o.key y) k in
        let none = kept_none (λ y. o.less (o.key x) (o.key y) ≡ true) (smaller k) (λ y up. let t = later y up in grind arith) xs a in
        omega (arith, kept_cons (smaller k) false x xs n, ap length none)

    -- a first entry is before k exactly where the place of k is not the first
    first_not : (y : E) (ys : List E) → 0 ≡ rank o k (y ∷ ys) → smaller k y ≡ false
    first_not y ys is =
        elim (cases_Bool (smaller k y)) [ inl less ↦ absurd (omega (arith, kept_cons (smaller k) true y ys less)) | inr not_less ↦ not_less ]

    first_is : (y : E) (ys : List E) (r : ℕ) → Rising o (y ∷ ys) → suc r ≡ rank o k (y ∷ ys) → (smaller k y ≡ true) × (r ≡ rank o k ys)
    first_is y ys r rising is =
        elim (cases_Bool (smaller k y)) [
          | inl less ↦ (less, omega (arith, kept_cons (smaller k) true y ys less))
          | inr not_less ↦ absurd (omega (arith, none_smaller y ys rising.0 not_less))
        ]

    replaces : (xs : List E) → Rising o xs → (r : ℕ) → r ≡ rank o k xs → (x : E) → r < length xs → x ≡ get_or xs r x → o.less k (o.key x) ≡ false →
        (find o k xs ≡ Some x) × ((e : E) → o.key e ≡ k → set xs r e ≡ put o e xs)
    replaces [] rising r is x h at n = absurd (omega arith)
    replaces (y ∷ ys) rising zero is x h at n =
        let first = first_not y ys is in
        let before : o.less k (o.key y) ≡ false = subst (λ z. o.less k (o.key z) ≡ false) at n in
        (grind arith, λ e same. grind arith)
    replaces (y ∷ ys) rising (suc r) is x h at n =
        let first = first_is y ys r rising is in
        let rest = replaces ys rising.1 r first.1 x (omega arith) at n in
        let back = not_back o laws (o.key y) k first.0 in
        (grind arith, λ e same. let later = rest.1 e same in grind arith)

    adds : (xs : List E) → Rising o xs → (r : ℕ) → r ≡ rank o k xs → ((d : E) → r < length xs → o.less k (o.key (get_or xs r d)) ≡ true) →
        (find o k xs ≡ None) × ((e : E) → o.key e ≡ k → insert xs r e ≡ put o e xs)
    adds [] rising r is before = (refl, λ e same. ap (λ n. insert [] n e) is)
    adds (y ∷ ys) rising zero is before =
        let first = first_not y ys is in
        let less = before y (omega arith) in
        let none = find_above o laws k ys (all_above o laws k (o.key y) ys less rising.0) in
        (grind arith, λ e same. grind arith)
    adds (y ∷ ys) rising (suc r) is before =
        let first = first_is y ys r rising is in
        let rest = adds ys rising.1 r first.1 (λ d h. before d (omega arith)) in
        let back = not_back o laws (o.key y) k first.0 in
        (grind arith, λ e same. let later = rest.1 e same in grind arith)

    module _ (xs : List E) (rising : Rising o xs) (r : ℕ) (is : r ≡ rank o k xs) where
      pub stands_at : (x : E) → r < length xs → x ≡ get_or xs r x → o.less k (o.key x) ≡ false → StandsAt o k xs r
      stands_at x inside at n =
          let found = replaces xs rising r is x inside at n in
          record {
            inside = inside;
            there = ap is_some found.0;
            puts = found.1;
            rises = λ e same. subst (Rising o) (sym (found.1 e same)) (rising_put o laws e xs rising);
          }

      pub goes_to : ((d : E) → r < length xs → o.less k (o.key (get_or xs r d)) ≡ true) → GoesTo o k xs r
      goes_to before =
          let missing = adds xs rising r is before in
          record {
            inside = omega (arith, rank_le k xs);
            absent = ap is_some missing.0;
            puts = missing.1;
            rises = λ e same. subst (Rising o) (sym (missing.1 e same)) (rising_put o laws e xs rising);
          }

-- what std's partition by the smaller keys answers, of entries whose keys rise
module _ {E K S L : Type 0} (o : Ops E K S L) (laws : Laws o) (k : K) (xs : List E) (rising : Rising o xs) where
  -- the smaller keys come first
  pub partitioned : IsPartitionedBy (smaller o k) xs
  partitioned i j d h l less =
      elim (cases_eq i j) [
        | inl e ↦ subst (λ n. smaller o k (get_or xs n d) ≡ true) (sym e) less
        | inr ne ↦ laws.order.transitive (o.key (get_or xs i d)) (o.key (get_or xs j d)) k (rises_at o xs rising i j d d (omega arith) l) less
      ]
