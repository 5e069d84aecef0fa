-- What find answers after each operation.
use Rattle.std.proofs.Common.{◌≡◌, Bool, true, false, cond, not, List, [], ◌∷◌, is_some, Some, None, Option, sym, refl, ◌∙◌, subst, arith}
use Rattle.std.specs.Option.{option_or}
use Rattle.kinds.specs.Kinds.{Ops, Laws}
use Rattle.std.specs.List.{filter}
use Rattle.book.specs.Lists.{Rising, same_key, has_key, within, passing, find, put, put_all, blended, merge, common}
use Rattle.book.specs.Keyed.{if_so, latest, either_of, both_of, KeyByKey}
use Rattle.book.proofs.Orders.{Above, same_only, same_itself, all_above, found_at, find_above}
use Rattle.book.proofs.Rising.{met_key}

module _ {E K S L : Type 0} (o : Ops E K S L) (laws : Laws o) where
  -- the entries that a test on their keys keeps
  find-kept : (q : K → Bool) (k : K) (xs : List E) → find o k (filter (λ x. q (o.key x)) xs) ≡ cond (q k) (find o k xs) None
  find-kept q k [] = grind arith
  find-kept q k (x ∷ xs) = let i = find-kept q k xs in let s = same_only o laws (o.key x) k in grind arith

  -- no later entry has the key of the first
  find-after : (k : K) (x : E) (xs : List E) → Rising o (x ∷ xs) → has_key o k x ≡ true → find o k xs ≡ None
  find-after k x xs r s = find_above o laws k xs (subst (λ (j : K). Above o j xs) (same_only o laws (o.key x) k s) r.0)

  -- the entries that any test keeps
  pub find-passing : (p : E → Bool) (k : K) (xs : List E) → Rising o xs → find o k (filter p xs) ≡ if_so p (find o k xs)
  find-passing p k [] r = refl
  find-passing p k (x ∷ xs) r = let i = find-passing p k xs r.1 in let n = find-after k x xs r in grind arith

  find-put : (k : K) (e : E) (xs : List E) → find o k (put o e xs) ≡ cond (has_key o k e) (Some e) (find o k xs)
  find-put k e [] = refl
  find-put k e (x ∷ xs) =
      let i = find-put k e xs in
      let s = same_only o laws (o.key x) k in
      let t = same_only o laws (o.key e) k in
      let no = laws.order.irreflexive k in
      grind arith

  find-build : (k : K) (es ys : List E) → find o k (put_all o es ys) ≡ option_or (latest o k es) (find o k ys)
  find-build k [] ys = refl
  find-build k (e ∷ es) ys = let i = find-build k es (put o e ys) in let p = find-put k e ys in grind arith

  blended_key : (xs : List E) (y : E) → o.key (blended o (find o (o.key y) xs) y) ≡ o.key y
  blended_key xs y = go (find o (o.key y) xs) refl
    where
      go : (r : Option E) → find o (o.key y) xs ≡ r → o.key (blended o r y) ≡ o.key y
      go None e = refl
      go (Some x) e = let s = (found_at o laws (o.key y) x xs e).2 in laws.blend_key x y s ∙ s

  find-merge : (k : K) (xs ys : List E) → Rising o ys → find o k (merge o xs ys) ≡ either_of o (find o k xs) (find o k ys)
  find-merge k xs [] r = grind arith
  find-merge k xs (y ∷ ys) r =
      let b = blended o (find o (o.key y) xs) y in
      let i = find-merge k (put o b xs) ys r.1 in
      let p = find-put k b xs in
      let same = blended_key xs y in
      let s = same_only o laws (o.key y) k in
      let n = find-after k y ys r in
      grind arith

  find-common : (k : K) (xs ys : List E) → find o k (common o xs ys) ≡ both_of o (find o k xs) (find o k ys)
  find-common k [] ys = refl
  find-common k (x ∷ xs) ys =
      let i = find-common k xs ys in
      let s = same_only o laws (o.key x) k in
      let m = λ (y : E). met_key o laws x y ys in
      grind arith

  -- where find answers alike at the first key of one list, the other list's first key is not above it
  first_not_above : (x y : E) (xs ys : List E) → Rising o (y ∷ ys) → find o (o.key x) (x ∷ xs) ≡ find o (o.key x) (y ∷ ys) → o.less (o.key x) (o.key y) ≡ false
  first_not_above x y xs ys r e =
      let s = same_itself o laws (o.key x) in
      let n = λ (l : o.less (o.key x) (o.key y) ≡ true). find_above o laws (o.key x) (y ∷ ys) (l, all_above o laws (o.key x) (o.key y) ys l r.0) in
      grind arith

  tells_all : (xs ys : List E) → Rising o xs → Rising o ys → ((k : K) → find o k xs ≡ find o k ys) → xs ≡ ys
  tells_all [] [] r q f = refl
  tells_all [] (y ∷ ys) r q f = let e = f (o.key y) in let s = same_itself o laws (o.key y) in grind arith
  tells_all (x ∷ xs) [] r q f = let e = f (o.key x) in let s = same_itself o laws (o.key x) in grind arith
  tells_all (x ∷ xs) (y ∷ ys) r q f =
      let keys = laws.order.total (o.key x) (o.key y) (first_not_above x y xs ys q (f (o.key x))) (first_not_above y x ys xs r (sym (f (o.key y)))) in
      let e = f (o.key x) in
      let s = same_itself o laws (o.key x) in
      let first : x ≡ y = grind arith in
      let rest = tells_all xs ys r.1 q.1 (λ k. let h = f k in let m = find-after k x xs r in let n = find-after k y ys q in grind arith) in
      cc

  pub key_by_key : KeyByKey o
  key_by_key = record {
    put = find-put;
    build = λ k es. let i = find-build k es [] in grind arith;
    remove = λ k j xs. let i = find-kept (λ i. not (same_key o i j)) k xs in grind arith;
    window = λ k low high. find-kept (within o low high) k;
    sift = λ k l. find-passing (passing o l) k;
    merge = find-merge;
    common = find-common;
    without = λ k xs ys. let i = find-kept (λ j. not (is_some (find o j ys))) k xs in grind arith;
    tells_all = tells_all;
  }
