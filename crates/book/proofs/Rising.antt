-- That every operation gives rising keys.
use Rattle.std.proofs.Common.{◌≡◌, Bool, true, cond, not, List, [], ◌∷◌, is_some, Some, None, Option, sym, refl, subst}
use Rattle.std.proofs.lemmas.Bool.{cond_both}
use Rattle.kinds.specs.Kinds.{Ops, Laws}
use Rattle.std.specs.List.{filter}
use Rattle.book.specs.Lists.{Every, Rising, has_key, within, passing, find, put, put_all, blended, merge, met, common}
use Rattle.book.specs.Keyed.{KeepsRising}
use Rattle.std.proofs.ByRecursion.{all_kept_by}
use Rattle.book.proofs.Orders.{Above, all_above, found_at}

module _ {E K S L : Type 0} (o : Ops E K S L) (laws : Laws o) where
  -- the three ways of put at a first entry
  put_ways : (P : List E → Type 0) (e x : E) (xs : List E) → (o.less (o.key e) (o.key x) ≡ true → P (e ∷ x ∷ xs)) →
      (o.less (o.key x) (o.key e) ≡ true → P (x ∷ put o e xs)) → (o.key x ≡ o.key e → P (e ∷ xs)) → P (put o e (x ∷ xs))
  put_ways P e x xs before after here =
      cond_both (o.less (o.key e) (o.key x)) (e ∷ x ∷ xs) (cond (o.less (o.key x) (o.key e)) (x ∷ put o e xs) (e ∷ xs)) P before
      (λ n. cond_both (o.less (o.key x) (o.key e)) (x ∷ put o e xs) (e ∷ xs) P after (λ m. here (laws.order.total (o.key x) (o.key e) m n)))

  all_put : (P : E → Type 0) (e : E) (xs : List E) → P e → Every P xs → Every P (put o e xs)
  all_put P e [] p a = (p, tt)
  all_put P e (x ∷ xs) p a = put_ways (Every P) e x xs (λ l. (p, a)) (λ l. (a.0, all_put P e xs p a.1)) (λ s. (p, a.1))

  pub rising_put : (e : E) (xs : List E) → Rising o xs → Rising o (put o e xs)
  rising_put e [] r = (tt, tt)
  rising_put e (x ∷ xs) r =
      put_ways (Rising o) e x xs
      (λ l. ((l, all_above o laws (o.key e) (o.key x) xs l r.0), r))
      (λ l. (all_put (λ y. o.less (o.key x) (o.key y) ≡ true) e xs l r.0, rising_put e xs r.1))
      (λ s. (subst (λ (k : K). Above o k xs) s r.0, r.1))

  rising_build : (es ys : List E) → Rising o ys → Rising o (put_all o es ys)
  rising_build [] ys r = r
  rising_build (e ∷ es) ys r = rising_build es (put o e ys) (rising_put e ys r)

  rising_kept : (p : E → Bool) (xs : List E) → Rising o xs → Rising o (filter p xs)
  rising_kept p [] r = tt
  rising_kept p (x ∷ xs) r =
      let i = rising_kept p xs r.1 in
      cond_both (p x) (x ∷ filter p xs) (filter p xs) (Rising o) (λ e. (all_kept_by p (λ y. o.less (o.key x) (o.key y) ≡ true) xs r.0, i)) (λ e. i)

  rising_merge : (xs ys : List E) → Rising o xs → Rising o (merge o xs ys)
  rising_merge xs [] r = r
  rising_merge xs (y ∷ ys) r = let b = blended o (find o (o.key y) xs) y in rising_merge (put o b xs) ys (rising_put b xs r)

  -- an entry blended with the one found under its key keeps its key
  pub met_key : (x y : E) (ys : List E) → find o (o.key x) ys ≡ Some y → o.key (o.blend x y) ≡ o.key x
  met_key x y ys e = laws.blend_key x y (sym (found_at o laws (o.key x) y ys e).2)

  -- the two ways of common at a first entry
  met_ways : (P : List E → Type 0) (x : E) (ys rest : List E) → P rest → ((e : E) → o.key e ≡ o.key x → P (e ∷ rest)) → P (met o x (find o (o.key x) ys) rest)
  met_ways P x ys rest left_out taken_in = go (find o (o.key x) ys) refl
    where
      go : (r : Option E) → find o (o.key x) ys ≡ r → P (met o x r rest)
      go None e = left_out
      go (Some y) e = taken_in (o.blend x y) (met_key x y ys e)

  all_common : (P : K → Type 0) (xs ys : List E) → Every (λ x. P (o.key x)) xs → Every (λ x. P (o.key x)) (common o xs ys)
  all_common P [] ys a = tt
  all_common P (x ∷ xs) ys a =
      let i = all_common P xs ys a.1 in
      met_ways (Every (λ x. P (o.key x))) x ys (common o xs ys) i (λ e s. (subst P (sym s) a.0, i))

  rising_common : (xs ys : List E) → Rising o xs → Rising o (common o xs ys)
  rising_common [] ys r = tt
  rising_common (x ∷ xs) ys r =
      let i = rising_common xs ys r.1 in
      let above = all_common (λ k. o.less (o.key x) k ≡ true) xs ys r.0 in
      met_ways (Rising o) x ys (common o xs ys) i (λ e s. (subst (λ (k : K). Above o k (common o xs ys)) (sym s) above, i))

  pub keeps_rising : KeepsRising o
  keeps_rising = record {
    put = rising_put;
    build = λ es. rising_build es [] tt;
    remove = λ k. rising_kept (λ x. not (has_key o k x));
    window = λ low high. rising_kept (λ x. within o low high (o.key x));
    sift = λ l. rising_kept (passing o l);
    merge = rising_merge;
    common = rising_common;
    without = λ xs ys. rising_kept (λ x. not (is_some (find o (o.key x) ys))) xs;
  }
