-- How the sums of parts combine.
use Rattle.std.proofs.Common.{◌≡◌, true, false, List, [], ◌∷◌, ◌++◌, sym, refl, ◌∙◌, arith}
use Rattle.kinds.specs.Kinds.{Ops, Laws}
use Rattle.book.specs.Lists.{Rising, within, window, summed, total, summed_within, sum}
use Rattle.book.specs.Keyed.{NoneBetween, Sums}
use Rattle.book.proofs.Kept.{kept_none}
use Rattle.book.proofs.Orders.{Above, less_through, all_above}

module _ {E K S L : Type 0} (o : Ops E K S L) (laws : Laws o) where
  summed-window : (low high : K) (s : S) (xs : List E) → summed_within o low high s xs ≡ summed o s (window o low high xs)
  summed-window low high s [] = refl
  summed-window low high s (x ∷ xs) =
      let i = summed-window low high s xs in
      let j = summed-window low high (o.combine s (o.measure x)) xs in
      grind arith

  summed_fits : (s : S) (xs : List E) → o.fits s ≡ true → o.fits (summed o s xs) ≡ true
  summed_fits s [] f = f
  summed_fits s (x ∷ xs) f = summed_fits (o.combine s (o.measure x)) xs (laws.monoid.combine_fits s (o.measure x) f (laws.measure_fits x))

  -- a sum that went before is combined with the total
  summed-total : (s : S) (xs : List E) → o.fits s ≡ true → summed o s xs ≡ o.combine s (total o xs)
  summed-total s [] f = sym (laws.monoid.neutral_right s f)
  summed-total s (x ∷ xs) f =
      let m = laws.measure_fits x in
      let i = summed-total (o.combine s (o.measure x)) xs (laws.monoid.combine_fits s (o.measure x) f m) in
      let j = summed-total (o.measure x) xs m in
      let n = laws.monoid.neutral_left (o.measure x) m in
      let a = laws.monoid.assoc s (o.measure x) (total o xs) in
      cc

  summed-append : (s : S) (xs ys : List E) → summed o s (xs ++ ys) ≡ summed o (summed o s xs) ys
  summed-append s [] ys = refl
  summed-append s (x ∷ xs) ys = summed-append (o.combine s (o.measure x)) xs ys

  of_parts : (xs ys : List E) → total o (xs ++ ys) ≡ o.combine (total o xs) (total o ys)
  of_parts xs ys = summed-append o.neutral xs ys ∙ summed-total (total o xs) ys (summed_fits o.neutral xs laws.monoid.neutral_fits)

  window_above : (low a : K) (xs : List E) → Above o a xs → window o low a xs ≡ []
  window_above low a xs = kept_none (λ x. o.less a (o.key x) ≡ true) (λ x. within o low a (o.key x)) (λ x l. grind arith) xs

  module _ (low a b high : K) (rise : o.less a b ≡ true) (from : o.less a low ≡ false) (to : o.less high b ≡ false) where
    -- a key up to a is in the whole window where it is in the first part, and is not in the second
    in_first : (k : K) → o.less a k ≡ false → (within o low high k ≡ within o low a k) × (within o b high k ≡ false)
    in_first k n =
        let under = less_through o laws a b k rise in
        let over = λ (h : o.less high k ≡ true). laws.order.transitive high a b (less_through o laws high k a h n) rise in
        (grind arith, grind arith)

    -- the entries of the window are those of its two parts, in this order
    window_parts : (xs : List E) → Rising o xs → NoneBetween o a b xs → window o low high xs ≡ window o low a xs ++ window o b high xs
    window_parts [] r n = refl
    window_parts (x ∷ xs) r n =
        let i = window_parts xs r.1 n.1 in
        let first = in_first (o.key x) in
        let second = laws.order.transitive a (o.key x) low in
        let past = λ (l : o.less a (o.key x) ≡ true). window_above low a xs (all_above o laws a (o.key x) xs l r.0) in
        let none = n.0 in
        grind arith

    adjoining : (xs : List E) → Rising o xs → NoneBetween o a b xs → o.combine (sum o low a xs) (sum o b high xs) ≡ sum o low high xs
    adjoining xs r n =
        let first = summed-window low a o.neutral xs in
        let second = summed-window b high o.neutral xs in
        let whole = summed-window low high o.neutral xs in
        let parts = of_parts (window o low a xs) (window o b high xs) in
        let w = window_parts xs r n in
        cc

  pub sums : Sums o
  sums = record {
    of_window = λ low high. summed-window low high o.neutral;
    of_parts = of_parts;
    adjoining = λ low a b high xs r rise from to. adjoining low a b high rise from to xs r;
    fits = λ low high xs. rw (summed-window low high o.neutral xs) (summed_fits o.neutral (window o low high xs) laws.monoid.neutral_fits);
  }
