-- What the laws of the order say of two keys, and of the key under which find answers.
use Rattle.std.proofs.Common.{◌≡◌, ℕ, zero, suc, true, false, List, [], ◌∷◌, Some, None, refl, inl, inr, arith}
use Rattle.std.proofs.lemmas.Bool.{cases_Bool}
use Rattle.kinds.specs.Kinds.{Ops, Laws}
use Rattle.book.specs.Lists.{Every, position, same_key, has_key, find}
use Rattle.std.proofs.ByRecursion.{All-weaker}

-- every key of xs is above k
abbrev pub Above : {E K S L : Type 0} → Ops E K S L → K → List E → Type 0
Above o k xs = Every (λ x. o.less k (o.key x) ≡ true) xs

module _ {E K S L : Type 0} (o : Ops E K S L) (laws : Laws o) where
  pub not_back : (a b : K) → o.less a b ≡ true → o.less b a ≡ false
  not_back a b h = let no = laws.order.irreflexive a in let t = laws.order.transitive a b a h in grind arith

  pub same_only : (a b : K) → same_key o a b ≡ true → a ≡ b
  same_only a b e = let t = laws.order.total a b in grind arith

  pub same_itself : (k : K) → same_key o k k ≡ true
  same_itself k = rw (laws.order.irreflexive k)

  -- a is less than b, and b is not above c
  pub less_through : (a b c : K) → o.less a b ≡ true → o.less c b ≡ false → o.less a c ≡ true
  less_through a b c l n = let t = laws.order.transitive a b c l in let s = laws.order.total b c in grind arith

  pub all_above : (a b : K) (xs : List E) → o.less a b ≡ true → Above o b xs → Above o a xs
  all_above a b xs h = All-weaker (λ x. o.less b (o.key x) ≡ true) (λ x. o.less a (o.key x) ≡ true) (λ x. laws.order.transitive a b (o.key x) h) xs

  -- what find answers stands in the list, and has the key
  pub found_at : (k : K) (x : E) (xs : List E) → find o k xs ≡ Some x → (i : ℕ) × (position i xs ≡ Some x) × (o.key x ≡ k)
  found_at k x [] e = absurd (grind arith)
  found_at k x (y ∷ ys) e =
      elim (cases_Bool (has_key o k y)) [
        | inl s ↦
            let is : y ≡ x = grind arith in
            let same = same_only (o.key y) k s in
            (zero, cc, cc)
        | inr n ↦
            let r = found_at k x ys (grind arith) in
            (suc r.0, r.1, r.2)
      ]

  -- no entry is found under a key below all keys
  pub find_above : (k : K) (xs : List E) → Above o k xs → find o k xs ≡ None
  find_above k [] a = refl
  find_above k (x ∷ xs) a = let i = find_above k xs a.1 in let l = a.0 in grind arith
