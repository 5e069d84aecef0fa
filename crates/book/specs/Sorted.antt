-- Where a key stands in a list with rising keys, or would stand.
use Rattle.std.specs.Prelude.{◌≡◌, ℕ, ◌<◌, ◌≤◌, true, false, List, length, is_some, slice_set}
use Rattle.kinds.specs.Kinds.{Ops}
use Rattle.std.specs.List.{insert}
use Rattle.book.specs.Lists.{Rising, find, put}

module _ {E K S L : Type 0} (o : Ops E K S L) (k : K) (xs : List E) (i : ℕ) where
  -- the entry at place i has the key: to put another there is to replace it
  pub record StandsAt : Type 0 where
    pub inside : i < length xs
    pub there : is_some (find o k xs) ≡ true
    pub puts : (e : E) → o.key e ≡ k → slice_set xs i e ≡ put o e xs
    pub rises : (e : E) → o.key e ≡ k → Rising o (slice_set xs i e)

  -- no entry has the key: to put one is to insert it at place i
  pub record GoesTo : Type 0 where
    pub inside : i ≤ length xs
    pub absent : is_some (find o k xs) ≡ false
    pub puts : (e : E) → o.key e ≡ k → insert xs i e ≡ put o e xs
    pub rises : (e : E) → o.key e ≡ k → Rising o (insert xs i e)
