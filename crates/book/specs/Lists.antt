-- The operations of an ordered map, on the list of its entries with rising keys.
use Rattle.std.specs.Prelude.{◌≡◌, ℕ, Bool, true, false, cond, not, ◌&&◌, List, [], ◌∷◌, length, take, drop, is_some, Some, None, Option, slice_get}
use Rattle.std.specs.Cmp.Lexicographic.{pointwise}
use Rattle.std.specs.List.{filter, fold, find as first_where}
-- every element has P
pub use Rattle.std.specs.List.{AllByRecursion as Every}
use Rattle.kinds.specs.Kinds.{Ops}

-- the entry at a place, counted from 0
abbrev pub position : {E : Type 0} → ℕ → List E → Option E
position i xs = slice_get xs i

-- the entries from a place on, as many as there are and as there is room for
abbrev pub page : {E : Type 0} → ℕ → ℕ → List E → List E
page from room xs = take room (drop from xs)

module _ {E K S L : Type 0} (o : Ops E K S L) where
  -- each key is less than every later one
  abbrev pub Rising : List E → Type 0
  Rising [] = Unit {0}
  Rising (x ∷ xs) = Every (λ y. o.less (o.key x) (o.key y) ≡ true) xs × Rising xs

  -- two keys of which neither is less, which are one key by the laws of the order
  abbrev pub same_key : K → K → Bool
  same_key a b = not (o.less a b) && not (o.less b a)

  abbrev pub has_key : K → E → Bool
  has_key k x = same_key (o.key x) k

  -- low and high are included
  abbrev pub within : K → K → K → Bool
  within low high k = not (o.less k low) && not (o.less high k)

  abbrev pub passing : L → E → Bool
  passing l x = o.passes (o.measure x) l

  abbrev pub find : K → List E → Option E
  find k xs = first_where (has_key k) xs

  -- the number of smaller keys
  abbrev pub rank : K → List E → ℕ
  rank k xs = length (filter (λ x. o.less (o.key x) k) xs)

  abbrev pub put : E → List E → List E
  put e [] = e ∷ []
  put e (x ∷ xs) = cond (o.less (o.key e) (o.key x)) (e ∷ x ∷ xs) (cond (o.less (o.key x) (o.key e)) (x ∷ put e xs) (e ∷ xs))

  -- entries in any order put into ys one after the other
  abbrev pub put_all : List E → List E → List E
  put_all [] ys = ys
  put_all (e ∷ es) ys = put_all es (put e ys)

  abbrev pub build : List E → List E
  build es = put_all es []

  abbrev pub remove : K → List E → List E
  remove k xs = filter (λ x. not (has_key k x)) xs

  abbrev pub window : K → K → List E → List E
  window low high xs = filter (λ x. within low high (o.key x)) xs

  abbrev pub sift : L → List E → List E
  sift l xs = filter (passing l) xs

  abbrev pub without : List E → List E → List E
  without xs ys = filter (λ x. not (is_some (find (o.key x) ys))) xs

  -- y as it goes into a map that has this entry, or none, under its key
  abbrev pub blended : Option E → E → E
  blended None y = y
  blended (Some x) y = o.blend x y

  abbrev pub merge : List E → List E → List E
  merge xs [] = xs
  merge xs (y ∷ ys) = merge (put (blended (find (o.key y) xs) y) xs) ys

  -- x blended with the entry that the second map has under its key, before the rest
  abbrev pub met : E → Option E → List E → List E
  met x None rest = rest
  met x (Some y) rest = o.blend x y ∷ rest

  abbrev pub common : List E → List E → List E
  common [] ys = []
  common (x ∷ xs) ys = met x (find (o.key x) ys) (common xs ys)

  -- the sum s with every measure of xs combined after it, in the order of the list
  abbrev pub summed : S → List E → S
  summed s xs = fold (λ s x. o.combine s (o.measure x)) s xs

  abbrev pub total : List E → S
  total xs = summed o.neutral xs

  -- the same, of the entries from a low to a high key alone
  abbrev pub summed_within : K → K → S → List E → S
  summed_within low high s [] = s
  summed_within low high s (x ∷ xs) = summed_within low high (cond (within low high (o.key x)) (o.combine s (o.measure x)) s) xs

  abbrev pub sum : K → K → List E → S
  sum low high xs = summed_within low high o.neutral xs

  -- whether two lists are the same, entry by entry
  abbrev pub equal : List E → List E → Bool
  equal xs ys = pointwise o.same xs ys

  -- what pick may answer: some entry that passes, or none where no entry does
  abbrev pub Picked : L → List E → Option E → Type 0
  Picked l xs (Some x) = (i : ℕ) × (position i xs ≡ Some x) × (passing l x ≡ true)
  Picked l xs None = Every (λ x. passing l x ≡ false) xs
