-- What every operation does, told key by key and place by place, of lists with rising keys.
use Rattle.std.specs.Prelude.{◌≡◌, ℕ, ◌+◌, Bool, true, false, cond, ◌&&◌, List, [], ◌∷◌, ◌++◌, length, is_some, Some, None, Option, nat_lt}
use Rattle.std.specs.Option.{option_or}
use Rattle.kinds.specs.Kinds.{Ops}
use Rattle.book.specs.Lists.{Every, position, page, Rising, same_key, has_key, within, passing, find, rank, put, build, remove, window, sift, without, merge, common, total, sum, equal, Picked}

-- x, unless it fails the test
abbrev pub if_so : {E : Type 0} → (E → Bool) → Option E → Option E
if_so p None = None
if_so p (Some x) = cond (p x) (Some x) None

module _ {E K S L : Type 0} (o : Ops E K S L) where
  -- the last of the entries with a key
  abbrev pub latest : K → List E → Option E
  latest k [] = None
  latest k (e ∷ es) = option_or (latest k es) (cond (has_key o k e) (Some e) None)

  -- blend where both are there; then the one that is there
  abbrev pub either_of : Option E → Option E → Option E
  either_of None b = b
  either_of (Some x) None = Some x
  either_of (Some x) (Some y) = Some (o.blend x y)

  -- blend where both are there, else none
  abbrev pub both_of : Option E → Option E → Option E
  both_of None b = None
  both_of (Some x) None = None
  both_of (Some x) (Some y) = Some (o.blend x y)

  -- every operation gives rising keys
  pub record KeepsRising : Type 0 where
    pub put : (e : E) (xs : List E) → Rising o xs → Rising o (put o e xs)
    pub build : (es : List E) → Rising o (build o es)
    pub remove : (k : K) (xs : List E) → Rising o xs → Rising o (remove o k xs)
    pub window : (low high : K) (xs : List E) → Rising o xs → Rising o (window o low high xs)
    pub sift : (l : L) (xs : List E) → Rising o xs → Rising o (sift o l xs)
    pub merge : (xs ys : List E) → Rising o xs → Rising o (merge o xs ys)
    pub common : (xs ys : List E) → Rising o xs → Rising o (common o xs ys)
    pub without : (xs ys : List E) → Rising o xs → Rising o (without o xs ys)

  -- what find answers after an operation, from what it answers before
  pub record KeyByKey : Type 0 where
    pub put : (k : K) (e : E) (xs : List E) → find o k (put o e xs) ≡ cond (has_key o k e) (Some e) (find o k xs)
    pub build : (k : K) (es : List E) → find o k (build o es) ≡ latest k es
    pub remove : (k j : K) (xs : List E) → find o k (remove o j xs) ≡ cond (same_key o j k) None (find o k xs)
    pub window : (k low high : K) (xs : List E) → find o k (window o low high xs) ≡ cond (within o low high k) (find o k xs) None
    pub sift : (k : K) (l : L) (xs : List E) → Rising o xs → find o k (sift o l xs) ≡ if_so (passing o l) (find o k xs)
    pub merge : (k : K) (xs ys : List E) → Rising o ys → find o k (merge o xs ys) ≡ either_of (find o k xs) (find o k ys)
    pub common : (k : K) (xs ys : List E) → find o k (common o xs ys) ≡ both_of (find o k xs) (find o k ys)
    pub without : (k : K) (xs ys : List E) → find o k (without o xs ys) ≡ cond (is_some (find o k ys)) None (find o k xs)
    -- and find tells all: two lists that answer alike at every key are one list
    pub tells_all : (xs ys : List E) → Rising o xs → Rising o ys → ((k : K) → find o k xs ≡ find o k ys) → xs ≡ ys

  -- find, position, rank, size and page
  pub record PlaceByPlace : Type 0 where
    pub found_there : (k : K) (x : E) (xs : List E) → Rising o xs → find o k xs ≡ Some x → (o.key x ≡ k) × (position (rank o k xs) xs ≡ Some x)
    pub ranked_there : (i : ℕ) (x : E) (xs : List E) → Rising o xs → position i xs ≡ Some x → (rank o (o.key x) xs ≡ i) × (find o (o.key x) xs ≡ Some x)
    pub places : (i : ℕ) (xs : List E) → is_some (position i xs) ≡ nat_lt i (length xs)
    pub paged : (i from room : ℕ) (xs : List E) → position i (page from room xs) ≡ cond (nat_lt i room) (position (from + i) xs) None

  -- no key of xs stands between a and b
  abbrev pub NoneBetween : K → K → List E → Type 0
  NoneBetween a b xs = Every (λ x. (o.less a (o.key x) && o.less (o.key x) b) ≡ false) xs

  pub record Sums : Type 0 where
    pub of_window : (low high : K) (xs : List E) → sum o low high xs ≡ total o (window o low high xs)
    pub of_parts : (xs ys : List E) → total o (xs ++ ys) ≡ o.combine (total o xs) (total o ys)
    -- from low to a, and from b on to high, where no key stands between a and b
    pub adjoining : (low a b high : K) (xs : List E) → Rising o xs → o.less a b ≡ true → o.less a low ≡ false → o.less high b ≡ false →
        NoneBetween a b xs → o.combine (sum o low a xs) (sum o b high xs) ≡ sum o low high xs
    pub fits : (low high : K) (xs : List E) → o.fits (sum o low high xs) ≡ true

  -- compare says equal of equal lists, and of no others
  pub record Compares : Type 0 where
    pub only_equal : (xs ys : List E) → equal o xs ys ≡ true → xs ≡ ys
    pub itself : (xs : List E) → equal o xs xs ≡ true

  -- what pick gives can be found, and it gives none exactly where sift keeps nothing
  pub record Picks : Type 0 where
    pub found : (l : L) (xs : List E) (x : E) → Rising o xs → Picked o l xs (Some x) → find o (o.key x) (sift o l xs) ≡ Some x
    pub none_then : (l : L) (xs : List E) → Picked o l xs None → sift o l xs ≡ []
    pub none_where : (l : L) (xs : List E) (r : Option E) → Picked o l xs r → sift o l xs ≡ [] → r ≡ None
    pub some_answer : (l : L) (xs : List E) → (r : Option E) × Picked o l xs r
