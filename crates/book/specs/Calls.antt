-- The calls on a pool in service, and what each comes to once its lists are read.
use Rattle.std.specs.Prelude.{ℕ, Bool, cond, List, [], length, Option}
use Rattle.kinds.specs.Kinds.{Ops}
use Rattle.book.specs.Lists
use Rattle.book.specs.Numbers.{edit_reserve, window_reserve, pair_reserve, sift_reserve, build_reserve}
use Rattle.book.specs.declared.refusal.Refusal.{Refusal}
use Rattle.book.specs.declared.refusal.Refusal.TheVariants.{CrossedBounds}

-- the questions on one list that have one answer
pub data Ask (K : Type 0) : Type 0 where
  find : K → Ask K
  size : Ask K
  position : ℕ → Ask K
  rank : K → Ask K
  sum : K → K → Ask K
  page : ℕ → ℕ → Ask K

-- a call with its arguments: the numbers of the maps that it starts from come first
pub data Call (E K L : Type 0) : Type 0 where
  empty : Call E K L
  share : ℕ → Call E K L
  build : List E → Call E K L
  put : ℕ → E → Call E K L
  remove : ℕ → K → Call E K L
  window : ℕ → K → K → Call E K L
  merge : ℕ → ℕ → Call E K L
  common : ℕ → ℕ → Call E K L
  without : ℕ → ℕ → Call E K L
  sift : ℕ → L → Call E K L
  give_back : ℕ → Call E K L
  ask : ℕ → Ask K → Call E K L
  compare : ℕ → ℕ → Call E K L
  pick : ℕ → L → Call E K L

-- what a question is told; page, the entries that are copied
pub data Reply (E S : Type 0) : Type 0 where
  entry : Option E → Reply E S
  number : ℕ → Reply E S
  amount : S → Reply E S
  entries : List E → Reply E S
  alike : Bool → Reply E S

-- the answer to a call: a new map's number, that a map was given back, a reply, or a refusal
pub data Answer (E S : Type 0) : Type 0 where
  given : ℕ → Answer E S
  returned : Answer E S
  says : Reply E S → Answer E S
  refused : Refusal → Answer E S

-- what a call comes to once its lists are read: a refusal, a list to store with the reserve of the call,
-- a number to strike out, a reply, or some entry that passes a limit
pub data Plan (E S L : Type 0) : Type 0 where
  stop : Refusal → Plan E S L
  store : ℕ → List E → Plan E S L
  strike : ℕ → Plan E S L
  tell : Reply E S → Plan E S L
  choose : L → List E → Plan E S L

-- which lists a call reads, by their numbers, and what it makes of them
pub data Reads (E S L : Type 0) : Type 0 where
  none : Plan E S L → Reads E S L
  one : ℕ → (List E → Plan E S L) → Reads E S L
  two : ℕ → ℕ → (List E → List E → Plan E S L) → Reads E S L

module _ {E K S L : Type 0} (o : Ops E K S L) where
  -- refusal 3 where the high key is less than the low, else the plan
  abbrev pub bounded : K → K → Plan E S L → Plan E S L
  bounded low high p = cond (o.less high low) (stop CrossedBounds) p

  abbrev pub told : Ask K → List E → Plan E S L
  told (find k) xs = tell (entry (Lists.find o k xs))
  told size xs = tell (number (length xs))
  told (position i) xs = tell (entry (Lists.position i xs))
  told (rank k) xs = tell (number (Lists.rank o k xs))
  told (sum low high) xs = bounded low high (tell (amount (Lists.sum o low high xs)))
  told (page from room) xs = tell (entries (Lists.page from room xs))

  abbrev pub meant : Call E K L → Reads E S L
  meant empty = none (store 0 [])
  meant (share n) = one n (λ xs. store 0 xs)
  meant (build es) = none (store (build_reserve (length es)) (Lists.build o es))
  meant (put n e) = one n (λ xs. store (edit_reserve (length xs)) (Lists.put o e xs))
  meant (remove n k) = one n (λ xs. store (edit_reserve (length xs)) (Lists.remove o k xs))
  meant (window n low high) = one n (λ xs. bounded low high (store (window_reserve (length xs)) (Lists.window o low high xs)))
  meant (merge n m) = two n m (λ xs ys. store (pair_reserve (length xs) (length ys)) (Lists.merge o xs ys))
  meant (common n m) = two n m (λ xs ys. store (pair_reserve (length xs) (length ys)) (Lists.common o xs ys))
  meant (without n m) = two n m (λ xs ys. store (pair_reserve (length xs) (length ys)) (Lists.without o xs ys))
  meant (sift n l) = one n (λ xs. store (sift_reserve (length xs)) (Lists.sift o l xs))
  meant (give_back n) = one n (λ xs. strike n)
  meant (ask n q) = one n (told q)
  meant (compare n m) = two n m (λ xs ys. tell (alike (Lists.equal o xs ys)))
  meant (pick n l) = one n (λ xs. choose l xs)
