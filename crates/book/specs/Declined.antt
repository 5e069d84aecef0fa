-- Which refusal a call gets, by the table of refusals: the first that applies, in the order of their numbers.
use Rattle.std.specs.Prelude.{◌≡◌, ℕ, Bool, true, false, cond, List, [], ◌∷◌, Some, None, Option}
use Rattle.kinds.specs.Kinds.{Ops}
use Rattle.std.specs.Option.{option_or}
use Rattle.book.specs.Calls.{Ask, find, size, position, rank, sum, page, Call, empty, share, build, put, remove, window, merge, common, without, sift, give_back, ask, compare, pick, Answer, refused}
use Rattle.book.specs.Book.{Book, due, plan, step, Right}
use Rattle.book.specs.Run.{told_six}
use Rattle.book.specs.declared.refusal.Refusal.{Refusal}
use Rattle.book.specs.declared.refusal.Refusal.TheVariants.{NotHeld, CrossedBounds, NoRoom}

module _ {E K L : Type 0} where
  -- the numbers that a call names, in the order of its arguments
  abbrev pub numbers_of : Call E K L → List ℕ
  numbers_of empty = []
  numbers_of (share n) = n ∷ []
  numbers_of (build es) = []
  numbers_of (put n e) = n ∷ []
  numbers_of (remove n k) = n ∷ []
  numbers_of (window n low high) = n ∷ []
  numbers_of (merge n m) = n ∷ m ∷ []
  numbers_of (common n m) = n ∷ m ∷ []
  numbers_of (without n m) = n ∷ m ∷ []
  numbers_of (sift n l) = n ∷ []
  numbers_of (give_back n) = n ∷ []
  numbers_of (ask n q) = n ∷ []
  numbers_of (compare n m) = n ∷ m ∷ []
  numbers_of (pick n l) = n ∷ []

  -- whether it makes a map
  abbrev pub makes : Call E K L → Bool
  makes empty = true
  makes (share n) = true
  makes (build es) = true
  makes (put n e) = true
  makes (remove n k) = true
  makes (window n low high) = true
  makes (merge n m) = true
  makes (common n m) = true
  makes (without n m) = true
  makes (sift n l) = true
  makes (give_back n) = false
  makes (ask n q) = false
  makes (compare n m) = false
  makes (pick n l) = false

-- 2: a number is not held; the first such number
abbrev pub missing : {E : Type 0} → ℕ → Option (List E) → Option Refusal → Option Refusal
missing n None next = Some (NotHeld n)
missing n (Some xs) next = next

abbrev pub first_missing : {E : Type 0} → Book E → List ℕ → Option Refusal
first_missing b [] = None
first_missing b (n ∷ ns) = missing n (b.held n) (first_missing b ns)

module _ {E K S L : Type 0} (o : Ops E K S L) where
  -- 3: the high key is less than the low; for window and sum
  abbrev pub crossed : K → K → Option Refusal
  crossed low high = cond (o.less high low) (Some CrossedBounds) None

  abbrev pub crossed_ask : Ask K → Option Refusal
  crossed_ask (find k) = None
  crossed_ask size = None
  crossed_ask (position i) = None
  crossed_ask (rank k) = None
  crossed_ask (sum low high) = crossed low high
  crossed_ask (page from room) = None

  abbrev pub crossed_by : Call E K L → Option Refusal
  crossed_by empty = None
  crossed_by (share n) = None
  crossed_by (build es) = None
  crossed_by (put n e) = None
  crossed_by (remove n k) = None
  crossed_by (window n low high) = crossed low high
  crossed_by (merge n m) = None
  crossed_by (common n m) = None
  crossed_by (without n m) = None
  crossed_by (sift n l) = None
  crossed_by (give_back n) = None
  crossed_by (ask n q) = crossed_ask q
  crossed_by (compare n m) = None
  crossed_by (pick n l) = None

  -- 2, then 3, then 4 and 5 where the call makes a map
  abbrev pub first_reason : Book E → Call E K L → Option Refusal
  first_reason b c = option_or (first_missing b (numbers_of c)) (option_or (crossed_by c) (cond (makes c) (due b) None))

  -- a call gets the first reason that applies and no other; where none does, only a making call is declined, and only by 6
  pub record InOrder : Type 0 where
    pub declined_by : (b : Book E) (c : Call E K L) (r : Refusal) → first_reason b c ≡ Some r → (a : Answer E S) → Right o b (plan o b c) a → a ≡ refused r
    pub only_six : (b : Book E) (c : Call E K L) → first_reason b c ≡ None → (r : Refusal) → Right o b (plan o b c) (refused r) →
        (makes c ≡ true) × ((used reserve : ℕ) × (r ≡ NoRoom used reserve))
    pub unchanged : (b : Book E) (c : Call E K L) (r : Refusal) → Right o b (plan o b c) (refused r) → step o b c (told_six {E = E} {S = S} (refused r)) ≡ b
