-- The list book: its state, how a call moves it, and which answers are right.
use Rattle.std.specs.Prelude.{◌≡◌, ℕ, zero, suc, ◌+◌, ◌≤◌, Bool, cond, ◌⊎◌, List, is_some, Some, None, Option, ◌==◌, nat_le, nat_lt}
use Rattle.kinds.specs.Kinds.{Ops}
use Rattle.book.specs.Lists.{Rising, Picked}
use Rattle.book.specs.Numbers.{largest, capped}
use Rattle.book.specs.Calls.{Call, entry, Answer, given, returned, says, refused, Plan, stop, store, strike, tell, choose, Reads, none, one, two, meant}
use Rattle.book.specs.declared.refusal.Refusal.{Refusal}
use Rattle.book.specs.declared.refusal.Refusal.TheVariants.{NotHeld, HoldsTaken, NumbersSpent, NoRoom}

-- how many maps may be held at once, the next number, and the list under each held number
pub record Book (E : Type 0) : Type 0 where
  pub holds : ℕ
  pub next : ℕ
  pub held : ℕ → Option (List E)

-- a book put into service
abbrev pub opened : {E : Type 0} → ℕ → ℕ → Book E
opened holds first = record { holds = holds; next = first; held = λ _. None }

-- how many of the numbers below n are held
abbrev pub held_below : {E : Type 0} → (ℕ → Option (List E)) → ℕ → ℕ
held_below held zero = 0
held_below held (suc n) = cond (is_some (held n)) 1 0 + held_below held n

-- the plan for the list that is held under a number, or refusal 2
abbrev pub under : {E S L : Type 0} → ℕ → Option (List E) → (List E → Plan E S L) → Plan E S L
under n None f = stop (NotHeld n)
under n (Some xs) f = f xs

abbrev pub read : {E S L : Type 0} → Book E → Reads E S L → Plan E S L
read b (none p) = p
read b (one n f) = under n (b.held n) f
read b (two n m f) = under n (b.held n) (λ xs. under m (b.held m) (f xs))

-- what a call comes to in a book: refusals 2 and 3 are looked at first
abbrev pub plan : {E K S L : Type 0} → Ops E K S L → Book E → Call E K L → Plan E S L
plan o b c = read b (meant o c)

-- refusals 4 and 5, which come next, of a call that would store a list
abbrev pub due : {E : Type 0} → Book E → Option Refusal
due b = cond (nat_le b.holds (held_below b.held b.next)) (Some HoldsTaken) (cond (nat_lt largest b.next) (Some NumbersSpent) None)

abbrev pub stored : {E : Type 0} → Book E → List E → Book E
stored b xs = record { holds = b.holds; next = b.next + 1; held = λ k. cond (k == b.next) (Some xs) (b.held k) }

abbrev pub struck : {E : Type 0} → Book E → ℕ → Book E
struck b n = record { holds = b.holds; next = b.next; held = λ k. cond (k == n) None (b.held k) }

-- the book after a call that would store a list: as it was where refusal 4 or 5 is due, or refusal 6 was told
abbrev pub made : {E : Type 0} → Book E → List E → Option Refusal → Bool → Book E
made b xs (Some r) six = b
made b xs None six = cond six b (stored b xs)

abbrev pub moved : {E S L : Type 0} → Book E → Plan E S L → Bool → Book E
moved b (stop r) six = b
moved b (store n xs) six = made b xs (due b) six
moved b (strike n) six = struck b n
moved b (tell r) six = b
moved b (choose l xs) six = b

-- the book after a call; it is told whether the call got refusal 6
abbrev pub step : {E K S L : Type 0} → Ops E K S L → Book E → Call E K L → Bool → Book E
step o b c six = moved b (plan o b c) six

-- the answer to a call that would store a list: the next number, or refusal 6 with the reserve
abbrev pub Made : {E S : Type 0} → Book E → ℕ → Option Refusal → Answer E S → Type 0
Made b reserve (Some r) a = a ≡ refused r
Made b reserve None a = (a ≡ given b.next) ⊎ ((used : ℕ) × (a ≡ refused (NoRoom used (capped reserve))))

-- which answers are right where a call comes to a plan
abbrev pub Right : {E K S L : Type 0} → Ops E K S L → Book E → Plan E S L → Answer E S → Type 0
Right o b (stop r) a = a ≡ refused r
Right o b (store reserve xs) a = Made b reserve (due b) a
Right o b (strike n) a = a ≡ returned
Right o b (tell r) a = a ≡ says r
Right {E} o b (choose l xs) a = (e : Option E) × (a ≡ says (entry e)) × Picked o l xs e

-- the next number is greater than every held one, and every held list has rising keys
pub record Orderly {E K S L : Type 0} (o : Ops E K S L) (b : Book E) : Type 0 where
  pub fresh : (k : ℕ) → b.next ≤ k → b.held k ≡ None
  pub rising : (k : ℕ) (xs : List E) → b.held k ≡ Some xs → Rising o xs
