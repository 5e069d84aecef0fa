-- The number of each refusal, and what it carries.
use Rattle.std.specs.Prelude.{ℕ, List, [], ◌∷◌, ◌++◌, codes, decimal}
use Rattle.kinds.specs.Refused.{place_of}
use Rattle.book.specs.declared.refusal.Refusal.{Refusal}
use Rattle.book.specs.declared.refusal.Refusal.TheVariants.{BadTables, NotHeld, CrossedBounds, HoldsTaken, NumbersSpent, NoRoom, NotALabel}

abbrev pub number_of : Refusal → ℕ
number_of BadTables = 1
number_of (NotHeld n) = 2
number_of CrossedBounds = 3
number_of HoldsTaken = 4
number_of NumbersSpent = 5
number_of (NoRoom used reserve) = 6
number_of (NotALabel why) = 7

abbrev pub carried_by : Refusal → List ℕ
carried_by BadTables = []
carried_by (NotHeld n) = n ∷ []
carried_by CrossedBounds = []
carried_by HoldsTaken = []
carried_by NumbersSpent = []
carried_by (NoRoom used reserve) = used ∷ reserve ∷ []
carried_by (NotALabel why) = place_of why ∷ []

-- the numbers in decimal, each after a space
abbrev pub spaced : List ℕ → List ℕ
spaced [] = []
spaced (n ∷ ns) = codes " " ++ (decimal n ++ spaced ns)

-- how a refusal is printed: its number, then what it carries
abbrev pub printed : Refusal → List ℕ
printed r = decimal (number_of r) ++ spaced (carried_by r)
