-- Whole runs of the list book.
use Rattle.std.specs.Prelude.{ℕ, Bool, true, false, List, [], ◌∷◌}
use Rattle.kinds.specs.Kinds.{Ops}
use Rattle.book.specs.Calls.{Call, Answer, given, returned, says, refused}
use Rattle.book.specs.Book.{Book, opened, plan, step, Right, Orderly}
use Rattle.book.specs.declared.refusal.Refusal.{Refusal}
use Rattle.book.specs.declared.refusal.Refusal.TheVariants.{BadTables, NotHeld, CrossedBounds, HoldsTaken, NumbersSpent, NoRoom, NotALabel}

-- a call with its answer
pub record Event (E K S L : Type 0) : Type 0 where
  pub call : Call E K L
  pub answer : Answer E S

-- whether a refusal is 6
abbrev pub is_no_room : Refusal → Bool
is_no_room BadTables = false
is_no_room (NotHeld n) = false
is_no_room CrossedBounds = false
is_no_room HoldsTaken = false
is_no_room NumbersSpent = false
is_no_room (NoRoom used reserve) = true
is_no_room (NotALabel why) = false

-- whether an answer is refusal 6
abbrev pub told_six : {E S : Type 0} → Answer E S → Bool
told_six (given n) = false
told_six returned = false
told_six (says r) = false
told_six (refused r) = is_no_room r

module _ {E K S L : Type 0} (o : Ops E K S L) where
  abbrev pub after : Book E → Event E K S L → Book E
  after b e = step o b e.call (told_six e.answer)

  -- the book fed with each call of a run, and told where refusal 6 came
  abbrev pub run : Book E → List (Event E K S L) → Book E
  run b [] = b
  run b (e ∷ es) = run (after b e) es

  -- each answer is right where the book then stands
  abbrev pub Rights : Book E → List (Event E K S L) → Type 0
  Rights b [] = Unit {0}
  Rights b (e ∷ es) = Right o b (plan o b e.call) e.answer × Rights (after b e) es

  -- a book stays orderly over every run
  pub record RunsOrderly : Type 0 where
    pub always : (holds first : ℕ) (es : List (Event E K S L)) → Orderly o (run (opened holds first) es)
