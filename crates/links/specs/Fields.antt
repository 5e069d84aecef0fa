-- The five numbers of a link record. Of specs/ and proofs/ this file alone knows how they lie in it.
use Rattle.std.specs.Prelude.{◌≡◌, ℕ}
use Rattle.links.specs.declared.link.Link.{Link}

abbrev pub left_in : Link → ℕ
left_in r = r.left

abbrev pub right_in : Link → ℕ
right_in r = r.right

abbrev pub count_in : Link → ℕ
count_in r = r.count

abbrev pub levels_in : Link → ℕ
levels_in r = r.levels

abbrev pub refs_in : Link → ℕ
refs_in r = r.refs

-- the record of which every number is 0
abbrev pub blank : Link
blank = record { left = 0; right = 0; count = 0; levels = 0; refs = 0 }

-- the same but for the count of references
pub record SameShape (a b : Link) : Type 0 where
  pub left : left_in b ≡ left_in a
  pub right : right_in b ≡ right_in a
  pub count : count_in b ≡ count_in a
  pub levels : levels_in b ≡ levels_in a
