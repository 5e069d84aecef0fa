-- Trees, and how few levels a balanced one has.
use Rattle.std.specs.Prelude.{ℕ, zero, suc, ◌+◌, ◌≤◌, max, List, [], ◌∷◌, ◌++◌}

pub data Tree (E : Type 0) : Type 0 where
  tip : Tree E
  fork : E → Tree E → Tree E → Tree E

-- from left to right
abbrev pub inorder : {E : Type 0} → Tree E → List E
inorder tip = []
inorder (fork e l r) = inorder l ++ (e ∷ inorder r)

-- the levels of a tree
abbrev pub height : {E : Type 0} → Tree E → ℕ
height tip = 0
height (fork e l r) = 1 + max (height l) (height r)

abbrev pub size : {E : Type 0} → Tree E → ℕ
size tip = 0
size (fork e l r) = 1 + size l + size r

-- both sides are balanced and differ by at most one level
pub record Level {E : Type 0} (l r : Tree E) (L R : Type 0) : Type 0 where
  pub left : L
  pub right : R
  pub left_low : height l ≤ height r + 1
  pub right_low : height r ≤ height l + 1

abbrev pub Balanced : {E : Type 0} → Tree E → Type 0
Balanced tip = Unit {0}
Balanced (fork e l r) = Level l r (Balanced l) (Balanced r)

-- the fewest entries of a balanced tree with h levels
unfoldable pub fewest : ℕ → ℕ
fewest zero = 0
fewest (suc zero) = 1
fewest (suc (suc h)) = fewest (suc h) + fewest h + 1
