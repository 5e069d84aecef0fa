-- How few levels a balanced tree has.
use Rattle.std.proofs.Common.{◌≡◌, ℕ, zero, suc, ◌+◌, ◌-◌, ◌*◌, ◌/◌, ◌^◌, ◌<◌, ◌≤◌, max, inl, inr, pow-suc, arith}
use Rattle.std.proofs.lemmas.Bool.{cases_lt}
use Rattle.links.specs.Trees.{Tree, tip, fork, height, size, Balanced, fewest}

fewest_up : (h : ℕ) → fewest h ≤ fewest (suc h)
unfolding fewest
fewest_up zero = omega arith
fewest_up (suc zero) = omega arith
fewest_up (suc (suc h)) = omega (arith, fewest_up (suc h), fewest_up h)

fewest_more : (h k : ℕ) → fewest h ≤ fewest (k + h)
fewest_more h zero = let e : 0 + h ≡ h = omega arith in rw e (omega arith)
fewest_more h (suc k) = let e : suc k + h ≡ suc (k + h) = omega arith in rw e (omega (arith, fewest_more h k, fewest_up (k + h)))

pub fewest_mono : (h k : ℕ) → h ≤ k → fewest h ≤ fewest k
fewest_mono h k p = let e : k - h + h ≡ k = omega arith in rw e at (fewest_more h (k - h))

-- a fork over sides within one level
fewest_fork : (a b : ℕ) → a ≤ b → b ≤ a + 1 → fewest (1 + b) ≤ 1 + fewest a + fewest b
unfolding fewest
fewest_fork a zero p q = omega arith
fewest_fork a (suc b) p q =
    let e : 1 + suc b ≡ suc (suc b) = omega arith in
    rw e (omega (arith, fewest_mono b a (omega arith)))

pub fewest-size : {E : Type 0} (t : Tree E) → Balanced t → fewest (height t) ≤ size t
unfolding fewest
fewest-size tip b = omega arith
fewest-size (fork e l r) b =
    elim (cases_lt (height l) (height r)) [
      | inl h ↦ let m : max (height l) (height r) ≡ height r = omega arith in
          rw m (omega (arith, fewest_fork (height l) (height r) (omega arith) b.right_low, fewest-size l b.left, fewest-size r b.right))
      | inr h ↦ let m : max (height l) (height r) ≡ height l = omega arith in
          rw m (omega (arith, fewest_fork (height r) (height l) (omega arith) b.left_low, fewest-size l b.left, fewest-size r b.right))
    ]

-- two levels more, and twice as many at least
fewest_twice : (b : ℕ) → 2 ^ b ≤ fewest (2 * b + 1)
unfolding fewest
fewest_twice zero = omega arith
fewest_twice (suc b) =
    let e : 2 * suc b + 1 ≡ suc (suc (2 * b + 1)) = omega arith in
    rw (e, pow-suc 2 b) (omega (arith, fewest_twice b, fewest_up (2 * b + 1), fewest_mono (2 * b + 1) (suc (2 * b + 1)) (omega arith)))

-- three levels more, and four times as many at least
fewest_four : (h : ℕ) → 4 * fewest h ≤ fewest (suc (suc (suc h)))
unfolding fewest
fewest_four zero = omega arith
fewest_four (suc zero) = omega arith
fewest_four (suc (suc h)) = omega (arith, fewest_up h, fewest_up (suc h))

fewest_half_more : (b : ℕ) → 2 ^ b ≤ fewest (3 * b / 2 + 2)
unfolding fewest
fewest_half_more zero = omega arith
fewest_half_more (suc zero) = omega arith
fewest_half_more (suc (suc b)) =
    let e : 3 * suc (suc b) / 2 + 2 ≡ suc (suc (suc (3 * b / 2 + 2))) = omega arith in
    rw (e, pow-suc 2 (suc b), pow-suc 2 b) (omega (arith, fewest_half_more b, fewest_four (3 * b / 2 + 2)))

-- a tree that is too small for k levels has fewer
few_levels : {E : Type 0} (t : Tree E) → Balanced t → (k : ℕ) → size t < fewest (k + 1) → height t ≤ k
few_levels t b k s =
    elim (cases_lt k (height t)) [
      | inl h ↦ absurd (omega (arith, fewest_mono (k + 1) (height t) (omega arith), fewest-size t b))
      | inr h ↦ h
    ]

fewest_23 : 65536 ≤ fewest 23
unfolding fewest
fewest_23 = omega arith

module _ {E : Type 0} (t : Tree E) (balanced : Balanced t) where
  pub levels_22 : size t ≤ 65535 → height t ≤ 22
  levels_22 s = few_levels t balanced 22 (omega (arith, fewest_23))

  pub levels_twice : (b : ℕ) → size t < 2 ^ b → height t ≤ 2 * b
  levels_twice b s = few_levels t balanced (2 * b) (omega (arith, fewest_twice b))

  pub levels_half_more : (b : ℕ) → size t < 2 ^ b → height t ≤ 3 * b / 2 + 1
  levels_half_more b s =
      let e : 3 * b / 2 + 1 + 1 ≡ 3 * b / 2 + 2 = omega arith in
      few_levels t balanced (3 * b / 2 + 1) (rw e (omega (arith, fewest_half_more b)))
