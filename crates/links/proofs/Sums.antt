-- Sums over the cells 1 to n.
use Rattle.std.proofs.Common.{◌≡◌, ℕ, zero, suc, ◌+◌, ◌*◌, ◌<◌, ◌≤◌, Bool, true, false, sym, refl, ap, inl, inr, arith}
use Rattle.std.proofs.lemmas.Bool.{cases_eq, cases_lt, cond-true, cond-false, cases_Bool}
use Rattle.links.specs.Cells.{sum_to}
use Rattle.links.specs.Counted.{one}

pub one_yes : (b : Bool) → b ≡ true → one b ≡ 1
one_yes b e = cond-true b 1 0 e

pub one_no : (b : Bool) → b ≡ false → one b ≡ 0
one_no b e = cond-false b 1 0 e

pub one_small : (b : Bool) → one b ≤ 1
one_small b = elim (cases_Bool b) [ inl e ↦ omega (arith, one_yes b e) | inr e ↦ omega (arith, one_no b e) ]

-- like summands have like sums
pub sum_like : (n : ℕ) (f g : ℕ → ℕ) → ((d : ℕ) → 0 < d → d ≤ n → f d ≡ g d) → sum_to n f ≡ sum_to n g
unfolding sum_to
sum_like zero f g h = refl
sum_like (suc n) f g h = omega (arith, sum_like n f g (λ d p q. h d p (omega arith)), h (suc n) (omega arith) (omega arith))

-- where two functions agree on all cells but one, so do their sums but for it
pub sum_but : (n : ℕ) (f g : ℕ → ℕ) (c : ℕ) → 0 < c → c ≤ n → ((d : ℕ) → 0 < d → d ≤ n → (d ≡ c → ⊥) → f d ≡ g d) → sum_to n f + g c ≡ sum_to n g + f c
unfolding sum_to
sum_but zero f g c p q h = absurd (omega arith)
sum_but (suc n) f g c p q h =
    elim (cases_eq c (suc n)) [
      | inl e ↦ omega (arith, sum_like n f g (λ d p i. h d p (omega arith) (λ z. omega arith)), ap f e, ap g e)
      | inr e ↦ omega (arith, sum_but n f g c p (omega arith) (λ d i j. h d i (omega arith)), h (suc n) (omega arith) (omega arith) (λ z. e (sym z)))
    ]

pub sum_least : (n : ℕ) (f : ℕ → ℕ) (c : ℕ) → 0 < c → c ≤ n → f c ≤ sum_to n f
unfolding sum_to
sum_least zero f c p q = absurd (omega arith)
sum_least (suc n) f c p q =
    elim (cases_eq c (suc n)) [
      | inl e ↦ omega (arith, ap f e)
      | inr e ↦ omega (arith, sum_least n f c p (omega arith))
    ]

-- a sum is at most so much for each cell
pub sum_most : (k n : ℕ) (f : ℕ → ℕ) → ((d : ℕ) → 0 < d → d ≤ n → f d ≤ k) → sum_to n f ≤ k * n
unfolding sum_to
sum_most k zero f h = omega arith
sum_most k (suc n) f h = omega (arith, sum_most k n f (λ d p q. h d p (omega arith)), h (suc n) (omega arith) (omega arith))

pub sum_add : (n : ℕ) (f g : ℕ → ℕ) → sum_to n (λ d. f d + g d) ≡ sum_to n f + sum_to n g
unfolding sum_to
sum_add zero f g = refl
sum_add (suc n) f g = omega (arith, sum_add n f g)

pub sum_ones : (n : ℕ) (f : ℕ → ℕ) → ((d : ℕ) → 0 < d → d ≤ n → f d ≡ 1) → sum_to n f ≡ n
unfolding sum_to
sum_ones zero f h = refl
sum_ones (suc n) f h = omega (arith, sum_ones n f (λ d p q. h d p (omega arith)), h (suc n) (omega arith) (omega arith))

pub sum_none : (n : ℕ) (f : ℕ → ℕ) → ((d : ℕ) → f d ≡ 0) → sum_to n f ≡ 0
unfolding sum_to
sum_none zero f h = refl
sum_none (suc n) f h = omega (arith, sum_none n f h, h (suc n))

-- a sum above 0 has a summand above 0
pub record Summand (n : ℕ) (f : ℕ → ℕ) : Type 0 where
  pub cell : ℕ
  pub low : 0 < cell
  pub high : cell ≤ n
  pub some : 0 < f cell

pub sum_some : (n : ℕ) (f : ℕ → ℕ) → 0 < sum_to n f → Summand n f
unfolding sum_to
sum_some zero f h = absurd (omega arith)
sum_some (suc n) f h =
    elim (cases_lt 0 (f (suc n))) [
      | inl p ↦ record { cell = suc n; low = omega arith; high = omega arith; some = p }
      | inr z ↦ let s = sum_some n f (omega arith) in record { cell = s.cell; low = s.low; high = omega (arith, s.high); some = s.some }
    ]
