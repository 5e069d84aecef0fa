-- The digits that halving counts are those that leading zeros leave.
use Rattle.std.proofs.Common.{◌≡◌, ℕ, zero, suc, ◌+◌, ◌-◌, ◌*◌, ◌/◌, ◌^◌, ◌<◌, ◌≤◌, eqb, refl, inl, inr, arith, pow_mono, pow-add}
use lib.Count.{count_leading_zeros, leading_unique}
use Rattle.std.proofs.lemmas.Bool.{cases_eq, cases_lt, cond-true, cond-false, eq-eqb, ne_eqb}
use Rattle.book.specs.Numbers.{halvings, digits}

pub halved : (t n : ℕ) → n ≤ t → (n < 2 ^ halvings t n) × (0 < n → 2 ^ halvings t n ≤ 2 * n) × (n ≡ 0 → halvings t n ≡ 0)
halved zero n h = (omega arith, λ p. absurd (omega arith), λ z. refl)
halved (suc t) n h =
    elim (cases_eq n 0) [
      | inl z ↦
          let e = cond-true (eqb n 0) 0 (1 + halvings t (n / 2)) (eq-eqb n 0 z) in
          (rw e (omega arith), λ p. absurd (omega arith), λ _. e)
      | inr z ↦
          let e = cond-false (eqb n 0) 0 (1 + halvings t (n / 2)) (ne_eqb n 0 z) in
          let half = halved t (n / 2) (omega arith) in
          let two = pow-add 2 1 (halvings t (n / 2)) in
          let low : 2 * 2 ^ halvings t (n / 2) ≤ 2 * n =
          elim (cases_eq (n / 2) 0) [
            | inl none ↦ rw (half.2 none) (omega arith)
            | inr some ↦ omega (arith, half.1 (omega arith))
          ] in
          (rw e (rw two (omega (arith, half.0))), λ p. rw e (rw two low), λ y. absurd (z y))
    ]

module _ (n : ℕ) where
  pub above : n < 2 ^ digits n
  above = (halved n n (omega arith)).0

  pub below : 0 < n → 2 ^ digits n ≤ 2 * n
  below = (halved n n (omega arith)).1

  close : 2 ^ digits n ≤ 2 * n + 1
  close =
      elim (cases_eq n 0) [
        | inl z ↦ rw ((halved n n (omega arith)).2 z) (omega arith)
        | inr z ↦ omega (arith, below (omega arith))
      ]

  pub few : n < 2 ^ 64 → digits n ≤ 64
  few h =
      elim (cases_lt 64 (digits n)) [
        | inl long ↦
            let more : 2 ^ 65 ≤ 2 ^ digits n = pow_mono long in
            absurd (omega (arith, close))
        | inr short ↦ short
      ]

  -- what is left of 64 once the leading zeros are taken
  pub left_of_zeros : n < 2 ^ 64 → 64 - count_leading_zeros 64 n ≡ digits n
  left_of_zeros h =
      let short = few h in
      let zeros = leading_unique 64 n (64 - digits n) (digits n) (omega arith) above close in
      omega arith
