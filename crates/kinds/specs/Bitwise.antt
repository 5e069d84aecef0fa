-- Laws of `|` and `&` that hold since they hold of single binary digits.
use Rattle.std.specs.Prelude.{◌≡◌, ℕ, zero, suc, ◌/◌, ◌%◌, ◌<◌, not, ◌||◌, ◌==◌, bit_and, bit_or, refl}
use Rattle.std.proofs.Common.{sym, ap, ◌∙◌, arith}
use Rattle.std.specs.Int.Bits.{or_add_and}
use Rattle.std.proofs.Math.Arith.{bin_ind}
use Rattle.std.proofs.lemmas.Nat.{div-add-mod', mod_below, or_shr, or_mod, and_shr, and_mod, and_le_l, and_le_r}
use Rattle.std.proofs.lemmas.Bool.Decides.{nat_tests}

-- f works digit by digit
record Digitwise (f : ℕ → ℕ → ℕ → ℕ) : Type 0 where
  half : (a b c : ℕ) → f a b c / 2 ≡ f (a / 2) (b / 2) (c / 2)
  digit : (a b c : ℕ) → f a b c % 2 ≡ f (a % 2) (b % 2) (c % 2)

module _ (f g : ℕ → ℕ → ℕ → ℕ) (df : Digitwise f) (dg : Digitwise g)
    (at_zero : (b c : ℕ) → f 0 b c ≡ g 0 b c) (at_digits : (x y z : ℕ) → x < 2 → y < 2 → z < 2 → f x y z ≡ g x y z) where
  digit_more : (a : ℕ) → ((b c : ℕ) → f (a / 2) b c ≡ g (a / 2) b c) → (b c : ℕ) → f a b c ≡ g a b c
  digit_more a halves b c =
      let low = at_digits (a % 2) (b % 2) (c % 2) (mod_below a 2 (omega arith)) (mod_below b 2 (omega arith)) (mod_below c 2 (omega arith)) in
      let high = df.half a b c ∙ halves (b / 2) (c / 2) ∙ sym (dg.half a b c) in
      let rest = df.digit a b c ∙ low ∙ sym (dg.digit a b c) in
      omega (arith, div-add-mod' (f a b c) 2, div-add-mod' (g a b c) 2)

  agree : (a b c : ℕ) → f a b c ≡ g a b c
  agree = bin_ind (λ (a : ℕ). (b c : ℕ) → f a b c ≡ g a b c) at_zero digit_more

or_left_digits : Digitwise (λ a b c. bit_or (bit_or a b) c)
or_left_digits = record {
  half = λ a b c. or_shr (bit_or a b) c 1 ∙ ap (λ (x : ℕ). bit_or x (c / 2)) (or_shr a b 1);
  digit = λ a b c. or_mod (bit_or a b) c 1 ∙ ap (λ (x : ℕ). bit_or x (c % 2)) (or_mod a b 1);
}

or_right_digits : Digitwise (λ a b c. bit_or a (bit_or b c))
or_right_digits = record {
  half = λ a b c. or_shr a (bit_or b c) 1 ∙ ap (bit_or (a / 2)) (or_shr b c 1);
  digit = λ a b c. or_mod a (bit_or b c) 1 ∙ ap (bit_or (a % 2)) (or_mod b c 1);
}

and_or_digits : Digitwise (λ a b c. bit_and (bit_or a b) c)
and_or_digits = record {
  half = λ a b c. and_shr (bit_or a b) c 1 ∙ ap (λ (x : ℕ). bit_and x (c / 2)) (or_shr a b 1);
  digit = λ a b c. and_mod (bit_or a b) c 1 ∙ ap (λ (x : ℕ). bit_and x (c % 2)) (or_mod a b 1);
}

or_and_digits : Digitwise (λ a b c. bit_or (bit_and a c) (bit_and b c))
or_and_digits = record {
  half = λ a b c. or_shr (bit_and a c) (bit_and b c) 1 ∙ (λ i. bit_or (and_shr a c 1 i) (and_shr b c 1 i));
  digit = λ a b c. or_mod (bit_and a c) (bit_and b c) 1 ∙ (λ i. bit_or (and_mod a c 1 i) (and_mod b c 1 i));
}

-- what holds of 0 and of 1 holds of every digit
each_digit : (P : ℕ → Type 0) → P 0 → P 1 → (x : ℕ) → x < 2 → P x
each_digit P p q zero h = p
each_digit P p q (suc zero) h = q
each_digit P p q (suc (suc x)) h = absurd (omega arith)

-- three digits at a time, by the rows of their table
module _ (f g : ℕ → ℕ → ℕ → ℕ) where
  abbrev Row : ℕ → ℕ → Type 0
  Row x y = (f x y 0 ≡ g x y 0) × (f x y 1 ≡ g x y 1)

  by_rows : Row 0 0 → Row 0 1 → Row 1 0 → Row 1 1 → (x y z : ℕ) → x < 2 → y < 2 → z < 2 → f x y z ≡ g x y z
  by_rows p q r s x y z hx hy hz =
      let row : Row x y = each_digit (λ a. Row a y) (each_digit (Row 0) p q y hy) (each_digit (Row 1) r s y hy) x hx in
      each_digit (λ c. f x y c ≡ g x y c) row.0 row.1 z hz

pub or_assoc : (a b c : ℕ) → bit_or (bit_or a b) c ≡ bit_or a (bit_or b c)
or_assoc = agree _ _ or_left_digits or_right_digits (λ b c. refl) (by_rows _ _ (refl, refl) (refl, refl) (refl, refl) (refl, refl))

and_or : (a b c : ℕ) → bit_and (bit_or a b) c ≡ bit_or (bit_and a c) (bit_and b c)
and_or = agree _ _ and_or_digits or_and_digits (λ b c. refl) (by_rows _ _ (refl, refl) (refl, refl) (refl, refl) (refl, refl))

or_none : (x y : ℕ) → not (bit_or x y == 0) ≡ (not (x == 0) || not (y == 0))
or_none x y =
    let all = or_add_and x y in
    let l = and_le_l x y in
    let r = and_le_r x y in
    grind (arith, nat_tests)

-- a bit of a or of b is set in c
pub shares_either : (a b c : ℕ) → not (bit_and (bit_or a b) c == 0) ≡ (not (bit_and a c == 0) || not (bit_and b c == 0))
shares_either a b c = ap (λ (x : ℕ). not (x == 0)) (and_or a b c) ∙ or_none (bit_and a c) (bit_and b c)
