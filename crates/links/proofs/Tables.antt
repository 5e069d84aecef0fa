-- A table before and after one write, and what lies outside it.
use Rattle.std.proofs.Common.{◌≡◌, ℕ, zero, suc, ◌-◌, ◌<◌, ◌≤◌, ◌≢◌, List, length, get_or, set, sym, refl, ap, ◌∙◌, inl, inr, arith}
use Rattle.std.proofs.lemmas.List.{get_or-set_same, get_or-set_other, get_or_past, length-set}
use Rattle.std.proofs.lemmas.Bool.{cases_eq, cases_lt}
use Rattle.links.specs.declared.link.Link.{Link}
use Rattle.links.specs.Fields.{refs_in, blank, SameShape}
use Rattle.links.specs.Cells.{at, refs_of, Kept, Put}

pub at_none : (ls : List Link) → at ls 0 ≡ blank
unfolding at
at_none ls = refl

pub at_is : (ls : List Link) (c : ℕ) → 0 < c → at ls c ≡ get_or ls (c - 1) blank
unfolding at
at_is ls zero h = absurd (omega arith)
at_is ls (suc i) h = let e : i ≡ suc i - 1 = omega arith in ap (λ k. get_or ls k blank) e

pub at_zero : (ls : List Link) (c : ℕ) → c ≡ 0 → at ls c ≡ blank
at_zero ls c e = ap (at ls) e ∙ at_none ls

pub at_past : (ls : List Link) (c : ℕ) → length ls < c → at ls c ≡ blank
at_past ls c h = at_is ls c (omega arith) ∙ get_or_past ls (c - 1) blank (omega arith)

-- a live cell is a cell of the table
pub live_low : (ls : List Link) (c : ℕ) → 0 < refs_of ls c → 0 < c
live_low ls c h =
    elim (cases_lt 0 c) [
      | inl p ↦ p
      | inr n ↦ absurd (omega (arith, ap refs_in (at_zero ls c (omega arith))))
    ]

pub live_high : (ls : List Link) (c : ℕ) → 0 < refs_of ls c → c ≤ length ls
live_high ls c h =
    elim (cases_lt (length ls) c) [
      | inl p ↦ absurd (omega (arith, ap refs_in (at_past ls c p)))
      | inr n ↦ n
    ]

pub shape_same : (a b : Link) → b ≡ a → SameShape a b
shape_same a b e = rw e (record { left = refl; right = refl; count = refl; levels = refl })

pub at_place : (ls : List Link) (c i : ℕ) → i ≡ c - 1 → 0 < c → at ls c ≡ get_or ls i blank
at_place ls c i place low = at_is ls c low ∙ ap (λ j. get_or ls j blank) (sym place)

-- the record of cell c, at place i, was written
module _ (ls : List Link) (c i : ℕ) (v : Link) (place : i ≡ c - 1) (low : 0 < c) (high : c ≤ length ls) where
  pub at_same : at (set ls i v) c ≡ v
  at_same = at_place (set ls i v) c i place low ∙ get_or-set_same ls i v blank (omega arith)

  pub at_other : (d : ℕ) → (d ≡ c → ⊥) → at (set ls i v) d ≡ at ls d
  at_other d n =
      elim (cases_lt 0 d) [
        | inl p ↦ let ne : d - 1 ≢ i = λ e. n (omega arith) in
            at_is (set ls i v) d p ∙ get_or-set_other ls i (d - 1) v blank ne ∙ sym (at_is ls d p)
        | inr z ↦ let e : d ≡ 0 = omega arith in at_zero (set ls i v) d e ∙ sym (at_zero ls d e)
      ]

  -- with another count of references, n
  pub put_set : SameShape (get_or ls i blank) v → (n : ℕ) → refs_in v ≡ n → Put ls (set ls i v) c n
  put_set s n r =
      let was = at_place ls c i place low in
      record {
        kept = record {
          len = length-set ls i v;
          shape = λ d. elim (cases_eq d c) [
            | inl e ↦ rw (e, at_same, was) s
            | inr ne ↦ shape_same (at ls d) (at (set ls i v) d) (at_other d ne)
          ];
        };
        here = ap refs_in at_same ∙ r;
        others = at_other;
      }

pub kept_refl : (ls : List Link) → Kept ls ls
kept_refl ls = record { len = refl; shape = λ c. shape_same (at ls c) (at ls c) refl }

pub shape_trans : (a b c : Link) → SameShape a b → SameShape b c → SameShape a c
shape_trans a b c h k =
    record {
      left = k.left ∙ h.left;
      right = k.right ∙ h.right;
      count = k.count ∙ h.count;
      levels = k.levels ∙ h.levels;
    }

pub kept_trans : (ls ms ns : List Link) → Kept ls ms → Kept ms ns → Kept ls ns
kept_trans ls ms ns h k =
    record { len = k.len ∙ h.len; shape = λ c. shape_trans (at ls c) (at ms c) (at ns c) (h.shape c) (k.shape c) }

pub kept_sym : (ls ms : List Link) → Kept ls ms → Kept ms ls
kept_sym ls ms k =
    record {
      len = sym k.len;
      shape = λ c. record {
        left = sym (k.shape c).left;
        right = sym (k.shape c).right;
        count = sym (k.shape c).count;
        levels = sym (k.shape c).levels;
      };
    }
