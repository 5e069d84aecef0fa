-- What a kind of entry offers, and the five laws that it keeps.
use Rattle.std.specs.Prelude.{◌≡◌, Bool, true, false, ◌||◌}

-- E is the type of an entry, K of its key, S of a sum, L of a limit.
-- A sum fits where it is a value that the sum's type can hold: numbers here have no width of their own.
pub record Ops (E K S L : Type 0) : Type 0 where
  pub key : E → K
  pub less : K → K → Bool
  pub same : E → E → Bool
  pub measure : E → S
  pub combine : S → S → S
  pub neutral : S
  pub blend : E → E → E
  pub passes : S → L → Bool
  pub fits : S → Bool

pub record StrictTotalOrder {K : Type 0} (less : K → K → Bool) : Type 0 where
  pub irreflexive : (k : K) → less k k ≡ false
  pub transitive : (a b c : K) → less a b ≡ true → less b c ≡ true → less a c ≡ true
  pub total : (a b : K) → less a b ≡ false → less b a ≡ false → a ≡ b

pub record Equality {E : Type 0} (same : E → E → Bool) : Type 0 where
  pub only_equal : (x y : E) → same x y ≡ true → x ≡ y
  pub itself : (x : E) → same x x ≡ true

pub record Monoid {S : Type 0} (combine : S → S → S) (neutral : S) (fits : S → Bool) : Type 0 where
  pub assoc : (a b c : S) → combine (combine a b) c ≡ combine a (combine b c)
  pub neutral_left : (a : S) → fits a ≡ true → combine neutral a ≡ a
  pub neutral_right : (a : S) → fits a ≡ true → combine a neutral ≡ a
  pub neutral_fits : fits neutral ≡ true
  pub combine_fits : (a b : S) → fits a ≡ true → fits b ≡ true → fits (combine a b) ≡ true

pub record Laws {E K S L : Type 0} (o : Ops E K S L) : Type 0 where
  pub order : StrictTotalOrder o.less
  pub equality : Equality o.same
  pub monoid : Monoid o.combine o.neutral o.fits
  pub measure_fits : (x : E) → o.fits (o.measure x) ≡ true
  pub blend_key : (x y : E) → o.key x ≡ o.key y → o.key (o.blend x y) ≡ o.key x
  pub passes_either : (a b : S) (l : L) → o.passes (o.combine a b) l ≡ (o.passes a l || o.passes b l)
