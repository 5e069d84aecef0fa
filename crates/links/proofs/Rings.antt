-- Steps in the ring, what is available, and one cell taken.
use Rattle.std.proofs.Common.{◌≡◌, ℕ, ◌+◌, ◌-◌, ◌<◌, ◌≤◌, eqb, ltb, leb, List, length, get_or, drop, sym, ap, ◌∙◌, subst, inl, inr, arith}
use Rattle.std.proofs.lemmas.Bool.{cases_eq, cases_lt, cases_Bool, and_parts, and_from, eq-eqb, eqb-true, le-leb, leb-true, lt-ltb, le-ltb, cond-true, cond-false}
use Rattle.std.proofs.lemmas.List.{get_or-drop, length-drop}
use Rattle.std.specs.List.{AllWithin, HoldsAt}
use Rattle.links.specs.declared.link.Link.{Link}
use Rattle.links.specs.Fields.{refs_in, blank}
use Rattle.links.specs.declared.ring.Cursor.{Cursor}
use Rattle.links.specs.Cells.{refs_of}
use Rattle.links.specs.Counted.{one, is_live, live_count}
use Rattle.links.specs.Ring.{steps, OnRing, Unused, Available, is_available, avail_count, Begun, Took, RoomIsLeft}
use Rattle.links.proofs.Counting.{life_if_live, life_if_unused}
use Rattle.links.proofs.Sums.{one_yes, one_no, one_small, sum_but, sum_add, sum_ones, sum_most, sum_some}
use Rattle.links.proofs.Tables.{at_is}

pub steps_up : (n from c : ℕ) → from < c → steps n from c ≡ c - from
unfolding steps
steps_up n from c h = cond-true (ltb from c) (c - from) (n - from + c) (lt-ltb from c h)

pub steps_round : (n from c : ℕ) → c ≤ from → steps n from c ≡ n - from + c
unfolding steps
steps_round n from c h = cond-false (ltb from c) (c - from) (n - from + c) (le-ltb from c h)

module _ (n from : ℕ) (inside : from ≤ n) where
  pub steps_low : (c : ℕ) → 0 < c → 0 < steps n from c
  steps_low c p =
      elim (cases_lt from c) [ inl h ↦ omega (arith, steps_up n from c h) | inr h ↦ omega (arith, steps_round n from c h) ]

  pub steps_high : (c : ℕ) → c ≤ n → steps n from c ≤ n
  steps_high c q =
      elim (cases_lt from c) [ inl h ↦ omega (arith, steps_up n from c h) | inr h ↦ omega (arith, steps_round n from c h) ]

  -- by way of a nearer cell
  pub steps_by : (d c : ℕ) → 0 < d → d ≤ n → 0 < c → c ≤ n → (c ≡ d → ⊥) → steps n from d ≤ steps n from c → steps n from d + steps n d c ≡ steps n from c
  steps_by d c pd qd pc qc ne near =
      elim (cases_lt d c) [
        | inl h ↦ elim (cases_lt from d) [
          | inl i ↦ omega (arith, steps_up n from d i, steps_up n d c h, steps_up n from c (omega arith))
          | inr i ↦ elim (cases_lt from c) [
            | inl j ↦ absurd (omega (arith, steps_round n from d i, steps_up n from c j))
            | inr j ↦ omega (arith, steps_round n from d i, steps_up n d c h, steps_round n from c j)
          ]
        ]
        | inr h ↦ elim (cases_lt from d) [
          | inl i ↦ elim (cases_lt from c) [
            | inl j ↦ absurd (omega (arith, ne, steps_up n from d i, steps_up n from c j))
            | inr j ↦ omega (arith, steps_up n from d i, steps_round n d c h, steps_round n from c j)
          ]
          | inr i ↦ absurd (omega (arith, ne, steps_round n from d i, steps_round n from c (omega arith)))
        ]
      ]

-- a cell that is unused in another table of that length is available there too
pub carried : (ls ms : List Link) (k : Cursor) (c : ℕ) → length ms ≡ length ls → refs_of ms c ≡ 0 → Available ls k c → Available ms k c
carried ls ms k c len unused a =
    record {
      unused = record { low = a.unused.low; high = omega (arith, a.unused.high); refs = unused };
      ahead = subst (λ (n : ℕ). steps n k.last c ≤ k.left) (sym len) a.ahead;
    }

-- the test and the fact
module _ (ls : List Link) (k : Cursor) (c : ℕ) where
  tested : Available ls k c → one (is_available ls k c) ≡ 1
  tested a =
      one_yes (is_available ls k c)
      (and_from (eqb (refs_of ls c) 0) (leb (steps (length ls) k.last c) k.left) (eq-eqb (refs_of ls c) 0 a.unused.refs) (le-leb (steps (length ls) k.last c) k.left a.ahead))

  untested : 0 < c → c ≤ length ls → 0 < one (is_available ls k c) → Available ls k c
  untested p q h =
      elim (cases_Bool (is_available ls k c)) [
        | inl e ↦ let both = and_parts (eqb (refs_of ls c) 0) (leb (steps (length ls) k.last c) k.left) e in
            record {
              unused = record { low = p; high = q; refs = eqb-true (refs_of ls c) 0 both.0 };
              ahead = leb-true (steps (length ls) k.last c) k.left both.1;
            }
        | inr e ↦ absurd (omega (arith, one_no (is_available ls k c) e))
      ]

-- a cell that is available alike in two tables counts alike
pub alike : (ls ms : List Link) (k j : Cursor) (c : ℕ) → 0 < c → c ≤ length ls → c ≤ length ms → (Available ls k c → Available ms j c) → (Available ms j c → Available ls k c)
    → one (is_available ls k c) ≡ one (is_available ms j c)
alike ls ms k j c p q r on back =
    elim (cases_lt 0 (one (is_available ls k c))) [
      | inl h ↦ let a = untested ls k c p q h in omega (arith, tested ls k c a, tested ms j c (on a))
      | inr h ↦ elim (cases_lt 0 (one (is_available ms j c))) [
        | inl i ↦ let a = untested ms j c p r i in omega (arith, tested ls k c (back a), tested ms j c a)
        | inr i ↦ omega arith
      ]
    ]

pub some_unused : (ls : List Link) (k : Cursor) → 0 < avail_count ls k → (c : ℕ) × Available ls k c
unfolding avail_count
some_unused ls k h =
    let s = sum_some (length ls) (λ c. one (is_available ls k c)) h in (s.cell, untested ls k s.cell s.low s.high s.some)

-- an available cell is not live
not_both : (ls : List Link) (k : Cursor) (c : ℕ) → 0 < c → c ≤ length ls → one (is_available ls k c) + one (is_live ls c) ≤ 1
not_both ls k c p q =
    elim (cases_lt 0 (one (is_available ls k c))) [
      | inl h ↦ let a = untested ls k c p q h in omega (arith, one_small (is_available ls k c), life_if_unused ls c a.unused.refs)
      | inr h ↦ omega (arith, one_small (is_live ls c))
    ]

pub room : RoomIsLeft
unfolding avail_count live_count
room ls k =
    omega (arith, sum_add (length ls) (λ c. one (is_available ls k c)) (λ c. one (is_live ls c)), sum_most 1 (length ls) (λ c. one (is_available ls k c) + one (is_live ls c)) (not_both ls k))

pub begun : (ls : List Link) (k : Cursor) → OnRing ls k → k.left ≡ length ls → Begun ls k
unfolding avail_count live_count
begun ls k ring full =
    let all : (c : ℕ) → Unused ls c → Available ls k c =
    λ c u. record { unused = u; ahead = omega (arith, steps_high (length ls) k.last ring.last c u.high) } in
    record {
      ring = ring;
      whole = full;
      all = all;
      count = sym (sum_add (length ls) (λ c. one (is_available ls k c)) (λ c. one (is_live ls c)))
          ∙ sum_ones (length ls) (λ c. one (is_available ls k c) + one (is_live ls c))
          (λ c p q. elim (cases_lt 0 (refs_of ls c)) [
            | inl h ↦ omega (arith, not_both ls k c p q, life_if_live ls c h)
            | inr z ↦ let none : refs_of ls c ≡ 0 = omega arith in
                omega (arith, tested ls k c (all c (record { low = p; high = q; refs = none })), life_if_unused ls c none)
          ]);
    }

-- the nearest unused cell was passed
module _ (ls : List Link) (k : Cursor) (ring : OnRing ls k) (some : 0 < avail_count ls k) (cell : ℕ) (unused : Unused ls cell)
    (next : (c : ℕ) → Unused ls c → steps (length ls) k.last cell ≤ steps (length ls) k.last c) where
  pub steps_left : steps (length ls) k.last cell ≤ k.left
  steps_left = let (c, a) = some_unused ls k some in omega (arith, next c a.unused, a.ahead)

  pub took : (j : Cursor) → j.last ≡ cell → j.left ≡ k.left - steps (length ls) k.last cell → Took ls k j cell
  unfolding avail_count
  took j last left =
      let was : Available ls k cell = record { unused = unused; ahead = steps_left } in
      let gone : Available ls j cell → ⊥ = λ a.
      omega (arith, a.ahead, ap (λ x. steps (length ls) x cell) last, steps_round (length ls) cell cell (omega arith), steps_low (length ls) k.last ring.last cell unused.low, ring.left, unused.high) in
      let on : (c : ℕ) → (c ≡ cell → ⊥) → (u : Unused ls c) → steps (length ls) k.last cell + steps (length ls) j.last c ≡ steps (length ls) k.last c = λ c ne u.
      rw last (steps_by (length ls) k.last ring.last cell c unused.low unused.high u.low u.high ne (next c u)) in
      let stays : (c : ℕ) → (c ≡ cell → ⊥) → Available ls k c → Available ls j c = λ c ne a.
      record { unused = a.unused; ahead = omega (arith, a.ahead, on c ne a.unused, left) } in
      let back : (c : ℕ) → Available ls j c → Available ls k c = λ c a.
      elim (cases_eq c cell) [
        | inl e ↦ absurd (gone (rw e at a))
        | inr ne ↦ record { unused = a.unused; ahead = omega (arith, a.ahead, on c ne a.unused, left, steps_left) }
      ] in
      record {
        ring = record { last = omega (arith, last, unused.high); left = omega (arith, left, ring.left) };
        was = was;
        next = λ c a. next c a.unused;
        passed = last;
        spent = omega (arith, left, steps_left);
        gone = gone;
        stays = stays;
        back = back;
        count = omega (
          arith,
          sum_but (length ls) (λ c. one (is_available ls k c)) (λ c. one (is_available ls j c)) cell unused.low unused.high
              (λ c p q ne. alike ls ls k j c p q q (stays c ne) (back c)),
          tested ls k cell was,
          passed j gone,
        );
      }
    where
      passed : (j : Cursor) → (Available ls j cell → ⊥) → one (is_available ls j cell) ≡ 0
      passed j gone =
          elim (cases_lt 0 (one (is_available ls j cell))) [
            | inl h ↦ absurd (gone (untested ls j cell unused.low unused.high h))
            | inr h ↦ omega arith
          ]

-- the records above place `from`, which are those of the cells above `from`
module _ (ls : List Link) (from : ℕ) where
  above : (c : ℕ) → from < c → refs_of ls c ≡ refs_in (get_or (drop from ls) (c - 1 - from) blank)
  above c h =
      let e : from + (c - 1 - from) ≡ c - 1 = omega arith in
      ap refs_in (at_is ls c (omega arith) ∙ ap (λ k. get_or ls k blank) (sym e) ∙ sym (get_or-drop from ls (c - 1 - from) blank))

  pub past_used : (n : ℕ) → AllWithin (λ r. 0 < refs_in r) (drop from ls) 0 n → (c : ℕ) → Unused ls c → from < c → from + n < c
  past_used n used c u h =
      elim (cases_lt (from + n) c) [
        | inl p ↦ p
        | inr q ↦ absurd (omega (arith, above c h, u.refs, used (c - 1 - from) blank (omega arith) (omega arith)))
      ]

  pub unused_above : (i c : ℕ) → c ≡ from + i + 1 → i < length (drop from ls) → HoldsAt (λ r. refs_in r ≡ 0) (drop from ls) i → Unused ls c
  unused_above i c is h none =
      let e : c - 1 - from ≡ i = omega arith in
      record {
        low = omega arith;
        high = omega (arith, length-drop from ls);
        refs = above c (omega arith) ∙ ap (λ k. refs_in (get_or (drop from ls) k blank)) e ∙ none blank;
      }

  pub none_above : AllWithin (λ r. 0 < refs_in r) (drop from ls) 0 (length (drop from ls)) → (c : ℕ) → Unused ls c → c ≤ from
  none_above used c u =
      elim (cases_lt from c) [
        | inl h ↦ absurd (omega (arith, u.high, length-drop from ls, past_used (length (drop from ls)) used c u h))
        | inr h ↦ h
      ]
