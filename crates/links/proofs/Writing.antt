-- Cells that nothing refers to: a table of them, and one written.
use Rattle.std.proofs.Common.{◌≡◌, ℕ, ◌+◌, ◌<◌, ◌≤◌, cond, ◌&&◌, eqb, ltb, leb, List, [], length, get_or, set, sym, refl, ap, ◌∙◌, subst, inl, inr, arith}
use Rattle.std.proofs.lemmas.Bool.{cases_eq, cases_lt}
use Rattle.links.specs.declared.link.Link.{Link}
use Rattle.links.specs.declared.ring.Cursor.{Cursor}
use Rattle.links.specs.Fields.{left_in, right_in, refs_in, blank, SameShape}
use Rattle.links.specs.Cells.{at, left_of, right_of, refs_of, to_left, to_right, Kept, Put}
use Rattle.links.specs.Counted.{one, points_to, inlinks, is_live, live_count, CellRules, Counted}
use Rattle.links.specs.Changes.{Wrote, Built}
use Rattle.links.specs.Ring.{steps, is_available, avail_count}
use Rattle.links.specs.Stands.{Stands, Among}
use Rattle.links.specs.Trees.{Tree}
use Rattle.links.proofs.Counting.{live_points, points_if_unused, life_if_unused, link_live}
use Rattle.links.proofs.Standing.{stays, levels_told, count_told}
use Rattle.links.proofs.Sums.{sum_like, sum_none}
use Rattle.links.proofs.Tables.{at_zero, at_past, kept_trans, put_set, shape_same}

-- one turn of a loop that clears the counts, by places
pub swept : (ls ms : List Link) (i : ℕ) (v : Link) → i < length ms → SameShape (get_or ms i blank) v → refs_in v ≡ 0
    → Kept ls ms → ((c : ℕ) → 0 < c → c ≤ i → refs_of ms c ≡ 0)
    → Kept ls (set ms i v) × ((c : ℕ) → 0 < c → c ≤ i + 1 → refs_of (set ms i v) c ≡ 0)
swept ls ms i v h s z k done =
    let put : Put ms (set ms i v) (i + 1) 0 = put_set ms (i + 1) i v (omega arith) (omega arith) (omega arith) s 0 z in (
      kept_trans ls ms (set ms i v) k put.kept,
      λ c p q. elim (cases_eq c (i + 1)) [
        | inl e ↦ ap (refs_of (set ms i v)) e ∙ put.here
        | inr ne ↦ ap refs_in (put.others c ne) ∙ done c p (omega arith)
      ],
    )

-- no cell of the table has a reference
module _ (ls : List Link) (none : (c : ℕ) → 0 < c → c ≤ length ls → refs_of ls c ≡ 0) where
  pub all_unused : (c : ℕ) → refs_of ls c ≡ 0
  all_unused c =
      elim (cases_lt 0 c) [
        | inl p ↦ elim (cases_lt (length ls) c) [
          | inl past ↦ ap refs_in (at_past ls c past)
          | inr i ↦ none c p i
        ]
        | inr z ↦ ap refs_in (at_zero ls c (omega arith))
      ]

  pub none_live_count : live_count ls ≡ 0
  unfolding live_count
  none_live_count = sum_none (length ls) (λ c. one (is_live ls c)) (λ c. life_if_unused ls c (all_unused c))

  none_inlinks : (c : ℕ) → inlinks (is_live ls) ls c ≡ 0
  unfolding inlinks live_points
  none_inlinks c = sum_none (length ls) (λ d. live_points ls d c) (λ d. points_if_unused ls d c (all_unused d))

  pub none_counted : Counted ls []
  none_counted =
      record { counts = λ c p. omega (arith, all_unused c, none_inlinks c); rules = λ c p. absurd (omega (arith, all_unused c)) }

-- an unused cell was written
module _ (ls ms : List Link) (cell l r : ℕ) (w : Wrote ls ms cell l r) (unused : refs_of ls cell ≡ 0) where
  pub same_refs : (c : ℕ) → refs_of ms c ≡ refs_of ls c
  same_refs c =
      elim (cases_eq c cell) [
        | inl e ↦ ap (refs_of ms) e ∙ w.refs ∙ sym unused ∙ ap (refs_of ls) (sym e)
        | inr ne ↦ ap refs_in (w.others c ne)
      ]

  same_live_count : live_count ms ≡ live_count ls
  unfolding live_count
  same_live_count =
      rw w.len (sum_like (length ls) (λ c. one (is_live ms c)) (λ c. one (is_live ls c)) (λ c _ _. rw (same_refs c)))

  same_avail_count : (k : Cursor) → avail_count ms k ≡ avail_count ls k
  unfolding avail_count
  same_avail_count k =
      rw w.len (sum_like (length ls) (λ c. one (eqb (refs_of ms c) 0 && leb (steps (length ls) k.last c) k.left)) (λ c. one (is_available ls k c)) (λ c _ _. rw (same_refs c)))

  same_inlinks : (c : ℕ) → inlinks (is_live ms) ms c ≡ inlinks (is_live ls) ls c
  unfolding inlinks live_points points_to
  same_inlinks c =
      rw w.len
      (sum_like (length ls) (λ d. live_points ms d c) (λ d. live_points ls d c)
      (λ d _ _. elim (cases_eq d cell) [
        | inl e ↦ let z : refs_of ls d ≡ 0 = ap (refs_of ls) e ∙ unused in
            points_if_unused ms d c (same_refs d ∙ z) ∙ sym (points_if_unused ls d c z)
        | inr ne ↦ ap (λ x. cond (ltb 0 (refs_in x)) (one (eqb c (left_in x)) + one (eqb c (right_in x))) 0) (w.others d ne)
      ]))

  -- the rules of a cell that is another one, and links to others
  rules_apart : (c : ℕ) → (c ≡ cell → ⊥) → (left_of ls c ≡ cell → ⊥) → (right_of ls c ≡ cell → ⊥) → CellRules ls c → CellRules ms c
  rules_apart c ne nl nr h =
      let a : at ms (left_of ls c) ≡ at ls (left_of ls c) = w.others (left_of ls c) nl in
      let b : at ms (right_of ls c) ≡ at ls (right_of ls c) = w.others (right_of ls c) nr in
      record {
        levels = rw (w.others c ne, a, b) h.levels;
        left_low = rw (w.others c ne, a, b) h.left_low;
        right_low = rw (w.others c ne, a, b) h.right_low;
        count = rw (w.others c ne, a, b) h.count;
      }

  same_counted : 0 < cell → (rs : List ℕ) → Counted ls rs → Counted ms rs
  same_counted low rs k =
      record {
        counts = λ c p. omega (arith, same_refs c, same_inlinks c, k.counts c p);
        rules = λ c h.
            let live : 0 < refs_of ls c = omega (arith, same_refs c) in
            rules_apart c (λ e. omega (arith, unused, ap (refs_of ls) e))
            (λ e. omega (arith, unused, link_live ls rs k c live to_left (omega arith), ap (refs_of ls) e))
            (λ e. omega (arith, unused, link_live ls rs k c live to_right (omega arith), ap (refs_of ls) e))
            (k.rules c live);
      }

  still_stands : (n : ℕ) (t : Tree ℕ) → (Among cell t → ⊥) → Stands ls n t → Stands ms n t
  still_stands n t apart s =
      stays ls ms n t (omega (arith, w.len))
      (λ c a. shape_same (at ls c) (at ms c) (w.others c (λ e. apart (subst (λ (x : ℕ). Among x t) e a)))) s

  pub built : 0 < cell → cell ≤ length ls → Built ls ms cell l r
  built low high =
      record {
        live_cells = same_live_count;
        avail_cells = same_avail_count;
        counted = same_counted low;
        stays = still_stands;
        stands = λ a b na nb sa sb. record {
          here = refl;
          low = low;
          high = omega (arith, w.len);
          levels_are = omega (arith, w.levels, levels_told ls l a sa, levels_told ls r b sb);
          count_is = omega (arith, w.count, count_told ls l a sa, count_told ls r b sb);
          left = rw w.left (still_stands l a na sa);
          right = rw w.right (still_stands r b nb sb);
        };
      }
