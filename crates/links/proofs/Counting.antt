-- The counting invariant before and after one write of a count.
use Rattle.std.proofs.Common.{◌≡◌, ℕ, ◌+◌, ◌*◌, ◌<◌, ◌≤◌, cond, eqb, ltb, List, [], ◌∷◌, length, refl, ap, ◌∙◌, inl, inr, arith}
use Rattle.std.proofs.lemmas.Bool.{cases_eq, cases_lt, lt-ltb, le-ltb, cond-true, cond-false}
use Rattle.links.specs.declared.link.Link.{Link}
use Rattle.links.specs.Fields.{left_in, right_in, refs_in}
use Rattle.links.specs.Cells.{left_of, right_of, levels_of, refs_of, Side, to_left, to_right, link_of, Kept, Put}
use Rattle.links.specs.Counted.{one, occurs, points_to, inlinks, is_live, live_count, CellRules, Counted}
use Rattle.links.proofs.Sums.{one_yes, one_no, one_small, sum_but, sum_least, sum_most}
use Rattle.links.proofs.Standing.{same_yes, same_no}
use Rattle.links.proofs.Tables.{live_low, live_high}

-- the links to c of one cell, if it is live
unfoldable pub live_points : List Link → ℕ → ℕ → ℕ
live_points ls d c = cond (is_live ls d) (points_to ls d c) 0

pub points_if_live : (ls : List Link) (d c : ℕ) → 0 < refs_of ls d → live_points ls d c ≡ points_to ls d c
unfolding live_points
points_if_live ls d c h = cond-true (is_live ls d) (points_to ls d c) 0 (lt-ltb 0 (refs_of ls d) h)

pub points_if_unused : (ls : List Link) (d c : ℕ) → refs_of ls d ≡ 0 → live_points ls d c ≡ 0
unfolding live_points
points_if_unused ls d c h = cond-false (is_live ls d) (points_to ls d c) 0 (le-ltb 0 (refs_of ls d) (omega arith))

pub life_if_live : (ls : List Link) (c : ℕ) → 0 < refs_of ls c → one (is_live ls c) ≡ 1
life_if_live ls c h = one_yes (is_live ls c) (lt-ltb 0 (refs_of ls c) h)

pub life_if_unused : (ls : List Link) (c : ℕ) → refs_of ls c ≡ 0 → one (is_live ls c) ≡ 0
life_if_unused ls c h = one_no (is_live ls c) (le-ltb 0 (refs_of ls c) (omega arith))

-- a record that stays gives what it gave
pub points_same : (ls ms : List Link) (d c : ℕ) → left_of ms d ≡ left_of ls d → right_of ms d ≡ right_of ls d → points_to ms d c ≡ points_to ls d c
unfolding points_to
points_same ls ms d c l r = rw (l, r)

pub points_are : (ls : List Link) (d c : ℕ) → points_to ls d c ≡ one (eqb c (left_of ls d)) + one (eqb c (right_of ls d))
unfolding points_to
points_are ls d c = refl

pub live_count_small : (ls : List Link) → live_count ls ≤ length ls
unfolding live_count
live_count_small ls = omega (arith, sum_most 1 (length ls) (λ c. one (is_live ls c)) (λ c _ _. one_small (is_live ls c)))

pub inlinks_least : (ls : List Link) (d c : ℕ) → 0 < refs_of ls d → points_to ls d c ≤ inlinks (is_live ls) ls c
unfolding inlinks live_points
inlinks_least ls d c h =
    omega (arith, points_if_live ls d c h, sum_least (length ls) (λ e. live_points ls e c) d (live_low ls d h) (live_high ls d h))

points_small : (ls : List Link) (d c : ℕ) → points_to ls d c ≤ 2
points_small ls d c = omega (arith, points_are ls d c, one_small (eqb c (left_of ls d)), one_small (eqb c (right_of ls d)))

live_points_small : (ls : List Link) (d c : ℕ) → live_points ls d c ≤ 2
live_points_small ls d c =
    elim (cases_lt 0 (refs_of ls d)) [
      | inl h ↦ omega (arith, points_if_live ls d c h, points_small ls d c)
      | inr z ↦ omega (arith, points_if_unused ls d c (omega arith))
    ]

occurs_small : (c : ℕ) (rs : List ℕ) → occurs c rs ≤ length rs
occurs_small c [] = omega arith
occurs_small c (r ∷ rs) = omega (arith, occurs_small c rs, one_small (eqb c r))

-- so a count is never large
pub refs_small : (ls : List Link) (rs : List ℕ) → Counted ls rs → (c : ℕ) → 0 < c → refs_of ls c ≤ length rs + 2 * length ls
unfolding inlinks live_points
refs_small ls rs k c p =
    omega (arith, k.counts c p, occurs_small c rs, sum_most 2 (length ls) (λ d. live_points ls d c) (λ d _ _. live_points_small ls d c))

-- what is held from outside is live
pub outside_live : (ls : List Link) (rs : List ℕ) → Counted ls rs → (c : ℕ) → 0 < c → 0 < occurs c rs → 0 < refs_of ls c
outside_live ls rs k c p o = omega (arith, k.counts c p)

pub held_live : (ls : List Link) (rs : List ℕ) (c : ℕ) → 0 < c → Counted ls (c ∷ rs) → 0 < refs_of ls c
held_live ls rs c p k = outside_live ls (c ∷ rs) k c p (omega (arith, same_yes c c refl))

points_link : (ls : List Link) (d : ℕ) (s : Side) → 0 < points_to ls d (link_of s ls d)
points_link ls d to_left = omega (arith, points_are ls d (left_of ls d), same_yes (left_of ls d) (left_of ls d) refl)
points_link ls d to_right = omega (arith, points_are ls d (right_of ls d), same_yes (right_of ls d) (right_of ls d) refl)

-- what a live cell links to is live
pub link_live : (ls : List Link) (rs : List ℕ) → Counted ls rs → (d : ℕ) → 0 < refs_of ls d → (s : Side) → 0 < link_of s ls d → 0 < refs_of ls (link_of s ls d)
link_live ls rs k d h s p =
    omega (arith, k.counts (link_of s ls d) p, inlinks_least ls d (link_of s ls d) h, points_link ls d s)

-- and lies lower
pub link_lower : (ls : List Link) (c : ℕ) → CellRules ls c → (s : Side) → levels_of ls (link_of s ls c) < levels_of ls c
link_lower ls c r to_left = omega (arith, r.levels)
link_lower ls c r to_right = omega (arith, r.levels)

pub link_kept : (ls ms : List Link) → Kept ls ms → (s : Side) (d : ℕ) → link_of s ms d ≡ link_of s ls d
link_kept ls ms k to_left d = (k.shape d).left
link_kept ls ms k to_right d = (k.shape d).right

-- the rules of a cell speak of shapes alone
pub rules_kept : (ls ms : List Link) → Kept ls ms → (c : ℕ) → CellRules ls c → CellRules ms c
rules_kept ls ms k c h =
    let same = k.shape c in
    let l = k.shape (left_of ls c) in
    let r = k.shape (right_of ls c) in
    record {
      levels = rw (same.left, same.right) (omega (arith, h.levels));
      left_low = rw (same.left, same.right) (omega (arith, h.left_low));
      right_low = rw (same.left, same.right) (omega (arith, h.right_low));
      count = rw (same.left, same.right) (omega (arith, h.count));
    }

-- The count of one cell was written.
module _ (ls ms : List Link) (cell n : ℕ) (low : 0 < cell) (high : cell ≤ length ls) (put : Put ls ms cell n) where
  live_count_put : live_count ms + one (is_live ls cell) ≡ live_count ls + one (is_live ms cell)
  unfolding live_count
  live_count_put =
      rw put.kept.len
      (sum_but (length ls) (λ c. one (is_live ms c)) (λ c. one (is_live ls c)) cell low high (λ c _ _ ne. ap (λ r. one (ltb 0 (refs_in r))) (put.others c ne)))

  inlinks-put : (c : ℕ) → inlinks (is_live ms) ms c + live_points ls cell c ≡ inlinks (is_live ls) ls c + live_points ms cell c
  unfolding inlinks live_points points_to
  inlinks-put c =
      rw put.kept.len
      (sum_but (length ls) (λ d. live_points ms d c) (λ d. live_points ls d c) cell low high
      (λ d _ _ ne. ap (λ r. cond (ltb 0 (refs_in r)) (one (eqb c (left_in r)) + one (eqb c (right_in r))) 0) (put.others d ne)))

  pub refs_put : (c : ℕ) → c ≡ cell → refs_of ms c ≡ n
  refs_put c e = ap (refs_of ms) e ∙ put.here

  pub refs_other : (c : ℕ) → (c ≡ cell → ⊥) → refs_of ms c ≡ refs_of ls c
  refs_other c ne = ap refs_in (put.others c ne)

  same_points : (c : ℕ) → points_to ms cell c ≡ points_to ls cell c
  same_points c = points_same ls ms cell c (put.kept.shape cell).left (put.kept.shape cell).right

  -- the invariant goes from rs to ss where the write and the links that it brings or takes away make up for the difference
  module _ (rs ss : List ℕ) (k : Counted ls rs) (rules : 0 < n → CellRules ls cell)
      (here : occurs cell ss + live_points ms cell cell + refs_of ls cell ≡ occurs cell rs + live_points ls cell cell + n)
      (others : (c : ℕ) → (c ≡ cell → ⊥) → occurs c ss + live_points ms cell c ≡ occurs c rs + live_points ls cell c) where
    recounted : Counted ms ss
    recounted =
        record {
          counts = λ c p. elim (cases_eq c cell) [
            | inl e ↦ rw e (omega (arith, put.here, inlinks-put cell, k.counts cell low, here))
            | inr ne ↦ omega (arith, refs_other c ne, inlinks-put c, k.counts c p, others c ne)
          ];
          rules = λ c p. rules_kept ls ms put.kept c
              (elim (cases_eq c cell) [
                | inl e ↦ rw e (rules (omega (arith, refs_put c e)))
                | inr ne ↦ k.rules c (omega (arith, refs_other c ne))
              ]);
        }

  -- a live cell that stays live has the links that it had
  module _ (was : 0 < refs_of ls cell) (is : 0 < n) where
    live_points_lem : (c : ℕ) → live_points ms cell c ≡ live_points ls cell c
    live_points_lem c = omega (arith, points_if_live ls cell c was, points_if_live ms cell c (omega (arith, put.here)), same_points c)

    pub still_live_count : live_count ms ≡ live_count ls
    still_live_count = omega (arith, live_count_put, life_if_live ls cell was, life_if_live ms cell (omega (arith, put.here)))

    pub fewer : (rs : List ℕ) → n + 1 ≡ refs_of ls cell → Counted ls (cell ∷ rs) → Counted ms rs
    fewer rs w k =
        recounted (cell ∷ rs) rs k (λ _. k.rules cell was) (omega (arith, live_points_lem cell, same_yes cell cell refl))
        (λ c ne. omega (arith, live_points_lem c, same_no c cell ne))

    pub more : (rs : List ℕ) → n ≡ refs_of ls cell + 1 → Counted ls rs → Counted ms (cell ∷ rs)
    more rs w k =
        recounted rs (cell ∷ rs) k (λ _. k.rules cell was) (omega (arith, live_points_lem cell, same_yes cell cell refl))
        (λ c ne. omega (arith, live_points_lem c, same_no c cell ne))

  -- a cell whose last reference goes counts for its two links no more
  module _ (was : refs_of ls cell ≡ 1) (is : n ≡ 0) where
    pub one_less : live_count ms + 1 ≡ live_count ls
    one_less = omega (arith, live_count_put, life_if_live ls cell (omega arith), life_if_unused ms cell (put.here ∙ is))

    handed : (c : ℕ) → (live_points ms cell c ≡ 0) × (live_points ls cell c ≡ one (eqb c (left_of ls cell)) + one (eqb c (right_of ls cell)))
    handed c = (points_if_unused ms cell c (put.here ∙ is), points_if_live ls cell c (omega arith) ∙ points_are ls cell c)

    pub unlinked : (rs : List ℕ) → Counted ls (cell ∷ rs) → Counted ms (left_of ls cell ∷ right_of ls cell ∷ rs)
    unlinked rs k =
        recounted (cell ∷ rs) (left_of ls cell ∷ right_of ls cell ∷ rs) k (λ p. absurd (omega arith))
        (omega (arith, (handed cell).0, (handed cell).1, same_yes cell cell refl))
        (λ c ne. omega (arith, (handed c).0, (handed c).1, same_no c cell ne))

  -- a cell that becomes live counts for its two links
  module _ (was : refs_of ls cell ≡ 0) (is : n ≡ 1) where
    pub one_more : live_count ms ≡ live_count ls + 1
    one_more = omega (arith, live_count_put, life_if_unused ls cell was, life_if_live ms cell (omega (arith, put.here)))

    taken_over : (c : ℕ) → (live_points ls cell c ≡ 0) × (live_points ms cell c ≡ one (eqb c (left_of ls cell)) + one (eqb c (right_of ls cell)))
    taken_over c =
        (points_if_unused ls cell c was, points_if_live ms cell c (omega (arith, put.here)) ∙ same_points c ∙ points_are ls cell c)

    pub linked : (rs : List ℕ) → CellRules ls cell → Counted ls (right_of ls cell ∷ left_of ls cell ∷ rs) → Counted ms (cell ∷ rs)
    linked rs rules k =
        recounted (right_of ls cell ∷ left_of ls cell ∷ rs) (cell ∷ rs) k (λ _. rules)
        (omega (arith, (taken_over cell).0, (taken_over cell).1, same_yes cell cell refl))
        (λ c ne. omega (arith, (taken_over c).0, (taken_over c).1, same_no c cell ne))

-- link 0 counts for nothing
pub none_less : (ls : List Link) (rs : List ℕ) (c : ℕ) → c ≡ 0 → Counted ls (c ∷ rs) → Counted ls rs
none_less ls rs c e k = record { counts = λ d p. omega (arith, k.counts d p, same_no d c (λ z. omega arith)); rules = k.rules }

pub none_more : (ls : List Link) (rs : List ℕ) (c : ℕ) → c ≡ 0 → Counted ls rs → Counted ls (c ∷ rs)
none_more ls rs c e k = record { counts = λ d p. omega (arith, k.counts d p, same_no d c (λ z. omega arith)); rules = k.rules }
