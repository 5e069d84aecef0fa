-- Up the levels from a live cell to an outside reference, down again, and the tree that stands at a live cell.
use Rattle.std.proofs.Common.{◌≡◌, ℕ, zero, suc, ◌+◌, ◌<◌, ◌≤◌, Bool, true, cond, ◌⊎◌, List, length, sym, refl, ap, ◌∙◌, subst, inl, inr, arith}
use Rattle.std.proofs.lemmas.Bool.{cases_eq, cases_lt, cases_Bool, lt-ltb, ltb-true, both_ways}
use Rattle.links.specs.declared.link.Link.{Link}
use Rattle.links.specs.Fields.{refs_in}
use Rattle.links.specs.Cells.{left_of, right_of, levels_of, refs_of, Side, to_left, to_right, link_of, Kept, sum_to}
use Rattle.links.specs.Counted.{occurs, points_to, inlinks, is_live, Counted}
use Rattle.links.specs.Reach.{Reaches, from_outside, by_link, Tells, LiveIsReached}
use Rattle.links.specs.Stands.{Stands, Among}
use Rattle.links.specs.Trees.{Tree, tip, fork, Balanced}
use Rattle.links.proofs.Counting.{live_points, points_if_live, points_if_unused, points_are, points_same, outside_live, link_kept, link_live, link_lower}
use Rattle.links.proofs.Standing.{same_no, among_cases, unique, levels_told, count_told}
use Rattle.links.proofs.Sums.{sum_like, sum_least, sum_some}
use Rattle.links.proofs.Tables.{at_zero, live_low, live_high, kept_refl, kept_sym}

-- a live cell with a link to c
record Parent (ls : List Link) (c : ℕ) : Type 0 where
  cell : ℕ
  live : 0 < refs_of ls cell
  side : Side
  is : link_of side ls cell ≡ c

parent : (ls : List Link) (c : ℕ) → 0 < inlinks (is_live ls) ls c → Parent ls c
unfolding inlinks live_points
parent ls c h =
    let s = sum_some (length ls) (λ d. live_points ls d c) h in
    let d : ℕ = s.cell in
    let live : 0 < refs_of ls d =
    elim (cases_lt 0 (refs_of ls d)) [ inl p ↦ p | inr z ↦ absurd (omega (arith, s.some, points_if_unused ls d c (omega arith))) ] in
    elim (cases_eq c (left_of ls d)) [
      | inl e ↦ record { cell = d; live = live; side = to_left; is = sym e }
      | inr nl ↦ elim (cases_eq c (right_of ls d)) [
        | inl e ↦ record { cell = d; live = live; side = to_right; is = sym e }
        | inr nr ↦ absurd (omega (arith, s.some, points_if_live ls d c live, points_are ls d c, same_no c (left_of ls d) nl, same_no c (right_of ls d) nr))
      ]
    ]

-- two tests that say yes together are one
tests_same : (a b : Bool) → (a ≡ true → b ≡ true) → (b ≡ true → a ≡ true) → a ≡ b
tests_same a b f g =
    elim (cases_Bool a) [
      | inl e ↦ e ∙ sym (f e)
      | inr e ↦ elim (cases_Bool b) [ inl h ↦ absurd (both_ways a e (g h)) | inr h ↦ e ∙ sym h ]
    ]

inlinks_same : (ls ms : List Link) (p q : ℕ → Bool) → Kept ls ms → ((d : ℕ) → p d ≡ q d) → (c : ℕ) → inlinks p ms c ≡ inlinks q ls c
unfolding inlinks
inlinks_same ls ms p q k h c =
    rw k.len
    (sum_like (length ls) (λ d. cond (p d) (points_to ms d c) 0) (λ d. cond (q d) (points_to ls d c) 0)
    (λ d _ _. rw (h d, points_same ls ms d c (k.shape d).left (k.shape d).right)))

reach_kept : (ls ms : List Link) (rs : List ℕ) → Kept ls ms → (c : ℕ) → Reaches ls rs c → Reaches ms rs c
reach_kept ls ms rs k c (from_outside p o) = from_outside p o
reach_kept ls ms rs k c (by_link {d = d} s r p) =
    let e = link_kept ls ms k s d in
    subst (λ (x : ℕ). Reaches ms rs x) e (by_link s (reach_kept ls ms rs k d r) (omega arith))

-- the tree at a link, all of live cells
pub record LiveTree (ls : List Link) (c : ℕ) : Type 0 where
  pub tree : Tree ℕ
  pub stands : Stands ls c tree
  pub balanced : Balanced tree
  pub live : (d : ℕ) → Among d tree → 0 < refs_of ls d

module _ (ls : List Link) (rs : List ℕ) (k : Counted ls rs) where
  -- no live cell has more levels than all cells together
  top : ℕ
  top = sum_to (length ls) (levels_of ls)

  below_top : (c : ℕ) → 0 < refs_of ls c → levels_of ls c ≤ top
  unfolding top
  below_top c h = sum_least (length ls) (levels_of ls) c (live_low ls c h) (live_high ls c h)

  climb : (fuel c : ℕ) → top < levels_of ls c + fuel → 0 < refs_of ls c → Reaches ls rs c
  climb zero c f h = absurd (omega (arith, below_top c h))
  climb (suc fuel) c f h =
      elim (cases_lt 0 (occurs c rs)) [
        | inl o ↦ from_outside (live_low ls c h) o
        | inr z ↦
            let low = live_low ls c h in
            let p = parent ls c (omega (arith, k.counts c low)) in
            let lower = link_lower ls p.cell (k.rules p.cell p.live) p.side in
            let up : levels_of ls c < levels_of ls p.cell = rw p.is at lower in
            subst (λ (x : ℕ). Reaches ls rs x) p.is
            (by_link p.side (climb fuel p.cell (omega arith) p.live) (omega (arith, p.is)))
      ]

  live_reached : (c : ℕ) → 0 < refs_of ls c → Reaches ls rs c
  live_reached c h = climb (suc top) c (omega arith) h

  pub reached_live : (c : ℕ) → Reaches ls rs c → 0 < refs_of ls c
  reached_live c (from_outside p o) = outside_live ls rs k c p o
  reached_live c (by_link {d = d} s r p) = link_live ls rs k d (reached_live d r) s p

  live_tells : Tells (is_live ls) (Reaches ls rs)
  live_tells c = (λ e. live_reached c (ltb-true 0 (refs_of ls c) e), λ r. lt-ltb 0 (refs_of ls c) (reached_live c r))

  by_any_test : (p : ℕ → Bool) → Tells p (Reaches ls rs) → (c : ℕ) → 0 < c → refs_of ls c ≡ occurs c rs + inlinks p ls c
  by_any_test p t c low =
      omega (
        arith,
        k.counts c low,
        inlinks_same ls ls p (is_live ls) (kept_refl ls) (λ d. tests_same (p d) (is_live ls d) (λ e. (live_tells d).1 ((t d).0 e)) (λ e. (t d).1 ((live_tells d).0 e))) c,
      )

  -- the tree at link 0 or at a live cell
  rooted : (h c : ℕ) → levels_of ls c ≤ h → (c ≡ 0) ⊎ (0 < refs_of ls c) → LiveTree ls c
  rooted h c low (inl z) = record { tree = tip; stands = z; balanced = tt; live = λ d a. absurd (omega arith) }
  rooted zero c low (inr live) = absurd (omega (arith, (k.rules c live).levels))
  rooted (suc h) c low (inr live) =
      let rules = k.rules c live in
      let below : (s : Side) → LiveTree ls (link_of s ls c) = λ s.
      let less = link_lower ls c rules s in
      rooted h (link_of s ls c) (omega arith)
      (elim (cases_lt 0 (link_of s ls c)) [ inl p ↦ inr (link_live ls rs k c live s p) | inr z ↦ inl (omega arith) ]) in
      let l = below to_left in
      let r = below to_right in
      let left_levels = levels_told ls (left_of ls c) l.tree l.stands in
      let right_levels = levels_told ls (right_of ls c) r.tree r.stands in
      record {
        tree = fork c l.tree r.tree;
        stands = record {
          here = refl;
          low = live_low ls c live;
          high = live_high ls c live;
          levels_are = omega (arith, rules.levels);
          count_is = omega (arith, rules.count, count_told ls (left_of ls c) l.tree l.stands, count_told ls (right_of ls c) r.tree r.stands);
          left = l.stands;
          right = r.stands;
        };
        balanced = record {
          left = l.balanced;
          right = r.balanced;
          left_low = omega (arith, rules.left_low);
          right_low = omega (arith, rules.right_low);
        };
        live = λ d a. elim (among_cases c l.tree r.tree d a) [
          | inl e ↦ rw e live
          | inr (inl i) ↦ l.live d i
          | inr (inr i) ↦ r.live d i
        ];
      }

  pub live_tree : (c : ℕ) → 0 < refs_of ls c → LiveTree ls c
  live_tree c live = rooted (levels_of ls c) c (omega arith) (inr live)

pub live_is_reached : LiveIsReached
live_is_reached ls rs k =
    record {
      live_reached = live_reached ls rs k;
      reached_live = reached_live ls rs k;
      test = (is_live ls, live_tells ls rs k);
      counts = by_any_test ls rs k;
      only = λ ms kept j c. elim (cases_lt 0 c) [
        | inl low ↦ omega (
          arith,
          k.counts c low,
          j.counts c low,
          inlinks_same ls ms (is_live ms) (is_live ls) kept
              (λ d. tests_same (is_live ms d) (is_live ls d)
              (λ e. (live_tells ls rs k d).1 (reach_kept ms ls rs (kept_sym ls ms kept) d ((live_tells ms rs j d).0 e)))
              (λ e. (live_tells ms rs j d).1 (reach_kept ls ms rs kept d ((live_tells ls rs k d).0 e))))
              c,
        )
        | inr z ↦ let e : c ≡ 0 = omega arith in ap refs_in (at_zero ms c e) ∙ sym (ap refs_in (at_zero ls c e))
      ];
      order_free = λ ss same. record { counts = λ c p. omega (arith, k.counts c p, same c p); rules = k.rules };
      trees = λ c r. let t = live_tree ls rs k c (reached_live ls rs k c r) in record { tree = t.tree; stands = t.stands; balanced = t.balanced };
      live_trees = λ c r t s d a.
          let u = live_tree ls rs k c (reached_live ls rs k c r) in
          u.live d (rw (unique ls c t u.tree s u.stands) at a);
    }
