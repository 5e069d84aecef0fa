-- The steps of adopt and release.
use Rattle.std.proofs.Common.{◌≡◌, ℕ, ◌+◌, ◌-◌, ◌<◌, ◌≤◌, true, false, List, ◌∷◌, length, sym, refl, ap, ◌∙◌, subst, inl, inr, arith}
use Rattle.std.proofs.lemmas.Bool.{cases_eq, cases_lt, ltb-true, ltb-false}
use Rattle.links.specs.declared.link.Link.{Link}
use Rattle.links.specs.declared.ring.Cursor.{Cursor}
use Rattle.links.specs.Fields.{left_in, right_in, refs_in}
use Rattle.links.specs.Cells.{at, left_of, right_of, levels_of, refs_of, Side, to_left, to_right, link_of, Kept, Put, sum_to}
use Rattle.links.specs.Counted.{one, occurs, is_live, CellRules, Counted}
use Rattle.links.specs.Changes.{Adopted, Released}
use Rattle.links.specs.Ring.{Available, is_available, avail_count}
use Rattle.links.specs.Stands.{Stands, Among, BalancedAt}
use Rattle.links.specs.Trees.{Tree, fork, inorder, Balanced}
use Rattle.links.proofs.Counting.{live_count_small, held_live, link_lower, rules_kept, refs_put, refs_other, still_live_count, fewer, more, one_less, unlinked, one_more, linked, none_less, none_more}
use Rattle.links.proofs.Reaching.{live_is_reached}
use Rattle.links.proofs.Rings.{alike, carried}
use Rattle.links.proofs.Standing.{unique, stays_kept, among_root, among_left, among_right, among_levels, Sides, sides, side_levels, root_rules}
use Rattle.links.proofs.Sums.{sum_like}
use Rattle.links.proofs.Tables.{at_zero, kept_refl, kept_trans}

none_refs : (ls : List Link) (c : ℕ) → c ≡ 0 → refs_of ls c ≡ 0
none_refs ls c z = ap refs_in (at_zero ls c z)

module _ (ls : List Link) (c : ℕ) (t : Tree ℕ) (p : Sides ls c t) where
  -- the root stands in neither side
  not_left : Among c p.left → ⊥
  not_left a = omega (arith, among_levels ls (left_of ls c) p.left p.stands.left c a, p.stands.levels_are)

  not_right : Among c p.right → ⊥
  not_right a = omega (arith, among_levels ls (right_of ls c) p.right p.stands.right c a, p.stands.levels_are)

  -- outside the tree lies what is neither its root nor in a side
  module _ (d : ℕ) (out : Among d t → ⊥) where
    not_whole : Among d (fork c p.left p.right) → ⊥
    not_whole = rw p.is at out

    out_root : d ≡ c → ⊥
    out_root e = not_whole (rw e (among_root c p.left p.right))

    out_left : Among d p.left → ⊥
    out_left a = not_whole (among_left c p.left p.right d a)

    out_right : Among d p.right → ⊥
    out_right a = not_whole (among_right c p.left p.right d a)

-- Release.

pub released_none : (ls : List Link) (root : ℕ) → root ≡ 0 → Released ls ls root 0
released_none ls root z =
    record {
      kept = kept_refl ls;
      live_cells = omega arith;
      few = live_count_small ls;
      counted = λ rs. none_less ls rs root z;
      exact = λ rs k. live_is_reached ls rs (none_less ls rs root z k);
      down = λ c. omega arith;
      outside = λ t s c out. refl;
      held = λ h. absurd (omega (arith, none_refs ls root z));
    }

module _ (ls ms : List Link) (cell n : ℕ) (low : 0 < cell) (high : cell ≤ length ls) (put : Put ls ms cell n) where
  put_down : n ≤ refs_of ls cell → (c : ℕ) → refs_of ms c ≤ refs_of ls c
  put_down h c =
      elim (cases_eq c cell) [
        | inl e ↦ omega (arith, refs_put ls ms cell n low high put c e, ap (refs_of ls) e)
        | inr ne ↦ omega (arith, refs_other ls ms cell n low high put c ne)
      ]

  put_up : refs_of ls cell ≤ n → (c : ℕ) → refs_of ls c ≤ refs_of ms c
  put_up h c =
      elim (cases_eq c cell) [
        | inl e ↦ omega (arith, refs_put ls ms cell n low high put c e, ap (refs_of ls) e)
        | inr ne ↦ omega (arith, refs_other ls ms cell n low high put c ne)
      ]

  put_outside : (t : Tree ℕ) → Stands ls cell t → (c : ℕ) → (Among c t → ⊥) → refs_of ms c ≡ refs_of ls c
  put_outside t s c out = refs_other ls ms cell n low high put c (out_root ls cell t (sides ls cell t low s) c out)

-- another holder is left
pub released_held : (ls ms : List Link) (cell : ℕ) → 0 < cell → cell ≤ length ls → Put ls ms cell (refs_of ls cell - 1) → is_live ms cell ≡ true → Released ls ms cell 0
released_held ls ms cell low high put held =
    let n : ℕ = refs_of ls cell - 1 in
    let is : 0 < n = omega (arith, put.here, ltb-true 0 (refs_of ms cell) held) in
    record {
      kept = put.kept;
      live_cells = omega (arith, still_live_count ls ms cell n low high put (omega arith) is);
      few = live_count_small ls;
      counted = λ rs. fewer ls ms cell n low high put (omega arith) is rs (omega arith);
      exact = λ rs k. live_is_reached ms rs (fewer ls ms cell n low high put (omega arith) is rs (omega arith) k);
      down = put_down ls ms cell n low high put (omega arith);
      outside = put_outside ls ms cell n low high put;
      held = λ h. (put, refl);
    }

-- the last reference to a cell went; l and r are its links
pub record Last (ls ms : List Link) (cell l r : ℕ) : Type 0 where
  pub low : 0 < cell
  pub high : cell ≤ length ls
  pub put : Put ls ms cell 0
  pub was : refs_of ls cell ≡ 1
  pub rules : CellRules ls cell
  pub left_is : l ≡ left_of ls cell
  pub right_is : r ≡ right_of ls cell

pub last : (ls ms : List Link) (cell : ℕ) → 0 < cell → cell ≤ length ls → Put ls ms cell (refs_of ls cell - 1) → is_live ms cell ≡ false → ((rs : List ℕ) × Counted ls (cell ∷ rs))
    → (k : Link) → k ≡ at ls cell → (l r : ℕ) → l ≡ left_in k → r ≡ right_in k → Last ls ms cell l r
last ls ms cell low high put none (rs, held) k here l r l_is r_is =
    let live = held_live ls rs cell low held in
    let was : refs_of ls cell ≡ 1 = omega (arith, live, put.here, ltb-false 0 (refs_of ms cell) none) in
    let zero_left : refs_of ls cell - 1 ≡ 0 = omega arith in
    record {
      low = low;
      high = high;
      put = rw zero_left at put;
      was = was;
      rules = held.rules cell live;
      left_is = l_is ∙ ap left_in here;
      right_is = r_is ∙ ap right_in here;
    }

-- The two links are held in the cell's place. ns is the table once l is released, os once r is too.
module _ (ls ms : List Link) (cell l r : ℕ) (p : Last ls ms cell l r) where
  pub handed : (rs : List ℕ) → Counted ls (cell ∷ rs) → Counted ms (l ∷ r ∷ rs)
  handed rs k = rw (p.left_is, p.right_is) (unlinked ls ms cell 0 p.low p.high p.put p.was refl rs k)

  link_falls : (s : Side) → levels_of ms (link_of s ls cell) < levels_of ls cell
  link_falls s = rw (p.put.kept.shape (link_of s ls cell)).levels (link_lower ls cell p.rules s)

  pub left_falls : levels_of ms l < levels_of ls cell
  left_falls = rw p.left_is (link_falls to_left)

  module _ (ns : List Link) (freed : ℕ) (first : Released ms ns l freed) where
    pub right_falls : levels_of ns r < levels_of ls cell
    right_falls = rw ((first.kept.shape r).levels, p.right_is) (link_falls to_right)

    both_kept : Kept ls ns
    both_kept = kept_trans ls ms ns p.put.kept first.kept

    pub released_last : (os : List Link) (also : ℕ) → Released ns os r also → Released ls os cell (1 + freed + also)
    released_last os also second =
        record {
          kept = kept_trans ls ns os both_kept second.kept;
          live_cells = omega (arith, one_less ls ms cell 0 p.low p.high p.put p.was refl, first.live_cells, second.live_cells);
          few = live_count_small ls;
          counted = λ rs k. second.counted rs (first.counted (r ∷ rs) (handed rs k));
          exact = λ rs k. second.exact rs (first.counted (r ∷ rs) (handed rs k));
          down = λ c. omega (arith, put_down ls ms cell 0 p.low p.high p.put (omega arith) c, first.down c, second.down c);
          outside = λ t s c out.
              let o = sides ls cell t p.low s in
              let left : Stands ms l o.left = rw p.left_is (stays_kept ls ms p.put.kept (left_of ls cell) o.left o.stands.left) in
              let right : Stands ns r o.right = rw p.right_is (stays_kept ls ns both_kept (right_of ls cell) o.right o.stands.right) in
              second.outside o.right right c (out_right ls cell t o c out)
              ∙ first.outside o.left left c (out_left ls cell t o c out)
              ∙ put_outside ls ms cell 0 p.low p.high p.put t s c out;
          held = λ h. absurd (omega (arith, p.was));
        }

-- Adopt.

-- what a tree does not use stays available
avail_count_kept : (ls ms : List Link) → Kept ls ms → ((c : ℕ) → refs_of ls c ≤ refs_of ms c) → (t : Tree ℕ) → ((c : ℕ) → (Among c t → ⊥) → refs_of ms c ≡ refs_of ls c)
    → (k : Cursor) → ((c : ℕ) → Among c t → Available ls k c → ⊥) → avail_count ms k ≡ avail_count ls k
unfolding avail_count
avail_count_kept ls ms kept up t out k apart =
    let len : length ms ≡ length ls = kept.len in
    ap (λ n. sum_to n (λ c. one (is_available ms k c))) len
    ∙ sum_like (length ls) (λ c. one (is_available ms k c)) (λ c. one (is_available ls k c))
    (λ c p q. alike ms ls k k c p (omega arith) q
    (λ a. carried ms ls k c (sym len) (omega (arith, up c, a.unused.refs)) a)
    (λ a. carried ls ms k c len (elim (cases_lt 0 (occurs c (inorder t))) [ inl i ↦ absurd (apart c i a) | inr z ↦ out c (λ i. omega arith) ∙ a.unused.refs ]) a))

pub adopted_none : (ls : List Link) (root : ℕ) → root ≡ 0 → Adopted ls ls root 0
adopted_none ls root z =
    record {
      kept = kept_refl ls;
      live_cells = omega arith;
      few = live_count_small ls;
      counted = λ rs. none_more ls rs root z;
      exact = λ rs k. live_is_reached ls (root ∷ rs) (none_more ls rs root z k);
      up = λ c. omega arith;
      outside = λ t s c out. refl;
      avail_cells = λ k t s apart. refl;
      live = λ h. absurd (omega (arith, none_refs ls root z));
    }

-- a live root
pub adopted_live : (ls ms : List Link) (cell : ℕ) → 0 < cell → cell ≤ length ls → Put ls ms cell (refs_of ls cell + 1) → 0 < refs_of ls cell → Adopted ls ms cell 0
adopted_live ls ms cell low high put was =
    let n : ℕ = refs_of ls cell + 1 in
    let up = put_up ls ms cell n low high put (omega arith) in
    record {
      kept = put.kept;
      live_cells = omega (arith, still_live_count ls ms cell n low high put was (omega arith));
      few = live_count_small ms;
      counted = λ rs. more ls ms cell n low high put was (omega arith) rs refl;
      exact = λ rs k. live_is_reached ms (cell ∷ rs) (more ls ms cell n low high put was (omega arith) rs refl k);
      up = up;
      outside = put_outside ls ms cell n low high put;
      avail_cells = λ k t s. avail_count_kept ls ms put.kept up t (put_outside ls ms cell n low high put t s) k;
      live = λ h. (put, refl);
    }

-- an unused root; l and r are its links
pub record Fresh (ls : List Link) (cell l r : ℕ) : Type 0 where
  pub low : 0 < cell
  pub tree : BalancedAt ls cell
  pub unused : refs_of ls cell ≡ 0
  pub left_is : l ≡ left_of ls cell
  pub right_is : r ≡ right_of ls cell

pub fresh : (ls : List Link) (cell : ℕ) → 0 < cell → BalancedAt ls cell → (k : Link) → k ≡ at ls cell → refs_in k ≤ 0 → (l r : ℕ) → l ≡ left_in k → r ≡ right_in k → Fresh ls cell l r
fresh ls cell low tree k here none l r l_is r_is =
    record { low = low; tree = tree; unused = omega (arith, ap refs_in here); left_is = l_is ∙ ap left_in here; right_is = r_is ∙ ap right_in here }

-- ms is the table once l is adopted, ns once r is too, os once the root is written
module _ (ls : List Link) (cell l r : ℕ) (p : Fresh ls cell l r) where
  own : Sides ls cell p.tree.tree
  own = sides ls cell p.tree.tree p.low p.tree.stands

  level : Balanced (fork cell own.left own.right)
  level = rw own.is at p.tree.balanced

  left_stands : Stands ls l own.left
  left_stands = subst (λ (x : ℕ). Stands ls x own.left) (sym p.left_is) own.stands.left

  pub left_tree : BalancedAt ls l
  left_tree =
      record {
        tree = own.left;
        stands = left_stands;
        balanced = level.left;
      }

  pub left_lower : levels_of ls l < levels_of ls cell
  left_lower = rw p.left_is (side_levels ls cell p.tree.tree own to_left)

  module _ (ms : List Link) (made : ℕ) (one : Adopted ls ms l made) where
    right_stands : Stands ms r own.right
    right_stands = stays_kept ls ms one.kept r own.right (subst (λ (x : ℕ). Stands ls x own.right) (sym p.right_is) own.stands.right)

    pub right_tree : BalancedAt ms r
    right_tree =
        record {
          tree = own.right;
          stands = right_stands;
          balanced = level.right;
        }

    pub right_lower : levels_of ms r < levels_of ls cell
    right_lower = rw ((one.kept.shape r).levels, p.right_is) (side_levels ls cell p.tree.tree own to_right)

    module _ (ns : List Link) (also : ℕ) (two : Adopted ms ns r also) where
      both : Kept ls ns
      both = kept_trans ls ms ns one.kept two.kept

      -- the two adoptions change nothing outside the two sides
      neither : (c : ℕ) → (Among c own.left → ⊥) → (Among c own.right → ⊥) → refs_of ns c ≡ refs_of ls c
      neither c nl nr =
          two.outside own.right right_stands c nr ∙ one.outside own.left left_stands c nl

      pub still_unused : refs_of ns cell ≡ 0
      still_unused =
          neither cell (not_left ls cell p.tree.tree own) (not_right ls cell p.tree.tree own) ∙ p.unused

      pub last_high : cell ≤ length ns
      last_high = omega (arith, both.len, own.stands.high)

      pub adopted_unused : (os : List Link) → Put ns os cell (refs_of ns cell + 1) → Adopted ls os cell (1 + made + also)
      adopted_unused os raised =
          let put : Put ns os cell 1 = rw still_unused at raised in
          let up : (c : ℕ) → refs_of ls c ≤ refs_of os c =
          λ c. omega (arith, one.up c, two.up c, put_up ns os cell 1 p.low last_high put (omega (arith, still_unused)) c) in
          let kept : Kept ls os = kept_trans ls ns os both put.kept in
          let outside : (t : Tree ℕ) → Stands ls cell t → (c : ℕ) → (Among c t → ⊥) → refs_of os c ≡ refs_of ls c =
          λ t s c out.
          let o : Among c p.tree.tree → ⊥ = rw (unique ls cell t p.tree.tree s p.tree.stands) at out in
          refs_other ns os cell 1 p.low last_high put c (out_root ls cell p.tree.tree own c o)
          ∙ neither c (out_left ls cell p.tree.tree own c o) (out_right ls cell p.tree.tree own c o) in
          let held : (rs : List ℕ) → Counted ls rs → Counted os (cell ∷ rs) =
          λ rs k.
          let all : Counted ns (r ∷ l ∷ rs) = two.counted (l ∷ rs) (one.counted rs k) in
          linked ns os cell 1 p.low last_high put still_unused refl rs (rules_kept ls ns both cell (root_rules ls cell p.tree.tree own p.tree.balanced))
          (rw ((both.shape cell).left, (both.shape cell).right, ← p.left_is, ← p.right_is) all) in
          record {
            kept = kept;
            live_cells = omega (arith, one.live_cells, two.live_cells, one_more ns os cell 1 p.low last_high put still_unused refl);
            few = live_count_small os;
            counted = held;
            exact = λ rs k. live_is_reached os (cell ∷ rs) (held rs k);
            up = up;
            outside = outside;
            avail_cells = λ k t s. avail_count_kept ls os kept up t (outside t s) k;
            live = λ h. absurd (omega (arith, p.unused));
          }
