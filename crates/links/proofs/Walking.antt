-- What waits on a walk's stack, and the way down to a place of a tree.
use Rattle.std.proofs.Common.{◌≡◌, ℕ, zero, suc, ◌+◌, ◌-◌, ◌<◌, ◌≤◌, ◌≢◌, List, [], ◌∷◌, ◌++◌, length, get_or, drop, set, sym, refl, ap, ◌∙◌, subst, append_assoc, add-one, arith}
use Rattle.std.proofs.lemmas.List.{get_or-set_same, get_or-set_other, length-set, drop_all, drop-append-le, drop_at, drop-drop}
use Rattle.links.specs.declared.link.Link.{Link}
use Rattle.links.specs.Cells.{left_of, right_of, count_of, levels_of, Side, to_left, to_right, link_of}
use Rattle.links.specs.Stands.{Stands}
use Rattle.links.specs.Trees.{Tree, tip, inorder}
use Rattle.links.specs.Walks.{Waits, Pending, RoomFor}
use Rattle.links.proofs.Standing.{unique, Sides, sides, side_levels, count_told, inorder-size}

-- what waits below a place stays under a write above
pending_set : (ls : List Link) (st : List ℕ) (k v d : ℕ) (cells : List ℕ) → d ≤ k → Pending ls st d cells → Pending ls (set st k v) d cells
pending_set ls st k v zero cells h p = p
pending_set ls st k v (suc d) cells h p =
    let ne : d ≢ k = omega arith in
    subst (λ (c : ℕ). Waits ls c d cells (Pending ls (set st k v) d)) (sym (get_or-set_other st k d v 0 ne)) (record {
      right = p.right;
      rest = p.rest;
      low = p.low;
      high = p.high;
      stands = p.stands;
      room = p.room;
      below = pending_set ls st k v d p.rest (omega arith) p.below;
      are = p.are;
    })

-- the last cell on the stack
pub pending_last : (ls : List Link) (st : List ℕ) (d : ℕ) (cells : List ℕ) → (d ≡ 0 → ⊥) → Pending ls st d cells
    → Waits ls (get_or st (d - 1) 0) (d - 1) cells (Pending ls st (d - 1))
pending_last ls st zero cells some p = absurd (some refl)
pending_last ls st (suc d) cells some p =
    let e : d ≡ suc d - 1 = omega arith in
    subst (λ (k : ℕ). Waits ls (get_or st k 0) k cells (Pending ls st k)) e p

-- past some elements and one more
drop_past : (xs : List ℕ) (x : ℕ) (ys : List ℕ) (n : ℕ) → drop (length xs + suc n) (xs ++ (x ∷ ys)) ≡ drop n ys
drop_past xs x ys n = sym (drop-drop (suc n) (length xs) (xs ++ (x ∷ ys))) ∙ ap (drop (suc n)) (drop_at xs (x ∷ ys) (length xs) refl)

-- how many cells stand on the left
left_length : (ls : List Link) (n : ℕ) (t : Tree ℕ) (o : Sides ls n t) → count_of ls (left_of ls n) ≡ length (inorder o.left)
left_length ls n t o = count_told ls (left_of ls n) o.left o.stands.left ∙ sym (inorder-size o.left)

pub none_wait : (ls : List Link) (st : List ℕ) (d : ℕ) (cells : List ℕ) → d ≡ 0 → cells ≡ [] → Pending ls st d cells
none_wait ls st d cells empty none = rw empty none

-- the cells to come are those of the tree at link n but the first `skip`, then those that wait
pub record Ahead (ls : List Link) (st : List ℕ) (d n skip : ℕ) (cells : List ℕ) : Type 0 where
  pub tree : Tree ℕ
  pub rest : List ℕ
  pub stands : Stands ls n tree
  pub waits : Pending ls st d rest
  pub are : cells ≡ drop skip (inorder tree) ++ rest

module _ (ls : List Link) (st : List ℕ) (d n skip : ℕ) (cells : List ℕ) (some : n ≡ 0 → ⊥) (a : Ahead ls st d n skip cells) where
  ahead_left : d + levels_of ls n ≤ 22 → length st ≡ 22 → skip ≤ count_of ls (left_of ls n) → Ahead ls (set st d n) (d + 1) (left_of ls n) skip cells
  ahead_left room long few =
      let o = sides ls n a.tree (omega arith) a.stands in
      let xs : List ℕ = inorder o.left in
      let ys : List ℕ = inorder o.right in
      let rest : List ℕ = n ∷ (ys ++ a.rest) in
      let short : skip ≤ length xs = omega (arith, left_length ls n a.tree o) in
      record {
        tree = o.left;
        rest = rest;
        stands = o.stands.left;
        waits = rw add-one (subst (λ (c : ℕ). Waits ls c d rest (Pending ls (set st d n) d)) (sym (get_or-set_same st d n 0 (omega arith))) (record {
          right = o.right;
          rest = a.rest;
          low = o.stands.low;
          high = o.stands.high;
          stands = o.stands.right;
          room = omega (arith, o.right_levels, o.stands.levels_are);
          below = pending_set ls st d n d a.rest (omega arith) a.waits;
          are = refl;
        }));
        are = cc (a.are, o.is, drop-append-le skip xs (n ∷ ys) short, append_assoc (drop skip xs) (n ∷ ys) a.rest);
      }

  ahead_right : (skip' : ℕ) → skip ≡ count_of ls (left_of ls n) + suc skip' → Ahead ls st d (right_of ls n) skip' cells
  ahead_right skip' past =
      let o = sides ls n a.tree (omega arith) a.stands in
      let xs : List ℕ = inorder o.left in
      let ys : List ℕ = inorder o.right in
      let e : skip ≡ length xs + suc skip' = omega (arith, left_length ls n a.tree o) in
      record {
        tree = o.right;
        rest = a.rest;
        stands = o.stands.right;
        waits = a.waits;
        are = cc (a.are, o.is, drop_past xs n ys skip');
      }

-- at link n on the way down: the cells that were to come at its start are still to come
pub record Going (ls : List Link) (Start : List ℕ → Type 0) (st : List ℕ) (d n skip : ℕ) : Type 0 where
  pub fits : n < 65536
  pub long : length st ≡ 22
  pub room : RoomFor ls n d
  pub ahead : (cells : List ℕ) → Start cells → Ahead ls st d n skip cells

module _ {ls : List Link} {Start : List ℕ → Type 0} {st : List ℕ} {d n skip : ℕ} (g : Going ls Start st d n skip) where
  module _ (some : n ≡ 0 → ⊥) where
    pub going_sides : Sides ls n g.room.tree
    going_sides = sides ls n g.room.tree (omega arith) g.room.stands

    pub going_falls : (s : Side) (k : ℕ) → k ≡ link_of s ls n → levels_of ls k < levels_of ls n
    going_falls s k e = rw e (side_levels ls n g.room.tree going_sides s)

    pub going_left : (us : List ℕ) (e k : ℕ) → us ≡ set st d n → e ≡ d + 1 → k < 65536 → k ≡ left_of ls n → skip ≤ count_of ls (left_of ls n) → Going ls Start us e k skip
    going_left us e k on up fits is few =
        let o = going_sides in
        rw (on, up, is) (record {
          fits = omega arith;
          long = length-set st d n ∙ g.long;
          room = record { tree = o.left; stands = o.stands.left; room = omega (arith, going_falls to_left (left_of ls n) refl) };
          ahead = λ cells s. ahead_left ls st d n skip cells some (g.ahead cells s) g.room.room g.long few;
        })

    pub going_right : (k skip' : ℕ) → k < 65536 → k ≡ right_of ls n → skip ≡ count_of ls (left_of ls n) + suc skip' → Going ls Start st d k skip'
    going_right k skip' fits e past =
        let o = going_sides in
        subst (λ (j : ℕ). Going ls Start st d j skip') (sym e) (record {
          fits = omega arith;
          long = g.long;
          room = record { tree = o.right; stands = o.stands.right; room = omega (arith, going_falls to_right (right_of ls n) refl) };
          ahead = λ cells s. ahead_right ls st d n skip cells some (g.ahead cells s) skip' past;
        })

  -- at link 0 all that is to come waits
  pub going_ends : n ≡ 0 → (cells : List ℕ) → Start cells → Pending ls st d cells
  going_ends none cells s =
      let a = g.ahead cells s in
      let e : a.tree ≡ tip = unique ls n a.tree tip a.stands none in
      let f : cells ≡ a.rest = cc (a.are, e, drop_all {X = ℕ} skip [] (omega arith)) in
      subst (λ (xs : List ℕ). Pending ls st d xs) (sym f) a.waits
