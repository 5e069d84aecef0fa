-- Which tree stands at a link, and what leaves it standing.
use Rattle.std.proofs.Common.{◌≡◌, ℕ, ◌+◌, ◌<◌, ◌≤◌, eqb, ◌⊎◌, List, [], ◌∷◌, ◌++◌, length, sym, refl, ap, ◌∙◌, subst, inl, inr, arith}
use Rattle.std.proofs.lemmas.List.{length-append}
use Rattle.std.proofs.lemmas.Bool.{cases_eq, cases_lt, eq-eqb, ne_eqb}
use Rattle.links.specs.declared.link.Link.{Link}
use Rattle.links.specs.Fields.{count_in, levels_in, SameShape}
use Rattle.links.specs.Cells.{at, left_of, right_of, count_of, levels_of, Side, to_left, to_right, link_of, Kept}
use Rattle.links.specs.Counted.{one, occurs, CellRules}
use Rattle.links.specs.Stands.{Stands, Among, LevelsAreFew, TreesStand}
use Rattle.links.specs.Trees.{Tree, tip, fork, inorder, height, size, Balanced}
use Rattle.links.proofs.Levels.{fewest-size, levels_22, levels_twice, levels_half_more}
use Rattle.links.proofs.Sums.{one_yes, one_no}
use Rattle.links.proofs.Tables.{at_zero}

pub same_yes : (a b : ℕ) → a ≡ b → one (eqb a b) ≡ 1
same_yes a b e = one_yes (eqb a b) (eq-eqb a b e)

pub same_no : (a b : ℕ) → (a ≡ b → ⊥) → one (eqb a b) ≡ 0
same_no a b n = one_no (eqb a b) (ne_eqb a b n)

pub occurs-append : (c : ℕ) (xs ys : List ℕ) → occurs c (xs ++ ys) ≡ occurs c xs + occurs c ys
occurs-append c [] ys = omega arith
occurs-append c (x ∷ xs) ys = omega (arith, occurs-append c xs ys)

-- the cells of a fork
module _ (c : ℕ) (l r : Tree ℕ) where
  pub among_root : Among c (fork c l r)
  among_root = omega (arith, occurs-append c (inorder l) (c ∷ inorder r), same_yes c c refl)

  pub among_left : (d : ℕ) → Among d l → Among d (fork c l r)
  among_left d a = omega (arith, occurs-append d (inorder l) (c ∷ inorder r))

  pub among_right : (d : ℕ) → Among d r → Among d (fork c l r)
  among_right d a = omega (arith, occurs-append d (inorder l) (c ∷ inorder r))

-- a cell of a fork is its root or stands in a side
pub among_cases : (c : ℕ) (l r : Tree ℕ) (d : ℕ) → Among d (fork c l r) → (d ≡ c) ⊎ (Among d l ⊎ Among d r)
among_cases c l r d a =
    elim (cases_eq d c) [
      | inl e ↦ inl e
      | inr ne ↦ elim (cases_lt 0 (occurs d (inorder l))) [
        | inl i ↦ inr (inl i)
        | inr z ↦ inr (inr (omega (arith, occurs-append d (inorder l) (c ∷ inorder r), same_no d c ne)))
      ]
    ]

pub stands_low : (ls : List Link) (n : ℕ) (t : Tree ℕ) → Stands ls n t → n ≤ length ls
stands_low ls n tip s = omega arith
stands_low ls n (fork c l r) s = omega (arith, s.here, s.high)

pub unique : (ls : List Link) (n : ℕ) (t u : Tree ℕ) → Stands ls n t → Stands ls n u → t ≡ u
unique ls n tip tip s v = refl
unique ls n tip (fork d a b) s v = absurd (omega (arith, v.here, v.low))
unique ls n (fork c l r) tip s v = absurd (omega (arith, s.here, s.low))
unique ls n (fork c l r) (fork d a b) s v =
    let e : d ≡ c = omega (arith, s.here, v.here) in
    let p : l ≡ a = unique ls (left_of ls c) l a s.left (subst (λ (x : ℕ). Stands ls (left_of ls x) a) e v.left) in
    let q : r ≡ b = unique ls (right_of ls c) r b s.right (subst (λ (x : ℕ). Stands ls (right_of ls x) b) e v.right) in
    cc

pub stays : (ls ms : List Link) (n : ℕ) (t : Tree ℕ) → length ls ≤ length ms → ((c : ℕ) → Among c t → SameShape (at ls c) (at ms c)) → Stands ls n t → Stands ms n t
stays ls ms n tip long h s = s
stays ls ms n (fork c l r) long h s =
    let same = h c (among_root c l r) in
    record {
      here = s.here;
      low = s.low;
      high = omega (arith, s.high);
      levels_are = same.levels ∙ s.levels_are;
      count_is = same.count ∙ s.count_is;
      left = subst (λ (x : ℕ). Stands ms x l) (sym same.left) (stays ls ms (left_of ls c) l long (λ d a. h d (among_left c l r d a)) s.left);
      right = subst (λ (x : ℕ). Stands ms x r) (sym same.right) (stays ls ms (right_of ls c) r long (λ d a. h d (among_right c l r d a)) s.right);
    }

-- where only counts of references change
pub stays_kept : (ls ms : List Link) → Kept ls ms → (n : ℕ) (t : Tree ℕ) → Stands ls n t → Stands ms n t
stays_kept ls ms k n t s = stays ls ms n t (omega (arith, k.len)) (λ c a. k.shape c) s

pub levels_told : (ls : List Link) (n : ℕ) (t : Tree ℕ) → Stands ls n t → levels_of ls n ≡ height t
levels_told ls n tip s = ap levels_in (at_zero ls n s)
levels_told ls n (fork c l r) s = ap (levels_of ls) s.here ∙ s.levels_are

pub count_told : (ls : List Link) (n : ℕ) (t : Tree ℕ) → Stands ls n t → count_of ls n ≡ size t
count_told ls n tip s = ap count_in (at_zero ls n s)
count_told ls n (fork c l r) s = ap (count_of ls) s.here ∙ s.count_is

pub inorder-size : {E : Type 0} (t : Tree E) → length (inorder t) ≡ size t
inorder-size tip = refl
inorder-size (fork e l r) = omega (arith, length-append (inorder l) (e ∷ inorder r), inorder-size l, inorder-size r)

-- a cell of a tree has no more levels than the tree
pub among_levels : (ls : List Link) (n : ℕ) (t : Tree ℕ) → Stands ls n t → (d : ℕ) → Among d t → levels_of ls d ≤ height t
among_levels ls n tip s d a = absurd (omega arith)
among_levels ls n (fork c l r) s d a =
    elim (among_cases c l r d a) [
      | inl e ↦ omega (arith, ap (levels_of ls) e, s.levels_are)
      | inr (inl i) ↦ omega (arith, among_levels ls (left_of ls c) l s.left d i)
      | inr (inr i) ↦ omega (arith, among_levels ls (right_of ls c) r s.right d i)
    ]

-- the tree at a link that is not 0, by its two sides
pub record Sides (ls : List Link) (n : ℕ) (t : Tree ℕ) : Type 0 where
  pub left : Tree ℕ
  pub right : Tree ℕ
  pub is : t ≡ fork n left right
  pub stands : Stands ls n (fork n left right)
  pub left_levels : levels_of ls (left_of ls n) ≡ height left
  pub right_levels : levels_of ls (right_of ls n) ≡ height right

pub sides : (ls : List Link) (n : ℕ) (t : Tree ℕ) → 0 < n → Stands ls n t → Sides ls n t
sides ls n tip low s = absurd (omega arith)
sides ls n (fork c l r) low s =
    subst (λ (k : ℕ). Sides ls k (fork c l r)) (sym s.here) (record {
      left = l;
      right = r;
      is = refl;
      stands = subst (λ (k : ℕ). Stands ls k (fork c l r)) s.here s;
      left_levels = levels_told ls (left_of ls c) l s.left;
      right_levels = levels_told ls (right_of ls c) r s.right;
    })

pub side_levels : (ls : List Link) (n : ℕ) (t : Tree ℕ) → Sides ls n t → (s : Side) → levels_of ls (link_of s ls n) < levels_of ls n
side_levels ls n t p to_left = omega (arith, p.left_levels, p.stands.levels_are)
side_levels ls n t p to_right = omega (arith, p.right_levels, p.stands.levels_are)

-- the root of a balanced tree keeps the cell rules
pub root_rules : (ls : List Link) (n : ℕ) (t : Tree ℕ) → Sides ls n t → Balanced t → CellRules ls n
root_rules ls n t p b =
    let level : Balanced (fork n p.left p.right) = rw p.is at b in
    record {
      levels = omega (arith, p.left_levels, p.right_levels, p.stands.levels_are);
      left_low = omega (arith, p.left_levels, p.right_levels, level.left_low);
      right_low = omega (arith, p.left_levels, p.right_levels, level.right_low);
      count = omega (arith, p.stands.count_is, count_told ls (left_of ls n) p.left p.stands.left, count_told ls (right_of ls n) p.right p.stands.right);
    }

rules : (ls : List Link) (n : ℕ) (t : Tree ℕ) → Stands ls n t → Balanced t → (c : ℕ) → Among c t → CellRules ls c
rules ls n tip s b c a = absurd (omega arith)
rules ls n (fork d l r) s b c a =
    elim (among_cases d l r c a) [
      | inl e ↦ rw (e ∙ sym s.here) (root_rules ls n (fork d l r) (sides ls n (fork d l r) (omega (arith, s.here, s.low)) s) b)
      | inr (inl i) ↦ rules ls (left_of ls d) l s.left b.left c i
      | inr (inr i) ↦ rules ls (right_of ls d) r s.right b.right c i
    ]

balance : (ls : List Link) (n : ℕ) (t : Tree ℕ) → Stands ls n t → ((c : ℕ) → Among c t → CellRules ls c) → Balanced t
balance ls n tip s h = tt
balance ls n (fork d l r) s h =
    let root = h d (among_root d l r) in
    let left = levels_told ls (left_of ls d) l s.left in
    let right = levels_told ls (right_of ls d) r s.right in
    record {
      left = balance ls (left_of ls d) l s.left (λ c a. h c (among_left d l r c a));
      right = balance ls (right_of ls d) r s.right (λ c a. h c (among_right d l r c a));
      left_low = omega (arith, root.left_low);
      right_low = omega (arith, root.right_low);
    }

pub standing : TreesStand
standing =
    record {
      unique = unique;
      stays = stays;
      rules = rules;
      balance = balance;
      told = λ ls n t s. (levels_told ls n t s, count_told ls n t s, inorder-size t);
    }

pub few_levels : LevelsAreFew
few_levels ls n s =
    let levels = levels_told ls n s.tree s.stands in
    let count = count_told ls n s.tree s.stands in
    record {
      least = rw (levels, count) (fewest-size s.tree s.balanced);
      in_22 = λ h. rw levels (levels_22 s.tree s.balanced (omega arith));
      twice_digits = λ b h. rw levels (levels_twice s.tree s.balanced b (omega arith));
      fewer_yet = λ b h. rw levels (levels_half_more s.tree s.balanced b (omega arith));
    }
