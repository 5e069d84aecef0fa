-- Trees that a building call leaves standing.
use Rattle.std.proofs.Common.{◌≡◌, ℕ, ◌+◌, ◌≤◌, List, sym, refl, ap, ◌∙◌, inl, inr, arith}
use Rattle.links.specs.declared.link.Link.{Link}
use Rattle.links.specs.declared.ring.Cursor.{Cursor}
use Rattle.links.specs.Building.{Settled, Step, BuildingKeepsTrees}
use Rattle.links.specs.Cells.{levels_of, refs_of, Kept}
use Rattle.links.specs.Changes.{Built}
use Rattle.links.specs.Ring.{Available}
use Rattle.links.specs.Stands.{Among}
use Rattle.links.specs.Trees.{tip, fork}
use Rattle.links.proofs.Reaching.{live_tree, reached_live}
use Rattle.links.proofs.Rings.{carried}
use Rattle.links.proofs.Standing.{among_cases, levels_told, stays_kept}
use Rattle.links.proofs.Writing.{built, same_refs}

pub empty : (ls : List Link) (k : Cursor) → Settled ls k 0
empty ls k = record { tree = tip; stands = refl; balanced = tt; apart = λ c a. absurd (omega arith) }

pub counts : (ls ms : List Link) (k : Cursor) (n : ℕ) → Kept ls ms → ((c : ℕ) → refs_of ls c ≤ refs_of ms c) → Settled ls k n → Settled ms k n
counts ls ms k n kept up s =
    record {
      tree = s.tree;
      stands = stays_kept ls ms kept n s.tree s.stands;
      balanced = s.balanced;
      apart = λ c i a. s.apart c i (carried ms ls k c (sym kept.len) (omega (arith, up c, a.unused.refs)) a);
    }

module _ (ls ms : List Link) (k j : Cursor) (cell l r : ℕ) (step : Step ls ms k j cell l r) where
  unused : refs_of ls cell ≡ 0
  unused = step.took.was.unused.refs

  made : Built ls ms cell l r
  made = built ls ms cell l r step.wrote unused step.took.was.unused.low step.took.was.unused.high

  -- what is available after the step was so before
  before : (c : ℕ) → Available ms j c → Available ls j c
  before c a = carried ms ls j c (sym step.wrote.len) (omega (arith, same_refs ls ms cell l r step.wrote unused c, a.unused.refs)) a

  module _ (n : ℕ) (s : Settled ls k n) where
    other : Among cell s.tree → ⊥
    other a = s.apart cell a step.took.was

    still_apart : (c : ℕ) → Among c s.tree → Available ms j c → ⊥
    still_apart c i a = s.apart c i (step.took.back c (before c a))

    pub stays : Settled ms j n
    stays =
        record { tree = s.tree; stands = made.stays n s.tree other s.stands; balanced = s.balanced; apart = still_apart }

  pub settles : Settled ls k l → Settled ls k r → levels_of ls l ≤ levels_of ls r + 1 → levels_of ls r ≤ levels_of ls l + 1 → Settled ms j cell
  settles a b left_low right_low =
      let left = levels_told ls l a.tree a.stands in
      let right = levels_told ls r b.tree b.stands in
      record {
        tree = fork cell a.tree b.tree;
        stands = made.stands a.tree b.tree (other l a) (other r b) a.stands b.stands;
        balanced = record { left = a.balanced; right = b.balanced; left_low = omega arith; right_low = omega arith };
        apart = λ c i v. elim (among_cases cell a.tree b.tree c i) [
          | inl e ↦ step.took.gone (rw e at (before c v))
          | inr (inl h) ↦ still_apart l a c h v
          | inr (inr h) ↦ still_apart r b c h v
        ];
      }

pub building : BuildingKeepsTrees
building =
    record {
      empty = empty;
      live = λ ls rs k c held r.
          let t = live_tree ls rs held c (reached_live ls rs held c r) in
          record { tree = t.tree; stands = t.stands; balanced = t.balanced; apart = λ d i a. omega (arith, t.live d i, a.unused.refs) };
      stays = λ ls ms k j c l r n step s. stays ls ms k j c l r step n s;
      settles = settles;
      uses = λ ls ms k j c l r step. (
        record { last = omega (arith, step.took.ring.last, step.wrote.len); left = omega (arith, step.took.ring.left, step.wrote.len) },
        step.took.count ∙ ap (λ x. 1 + x) (sym ((made ls ms k j c l r step).avail_cells j)),
      );
      counts = counts;
    }
