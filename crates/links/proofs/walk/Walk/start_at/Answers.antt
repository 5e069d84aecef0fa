use Rattle.std.proofs.Common.{arith}
use Rattle.std.proofs.lemmas.List.{drop_all}
use Rattle.links.specs.Trees.{inorder}
use Rattle.links.proofs.Standing.{few_levels, stands_low, count_told, inorder-size}
use Rattle.links.proofs.Walking.{none_wait}
use Rattle.links.proofs.walk.Walk.start_at.Goals as goal

pub count_of-requires : goal.count_of-requires
count_of-requires c = stands_low _ _ c.requires.tree c.requires.stands

pub seek-requires : goal.seek-requires
seek-requires c =
    record {
      tree = c.requires.tree;
      stands = c.requires.stands;
      room = omega (arith, (few_levels _ _ c.requires).in_22 (omega arith));
    }

pub returns-else-place-from : goal.returns-else-place-from
returns-else-place-from c t s =
    none_wait _ _ _ _ c.empty.ensures (drop_all c.args.place (inorder t) (omega (arith, inorder-size t, count_told _ _ t s)))
