use Rattle.std.proofs.Common.{◌≡◌, ◌++◌, drop, vec_items}
use Rattle.std.specs.List.{filter}
use Rattle.book.specs.Lists.{passing}
use Rattle.book.proofs.sorted.sift.Given as goal

abbrev pub invariant-loop-entry : goal.invariant-loop-entry
invariant-loop-entry g l = vec_items l.passing ++ filter (passing g.K.Kind.ops l.limit) (drop l.entry-index l.entries) ≡ filter (passing g.K.Kind.ops l.limit) l.entries
