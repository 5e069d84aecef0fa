use Rattle.std.proofs.Common.{rules}
use Rattle.std.proofs.lemmas.List.Sorted.{IsPartitionPoint-from_clause}
use Rattle.book.specs.Lists.{Rising}
use Rattle.book.proofs.Placing.{smaller, partitioned, ranked}
use Rattle.book.proofs.sorted.SortedVec.rank.Goals as goal

-- the closure says whether an entry's key is smaller, and the slice is the entries
pub returns : goal.returns
returns g c =
    let o = g.K.Kind.ops in
    let xs = c.deref.result.now in
    let rising : Rising o xs = rw c.deref.ensures.value c.self.invariant in
    let facts = c.partition_point.ensures in
    let parts = IsPartitionPoint-from_clause (smaller o c.args.key) xs c.partition_point.result facts.partitioned (partitioned o g.met.K.Kind.lawful c.args.key xs rising) (λ a r f called. search rules) in
    rw (← c.self.view_is, ← c.deref.ensures.value) (ranked o c.args.key xs c.partition_point.result facts.bound parts)
