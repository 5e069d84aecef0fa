use Rattle.std.proofs.Common.{◌≡◌, ◌+◌, [], ◌++◌, length, vec_items}
use Rattle.std.specs.Iterator.Adapters.{zip_first, zip_second}
use Rattle.std.specs.Slice.Iter.{iter_rest}
use Rattle.kinds.specs.contracts.rows.slot.SlotRowKind.TheImpl.{ghosts}
use Rattle.book.specs.Lists.{put_all, build}
use Rattle.inventory.specs.Reports.{rows_of, notes_from}
use Rattle.inventory.proofs.report.take_stock.Given as goal

-- what is left of the lines goes on from the rows and notes so far
abbrev pub invariant-loop-number : goal.invariant-loop-number
invariant-loop-number l =
    let number = (zip_first l.number-iterator).start in
    let rest = iter_rest (zip_second l.number-iterator) in
    let rows = l.stock.rows in
    record {
      can : (goal.iterator-loop-number).can_next l.number-iterator;
      finite : (goal.iterator-loop-number).is_finite l.number-iterator;
      built : put_all ghosts.ops (rows_of rest) rows ≡ build ghosts.ops (rows_of l.lines);
      told : vec_items l.stock.notes ++ notes_from number rows rest ≡ notes_from 1 [] l.lines;
      counted : number + length rest ≡ 1 + length l.lines;
    }
