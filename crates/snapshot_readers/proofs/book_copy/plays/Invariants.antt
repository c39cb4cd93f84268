use Rattle.std.proofs.Common.{◌≡◌, ◌≤◌, ◌++◌, take}
use Rattle.history_laws.specs.Looks.{without_looks}
use Rattle.core_machine.specs.Books.{SameRoot}
use Rattle.snapshot_readers.proofs.book_copy.plays.Given as goal

abbrev pub invariant-loop-entry : goal.invariant-loop-entry
invariant-loop-entry l =
    record {
      root : SameRoot l.fn.book l.book;
      front : take l.good l.book.entries ≡ take l.good l.fn.book.entries;
      up : l.good ≤ l.upto;
      played : take l.upto l.book.entries ≡ take l.good l.fn.book.entries ++ without_looks (take l.entry-index l.entries);
    }
