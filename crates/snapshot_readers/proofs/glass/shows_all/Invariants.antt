use Rattle.std.proofs.Common.{◌≡◌, ◌≤◌, length, take}
use Rattle.published_copies.specs.Copied.{joined}
use Rattle.snapshot_readers.proofs.glass.shows_all.Given as goal

abbrev pub invariant-loop-batch : goal.invariant-loop-batch
invariant-loop-batch l =
    record {
      within : l.at ≤ length l.entries;
      front : take l.at l.entries ≡ joined (take l.batch-index l.batch-items);
    }
