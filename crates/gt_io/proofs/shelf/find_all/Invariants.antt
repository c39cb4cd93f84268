use Rattle.std.proofs.Common.{◌≡◌, ◌≤◌, ◌+◌, ◌-◌, vec_len, IfSome}
use Rattle.std.specs.Io.KnownBytes.{Consumes}
use Rattle.gt_io.specs.Memory.{one_more}
use Rattle.gt_io.proofs.shelf.find_all.Given as goal

abbrev pub invariant-pieces : goal.invariant-pieces
invariant-pieces g l =
    let shelf = g.S.Shelf in
    record {
      found : IfSome (shelf.stock l.fn.shelf).contents (λ text_of. Consumes (text_of l.name) (shelf.stock l.shelf).left l.bytes.items);
      same : (shelf.stock l.shelf).contents ≡ (shelf.stock l.fn.shelf).contents;
      within : vec_len l.bytes ≤ l.limit;
      kept : (shelf.stock l.shelf).faults ≡ (shelf.stock l.fn.shelf).faults;
      asked : (shelf.stock l.shelf).asked ≡ one_more (shelf.stock l.fn.shelf).asked;
      no_end : (shelf.stock l.shelf).ends ≡ (shelf.stock l.fn.shelf).ends;
      hard_kept : (shelf.stock l.shelf).hard_faults ≡ (shelf.stock l.fn.shelf).hard_faults;
    }

abbrev pub decreases-pieces : goal.decreases-pieces
decreases-pieces g l = l.limit + 1 - vec_len l.bytes
