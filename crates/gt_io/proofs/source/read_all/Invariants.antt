use Rattle.std.proofs.Common.{◌≡◌, ◌≤◌, ◌+◌, ◌-◌, vec_len}
use Rattle.std.specs.Io.KnownBytes.{Consumes}
use Rattle.gt_io.proofs.source.read_all.Given as goal

abbrev pub invariant-loop-bytes : goal.invariant-loop-bytes
invariant-loop-bytes g l =
    let source = g.S.Source in
    record {
      taken : Consumes (source.intake l.fn.source).left (source.intake l.source).left l.bytes.items;
      within : vec_len l.bytes ≤ l.limit;
      kept : (source.intake l.source).faults ≡ (source.intake l.fn.source).faults;
      no_end : (source.intake l.source).ends ≡ (source.intake l.fn.source).ends;
    }

abbrev pub decreases-loop-bytes : goal.decreases-loop-bytes
decreases-loop-bytes g l = l.limit + 1 - vec_len l.bytes
