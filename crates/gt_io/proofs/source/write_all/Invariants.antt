use Rattle.std.proofs.Common.{◌≤◌, ◌≡◌, ℕ, length, take, drop}
use Rattle.std.specs.Io.KnownBytes.{Appends}
use Rattle.gt_io.proofs.source.write_all.Given as goal

abbrev pub invariant-loop-rest : goal.invariant-loop-rest
invariant-loop-rest g l =
    let sink = g.K.Sink in
    record {
      n : ℕ;
      left : l.rest ≡ drop n l.text;
      within : n ≤ length l.text;
      written : Appends (sink.output l.fn.sink).written (sink.output l.sink).written (take n l.text);
      kept : (sink.output l.sink).faults ≡ (sink.output l.fn.sink).faults;
    }

abbrev pub decreases-loop-rest : goal.decreases-loop-rest
decreases-loop-rest g l = length l.rest
