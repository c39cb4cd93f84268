use Rattle.std.proofs.Common.{◌≡◌, ◌≤◌, ◌+◌, length, drop}
use Rattle.core_machine.specs.Steps.{with_signals}
use Rattle.forecast.proofs.walking.add_signals.Given as goal

abbrev pub invariant-loop-x : goal.invariant-loop-x
invariant-loop-x l =
    record {
      line : with_signals l.line.line (drop l.x-index l.signals) ≡ with_signals l.fn.line.line l.signals;
      spare : length l.signals ≤ l.line.spare + l.x-index;
    }
