use Rattle.std.proofs.Common.{All}
use Rattle.gt_io.specs.MemoryPorts.{IsUnused}
use Rattle.daemon_checks.proofs.polls.ports.Given as goal

abbrev pub invariant-loop-cable : goal.invariant-loop-cable
invariant-loop-cable l =
    record {
      unused : All IsUnused l.ports.items;
    }
