use Rattle.std.proofs.Common.{◌+◌, ◌≤◌}
use Rattle.gt_host.proofs.stop.look_again.Given as goal

abbrev pub invariant-loop : goal.invariant-loop
invariant-loop g l = l.counter ≤ (g.S.Sought.last_look l.file).failed + 1
