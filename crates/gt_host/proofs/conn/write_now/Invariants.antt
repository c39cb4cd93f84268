use Rattle.std.proofs.Common.{◌≤◌, length}
use Rattle.gt_host.proofs.conn.write_now.Given as goal

abbrev pub invariant-loop-stream : goal.invariant-loop-stream
invariant-loop-stream l = length l.rest ≤ length l.text

abbrev pub decreases-loop-stream : goal.decreases-loop-stream
decreases-loop-stream l = length l.rest
