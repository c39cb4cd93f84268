use Rattle.std.proofs.Common.{◌≡◌, ◌+◌, ◌≤◌, length}
use Rattle.gtrbac_tool.specs.Script.{start_of}
use Rattle.gtrbac_tool.proofs.starting.find_start.Given as goal

-- the lines so far were silent
abbrev pub invariant-loop-line : goal.invariant-loop-line
invariant-loop-line l =
    record {
      start : start_of l.policy (l.number + 1) l.lines ≡ start_of l.policy 1 l.initial.lines;
      count : l.number + length l.lines ≤ length l.initial.lines;
    }

abbrev pub decreases-loop-line : goal.decreases-loop-line
decreases-loop-line l = length l.lines
