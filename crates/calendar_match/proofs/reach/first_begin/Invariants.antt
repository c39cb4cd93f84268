use Rattle.std.proofs.Common.{◌+◌, ◌-◌, ◌≤◌}
use Rattle.calendar_match.specs.Reach.{HasNoBegin}
use Rattle.calendar_match.proofs.reach.first_begin.Given as goal

abbrev pub invariant-search : goal.invariant-search
invariant-search l = record {
  low : l.from ≤ l.m;
  seen : HasNoBegin l.e l.from l.m;
}

abbrev pub decreases-search : goal.decreases-search
decreases-search l = l.upto + 1 - l.m
