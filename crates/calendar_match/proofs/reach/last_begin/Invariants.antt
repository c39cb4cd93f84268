use Rattle.std.proofs.Common.{◌+◌, ◌≤◌}
use Rattle.calendar_match.specs.Reach.{HasNoBegin}
use Rattle.calendar_match.proofs.reach.last_begin.Given as goal

abbrev pub invariant-search : goal.invariant-search
invariant-search l = record {
  high : l.m ≤ l.upto;
  seen : HasNoBegin l.e (l.m + 1) (l.upto + 1);
}

abbrev pub decreases-search : goal.decreases-search
decreases-search l = l.m
