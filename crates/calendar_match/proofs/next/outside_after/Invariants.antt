use Rattle.std.proofs.Common.{◌≡◌, ◌-◌, ◌<◌, ◌≤◌}
use Rattle.gtrbac_model.specs.Calendar.{minute_of, interval_of}
use Rattle.calendar_match.specs.Reach.{unit_first}
use Rattle.calendar_match.specs.Next.{StaysIn}
use Rattle.calendar_match.proofs.next.outside_after.Given as goal

abbrev pub invariant-units : goal.invariant-units
invariant-units l = record {
  later : interval_of l.p.expr.unit (minute_of l.fn.after) < l.k;
  high : l.k ≤ 2_147_483_648;
  here : l.m ≡ unit_first l.p.expr l.k;
  stays : StaysIn l.p l.fn.after l.k;
}

abbrev pub decreases-units : goal.decreases-units
decreases-units l = 2_147_483_649 - l.k
