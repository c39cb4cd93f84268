use Rattle.std.proofs.Common.{sym, ◌∙◌}
use Rattle.calendar_match.proofs.Weeks.{past_week, past_filled}
use Rattle.calendar_match.proofs.next.horizon.Goals as goal

pub returns-then-is_filled-clause-horizon : goal.returns-then-is_filled-clause-horizon
returns-then-is_filled-clause-horizon c =
    past_filled c.args.p.now c.args.after 0 c.is_filled.ensures.valid (sym c.is_filled.ensures.value ∙ c.if-is_filled.true) c.requires

pub returns-then-is_weekly-clause-horizon : goal.returns-then-is_weekly-clause-horizon
returns-then-is_weekly-clause-horizon c =
    past_week c.args.p.now c.args.after c.min.result c.is_weekly.ensures.valid (sym c.is_weekly.ensures.value ∙ c.if-is_weekly.true) c.requires (rw (c.end_of-end.ensures.minute, c.minute_of.ensures.minute) at c.min.ensures)
