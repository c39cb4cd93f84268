use Rattle.std.proofs.Common.{ap}
use Rattle.gtrbac_model.specs.Period.{Part}
use Rattle.calendar_match.proofs.Passing.{ahead_in}
use Rattle.calendar_match.proofs.steps.+ahead.Goals as goal

pub returns-in-None-ahead_in_part : goal.returns-in-None-ahead_in_part
returns-in-None-ahead_in_part t c =
    let same = ap (λ (p : Part). p.calendar) c.part.view_is in
    rw c.in-Some.ensures (ahead_in c.args.above c.in-Some.part.now c.in-Some.more.now c.args.m c.ahead.result c.in-None-ahead_in_part.ensures.none (rw same at c.ahead.ensures))
