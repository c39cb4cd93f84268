use Rattle.std.proofs.Common.{ap, sym, ◌∙◌, arith}
use Rattle.delay_agenda.specs.Far.{soonest_over}
use Rattle.delay_agenda.proofs.FarLaws.{near_first}
use Rattle.delay_agenda.proofs.far.next_due.Goals as goal

pub returns-in-Some : goal.returns-in-Some
returns-in-Some c = near_first c.in-Some.t c.args.horizon c.args.far.now (omega arith) c.requires ∙ ap (λ n. soonest_over n c.args.far.now) (sym c.in-Some.is)
