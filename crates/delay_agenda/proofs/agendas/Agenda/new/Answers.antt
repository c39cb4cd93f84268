use Rattle.std.proofs.Common.{◌∙◌}
use Rattle.delay_agenda.proofs.FarLaws.{over_nothing}
use Rattle.delay_agenda.proofs.agendas.Agenda.new.Goals as goal

pub returns-clause-set : goal.returns-clause-set
returns-clause-set c = rw (c.new-2.ensures.items) (over_nothing _ ∙ c.new.ensures.set)
