use Rattle.why_check.proofs.Turned.{turned_so}
use Rattle.why_check.proofs.turning.turn_fluent.Goals as goal

pub returns-clause-status : goal.returns-clause-status
returns-clause-status c = λ g. turned_so c.args.x.now c.args.status.now.set c.set.new.self.set c.args.f g c.is_on_after-on.result c.is_on_after-on.ensures c.set.ensures.set
