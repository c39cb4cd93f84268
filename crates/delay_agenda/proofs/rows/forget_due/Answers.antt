use Rattle.std.proofs.Common.{rules, not}
use Rattle.std.proofs.lemmas.Fn.{filter_same}
use Rattle.delay_agenda.specs.Due.{is_due_at}
use Rattle.delay_agenda.proofs.rows.forget_due.Goals as goal

pub returns-clause-items : goal.returns-clause-items
returns-clause-items c = filter_same _ (λ p. not (is_due_at c.args.t p)) _ (λ x b f k. search rules) _ _ c.retain.ensures.filtered
