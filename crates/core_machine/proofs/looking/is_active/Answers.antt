use Rattle.std.proofs.Common.{sym, ap, ◌∙◌}
use Rattle.gt_base.specs.declared.requests.Reply.TheVariants.{Truth}
use Rattle.core_machine.proofs.looking.is_active.Goals as goal

pub returns-in-Ok : goal.returns-in-Ok
returns-in-Ok c = λ p pt. c.in-Ok.ensures.roles c.args.role p pt ∙ ap (λ b. Truth b) (sym c.is_among.ensures)

pub returns-in-Err : goal.returns-in-Err
returns-in-Err c = λ p pt. c.in-Err.ensures.refused c.args.role p pt
