use Rattle.std.proofs.Common.{sym, subst}
use Rattle.std.specs.Prelude.{Ok}
use Rattle.gt_base.specs.declared.requests.Reply.{Reply}
use Rattle.core_machine.specs.Steps.{IsStep}
use Rattle.core_machine.proofs.entering.tell.Goals as goal

pub returns : goal.returns
returns c =
    subst (λ (r : Reply). IsStep c.args.s.now c.note.new.s c.args.who c.args.actor c.args.request (Ok r)) (sym c.in_ok-answer.ensures)
    (record { kept = c.in_ok-note.ensures.kept; ok = c.in_ok-note.ensures.ok; err = tt })
