use Rattle.std.proofs.Common.{sym, ap, ◌∙◌}
use Rattle.gt_base.specs.Sets.{has}
use Rattle.gt_base.specs.declared.requests.Decision.{Decision}
use Rattle.gt_base.specs.declared.requests.Reply.TheVariants.{Decided}
use Rattle.gtrbac_model.specs.Decision.{decide}
use Rattle.session_table.specs.Tables.{table_of}
use Rattle.core_machine.specs.Coherent.{point_of}
use Rattle.core_machine.proofs.looking.decision.Goals as goal

pub returns-in_ok-answer-in-Ok : goal.returns-in_ok-answer-in-Ok
returns-in_ok-answer-in-Ok c =
    let s = c.args.s.now in
    record {
      is = c.in-Ok.ensures.check c.args.perm s.ground.policy (point_of s.line.line (table_of s.table))
          ∙ ap (λ (d : Decision). Decided d)
          (sym (c.in_ok-answer-in-Ok.ensures
          ∙ (λ i. decide (c.hierarchy-hierarchy.ensures i) (has (c.status.ensures i)) c.in-Ok.roles.now c.args.perm)));
    }

pub returns-in-Err : goal.returns-in-Err
returns-in-Err c =
    let s = c.args.s.now in
    record { is = c.in-Err.ensures.refused_check c.args.perm s.ground.policy (point_of s.line.line (table_of s.table)) }
