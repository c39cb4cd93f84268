use Rattle.std.proofs.Common.{◌∙◌, ap}
use Rattle.gt_base.specs.declared.events.SessionId.{SessionId}
use Rattle.gt_base.specs.declared.requests.Actor.TheVariants.{User}
use Rattle.gt_base.specs.declared.requests.Reply.TheVariants.{Session}
use Rattle.gt_base.specs.declared.requests.Request.TheVariants.{OpenSession}
use Rattle.gtrbac_model.specs.Sessions.{applied}
use Rattle.session_table.specs.Tables.{table_of}
use Rattle.why_check.proofs.Applying.{refused_over, no_session, same_number}
use Rattle.why_check.proofs.sessions.begin.Goals as goal

pub returns-in-Ok-clause-table : goal.returns-in-Ok-clause-table
returns-in-Ok-clause-table c =
    c.in-Ok.ensures.table
    ∙ ap (λ (n : SessionId). applied 0 (User c.args.user) OpenSession (Session n) (table_of c.args.table.now)) (same_number (table_of c.args.table.now) c.args.user c.args.number c.in-Ok.field-0 c.requires.answered c.in-Ok.ensures.answer)

pub unreachable-requires : goal.unreachable-requires
unreachable-requires c =
    let refused = rw c.in-Err-Refused.field-0-is at c.in-Err-Refused.ensures.refused in
    no_session c.args.number (refused_over (table_of c.args.table.now) (User c.args.user) OpenSession (Session c.args.number) _ c.requires.answered refused)
