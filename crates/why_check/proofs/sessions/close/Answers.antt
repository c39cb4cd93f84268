use Rattle.std.proofs.Common.{subst}
use Rattle.gt_base.specs.declared.requests.Reply.TheVariants.{Done}
use Rattle.gt_base.specs.declared.requests.Request.TheVariants.{CloseSession}
use Rattle.session_table.specs.Tables.{table_of}
use Rattle.why_check.specs.Kept.{IsTableReply}
use Rattle.why_check.proofs.Applying.{refused_over, no_done}
use Rattle.why_check.proofs.sessions.close.Goals as goal

pub unreachable-requires : goal.unreachable-requires
unreachable-requires c =
    let refused = rw c.in-Err-Refused.field-0-is at c.in-Err-Refused.ensures.refused in
    no_done (refused_over (table_of c.args.table.now) c.args.actor (CloseSession c.args.session) Done _ (subst (IsTableReply (table_of c.args.table.now) c.args.actor (CloseSession c.args.session)) c.in-Done.is c.requires) refused)
