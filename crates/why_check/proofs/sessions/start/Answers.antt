use Rattle.gt_base.specs.Sets.{has}
use Rattle.gt_base.specs.declared.requests.Reply.TheVariants.{Active}
use Rattle.gt_base.specs.declared.requests.Request.TheVariants.{Activate}
use Rattle.session_table.specs.Tables.{table_of}
use Rattle.why_check.proofs.Applying.{refused_at, no_active}
use Rattle.why_check.proofs.sessions.start.Goals as goal

pub unreachable-requires : goal.unreachable-requires
unreachable-requires c =
    let refused = rw c.in-Err-Refused.field-0-is at c.in-Err-Refused.ensures.refused in
    let w = c.requires.0 in
    no_active w (refused_at c.args.by.now.edges.now.items c.args.by.now.caps.now.items (has c.args.by.now.status.now.set) c.args.by.now.instant (table_of c.args.table.now) c.args.actor (Activate c.args.session c.args.role) (Active w) _ c.requires.1 refused)
