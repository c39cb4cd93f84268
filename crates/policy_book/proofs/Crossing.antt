-- Policies and their periods may go to another thread, and several may share them.
use denote.Param.Send.{IsSend, IsSync, sendable, view_send, view_sync, recorded_send, recorded_sync, struct_send, struct_sync}
use denote.Struct.Declared.{shape}
use Rattle.std.proofs.Crossing.{crosses}
use Rattle.gt_base.proofs.Crossing.{base_send, base_sync}
use Rattle.periodic_expr.specs.contracts.exprs.ExprPart as part
use Rattle.periodic_expr.specs.contracts.exprs.ExprPart.TheInside as part_inside
use Rattle.periodic_expr.specs.contracts.exprs.Expr as expr
use Rattle.periodic_expr.specs.contracts.exprs.Expr.TheInside as expr_inside
use Rattle.periodic_expr.specs.contracts.exprs.Period as period
use Rattle.periodic_expr.specs.contracts.exprs.Period.TheInside as period_inside
use Rattle.policy_book.specs.contracts.tables.Table as table
use Rattle.policy_book.specs.contracts.books.Policy as policy
use Rattle.policy_book.specs.contracts.books.Policy.TheInside as policy_inside

part_inside_send : IsSend part_inside.the_row
part_inside_send = search (base_send, sendable, crosses) depth 40

part_send : IsSend part.the_row
part_send = view_send part_inside.the_row _ _ _ _ part_inside_send

expr_inside_send : IsSend expr_inside.the_row
expr_inside_send = search (part_send, base_send, sendable, crosses) depth 40

expr_send : IsSend expr.the_row
expr_send = view_send expr_inside.the_row _ _ _ _ expr_inside_send

period_inside_send : IsSend period_inside.the_row
period_inside_send = search (expr_send, sendable, crosses) depth 40

pub period_send : IsSend period.the_row
period_send = view_send period_inside.the_row _ _ _ _ period_inside_send

table_send : IsSend table.the_row
table_send = search (base_send, sendable, crosses) depth 60

policy_inside_send : IsSend policy_inside.the_row
policy_inside_send =
    recorded_send policy_inside.the_field.row _ _ policy_inside.the_type.to_one
    (struct_send (shape policy_inside.the_type)
    (search (sendable, crosses) depth 40, (search (table_send, base_send, sendable, crosses) depth 60, (search (period_send, base_send, sendable, crosses) depth 40, (search (base_send, sendable, crosses) depth 40, (search (base_send, sendable, crosses) depth 40, (search (base_send, sendable, crosses) depth 40, (search (base_send, sendable, crosses) depth 40, (search (base_send, sendable, crosses) depth 40, (search (base_send, sendable, crosses) depth 40, (search (base_send, sendable, crosses) depth 40, tt)))))))))))

pub policy_send : IsSend policy.the_row
policy_send = view_send policy_inside.the_row _ _ _ _ policy_inside_send

part_inside_sync : IsSync part_inside.the_row
part_inside_sync = search (base_sync, sendable, crosses) depth 40

part_sync : IsSync part.the_row
part_sync = view_sync part_inside.the_row _ _ _ _ part_inside_sync

expr_inside_sync : IsSync expr_inside.the_row
expr_inside_sync = search (part_sync, base_sync, sendable, crosses) depth 40

expr_sync : IsSync expr.the_row
expr_sync = view_sync expr_inside.the_row _ _ _ _ expr_inside_sync

period_inside_sync : IsSync period_inside.the_row
period_inside_sync = search (expr_sync, sendable, crosses) depth 40

pub period_sync : IsSync period.the_row
period_sync = view_sync period_inside.the_row _ _ _ _ period_inside_sync

table_sync : IsSync table.the_row
table_sync = search (base_sync, sendable, crosses) depth 60

policy_inside_sync : IsSync policy_inside.the_row
policy_inside_sync =
    recorded_sync policy_inside.the_field.row _ _ policy_inside.the_type.to_one
    (struct_sync (shape policy_inside.the_type)
    (search (sendable, crosses) depth 40, (search (table_sync, base_sync, sendable, crosses) depth 60, (search (period_sync, base_sync, sendable, crosses) depth 40, (search (base_sync, sendable, crosses) depth 40, (search (base_sync, sendable, crosses) depth 40, (search (base_sync, sendable, crosses) depth 40, (search (base_sync, sendable, crosses) depth 40, (search (base_sync, sendable, crosses) depth 40, (search (base_sync, sendable, crosses) depth 40, (search (base_sync, sendable, crosses) depth 40, tt)))))))))))

pub policy_sync : IsSync policy.the_row
policy_sync = view_sync policy_inside.the_row _ _ _ _ policy_inside_sync
