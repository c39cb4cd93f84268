use Rattle.std.proofs.Common.{◌+◌, ◌-◌, drop, ap, ◌∙◌, arith}
use Rattle.session_table.proofs.Gaps.{moved}
use Rattle.session_table.proofs.active.move_up.Goals as goal

pub returns-clause-rest : goal.returns-clause-rest
returns-clause-rest c =
    ap (drop (c.args.gap + 1)) c.copy_within.ensures.items
    ∙ moved c.args.gap c.args.count (c.args.gap + c.args.count - c.args.gap) c.args.rows.now.items c.requires (omega arith)
