use Rattle.std.proofs.lemmas.Result.{IfOk-weaker}
use Rattle.gt_base.specs.Sets.{has}
use Rattle.session_table.specs.Plans.{IsDropPlan, IsPlanWhereAllStand}
use Rattle.session_table.specs.Tables.{table_of}
use Rattle.core_machine.proofs.ticking.end_of.Goals as goal

pub returns-then-still-clause-plan : goal.returns-then-still-clause-plan
returns-then-still-clause-plan c =
    IfOk-weaker _ (IsPlanWhereAllStand c.args.caps.now.items c.args.now c.args.to (table_of c.args.table.now)) (IsDropPlan c.args.hierarchy.now c.args.caps.now.items (has c.args.status.now.set) c.args.now c.args.to (table_of c.args.table.now))
    (λ d h. h c.args.hierarchy.now (has c.args.status.now.set) (c.requires.still c.if-still.true)) c.plan_end_still.ensures.plan
