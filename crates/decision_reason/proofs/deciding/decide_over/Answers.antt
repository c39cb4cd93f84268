use Rattle.std.proofs.Common.{◌<◌, length, arith}
use Rattle.gt_base.specs.Sets.{has}
use Rattle.decision_reason.proofs.ByWalks.{decided}
use Rattle.decision_reason.proofs.deciding.decide_over.Goals as goal

pub returns-in_default : goal.returns-in_default
returns-in_default c =
    let some : 0 < length c.args.active.now = omega (arith, c.in_default.len_at_least) in
    decided c.args.hierarchy.now (has c.args.status.now.set) c.args.active.now c.args.perm some c.by_walks.result c.by_walks.ensures
