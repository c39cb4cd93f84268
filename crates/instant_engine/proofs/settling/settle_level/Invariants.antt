use Rattle.std.proofs.Common.{◌+◌, ◌*◌, ◌≤◌, length}
use Rattle.gt_base.specs.Sets.{has}
use Rattle.dependency_graph.specs.Carried.{level_in}
use Rattle.trigger_rules.specs.Indexed.{numbers}
use Rattle.instant_engine.specs.OnTheWay.{KeepsSet, is_due}
use Rattle.instant_engine.specs.Counted.{size, woken, first_looks}
use Rattle.instant_engine.proofs.Steps.{Waits, missing}
use Rattle.instant_engine.proofs.settling.settle_level.Given as goal

-- the set is still on its way and each trigger that fires waits; and so often triggers were looked at
abbrev pub invariant-loop-t : goal.invariant-loop-t
invariant-loop-t g l =
    record {
      keeps : KeepsSet l.by.rules.now (has l.before.set) (level_in l.by.graph.now.events l.by.strata.now) l.n l.initial.x l.n l.x;
      waits : Waits l.by.rules.now (has l.before.set) (level_in l.by.graph.now.events l.by.strata.now) l.n l.x l.pending.items;
      sizes : size l.initial.x ≤ size l.x;
      wakes : woken l.by.rules.now l.initial.x ≤ woken l.by.rules.now l.x;
      cost : l.looks + length l.pending.items + woken l.by.rules.now l.initial.x
          ≤ l.initial.looks + first_looks l.by.levels.now.caused (length (numbers (is_due (level_in l.by.graph.now.events l.by.strata.now) l.n) 0 l.by.rules.now)) l.by.rules.now l.initial.x + woken l.by.rules.now l.x;
    }

-- the heads that are missing, and the triggers that wait
abbrev pub decreases-loop-t : goal.decreases-loop-t
decreases-loop-t g l = missing l.by.rules.now l.x * (length l.by.rules.now + 1) + length l.pending.items
