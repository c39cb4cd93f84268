use Rattle.std.proofs.Common.{take}
use Rattle.gt_base.specs.declared.events.Fluent.{Fluent}
use Rattle.gt_base.specs.Orders.{fluent_eq}
use Rattle.gtrbac_model.specs.Same.{lists, same_prioritised}
use Rattle.indexmap.specs.IndexMap.{get}
use Rattle.priority_conflict.specs.Winning.{IsLeader}
use Rattle.priority_conflict.proofs.leading.leaders.Given as goal

-- the leaders among the events so far
abbrev pub invariant-loop-p : goal.invariant-loop-p
invariant-loop-p l = (f : Fluent) → IsLeader (lists same_prioritised (take l.p-index l.events)) f (get fluent_eq l.leaders f)
