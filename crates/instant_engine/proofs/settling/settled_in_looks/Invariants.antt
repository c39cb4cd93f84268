use Rattle.std.proofs.Common.{◌+◌, ◌≤◌}
use Rattle.gt_base.specs.Sets.{has}
use Rattle.dependency_graph.specs.Carried.{level_in}
use Rattle.instant_engine.specs.OnTheWay.{IsSettledBelow}
use Rattle.instant_engine.proofs.Waking.{spent}
use Rattle.instant_engine.proofs.settling.settled_in_looks.Given as goal

-- the set is settled below the level
abbrev pub invariant-loop-n : goal.invariant-loop-n
invariant-loop-n g l =
    record {
      so_far : IsSettledBelow l.by.rules.now l.base.set (has l.before.set) (level_in l.by.graph.now.events l.by.strata.now) l.n l.x;
      within : l.n ≤ l.by.levels.now.count;
      cost : l.looks ≤ l.initial.looks + spent l.by.levels.now.caused l.n l.by.rules.now (level_in l.by.graph.now.events l.by.strata.now) l.x;
    }
