use Rattle.std.proofs.Common.{◌≡◌, ℕ, nat_eq, take}
use Rattle.indexmap.specs.IndexMap.{get}
use Rattle.dependency_graph.specs.Carried.{level_in}
use Rattle.trigger_rules.specs.Indexed.{numbers, under}
use Rattle.instant_engine.specs.OnTheWay.{is_due}
use Rattle.instant_engine.proofs.levels.by_level.Given as goal

-- the triggers so far are at their levels
abbrev pub invariant-loop-t : goal.invariant-loop-t
invariant-loop-t l = (n : ℕ) → under (get nat_eq l.index n) (λ v. v.items) ≡ numbers (is_due (level_in l.g.events l.s) n) 0 (take l.t l.triggers)
