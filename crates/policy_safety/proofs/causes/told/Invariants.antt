use Rattle.std.proofs.Common.{◌≡◌, List, ◌++◌, map, drop}
use Rattle.gt_base.specs.Held.{TriggerView}
use Rattle.dependency_graph.specs.Nets.{IsGraphOf}
use Rattle.policy_safety.specs.Cycles.{seen_edge, dependencies_at}
use Rattle.policy_safety.proofs.causes.told.Given as goal

abbrev pub invariant-loop-n : goal.invariant-loop-n
invariant-loop-n l =
    record {
      edges : (rules : List TriggerView) → IsGraphOf rules l.g → map seen_edge l.edges.items ++ dependencies_at rules (drop l.n-index l.numbers) ≡ dependencies_at rules l.numbers;
    }
