use Rattle.std.proofs.Common.{◌≡◌, ◌≤◌, ◌||◌, length, drop}
use Rattle.gt_base.specs.declared.events.Event.{Event}
use Rattle.gtrbac_model.specs.Same.{lists, same_event}
use Rattle.gtrbac_model.specs.Safety.{is_node}
use Rattle.dependency_graph.specs.Making.{AreApart}
use Rattle.dependency_graph.proofs.building.heads.Given as goal

abbrev pub invariant-loop-trigger : goal.invariant-loop-trigger
invariant-loop-trigger l =
    record {
      nodes : (e : Event) → (lists same_event l.events.keys e || is_node (drop l.trigger-index l.triggers) e) ≡ is_node l.triggers e;
      apart : AreApart l.events.keys;
      few : length l.events.keys ≤ l.trigger-index;
    }
