use Rattle.std.proofs.Common.{◌≡◌, ◌++◌, take, flat_map}
use Rattle.gt_base.specs.declared.events.Prioritised.{Prioritised}
use Rattle.trigger_rules.specs.Indexed.{with_event}
use Rattle.gtrbac_tool.specs.Listing.{Tracks}
use Rattle.gtrbac_tool.proofs.explaining.join_all.Given as goal

-- the events so far, and the triggers that have one of them in their bodies
abbrev pub invariant-loop-e : goal.invariant-loop-e
invariant-loop-e l =
    record {
      tracks : Tracks l.x l.initial.order → Tracks l.x l.order;
      events : l.order.events.items ≡ l.initial.order.events.items ++ take l.e-index l.events;
      pending : l.pending.items ≡ l.initial.pending.items ++ flat_map (λ (o : Prioritised). with_event l.rules o.event) (take l.e-index l.events);
    }
