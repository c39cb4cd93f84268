use Rattle.std.proofs.Common.{◌≡◌, ◌≤◌, ◌+◌, cond, length, take}
use Rattle.std.specs.List.{list_any}
use Rattle.gt_base.specs.Sets.{has}
use Rattle.gt_base.specs.declared.events.Fluent.{Fluent}
use Rattle.gtrbac_model.specs.Conflict.{after}
use Rattle.gtrbac_model.specs.Same.{same_fluent}
use Rattle.why_check.proofs.turning.turn_all.Given as goal

-- the fluents of the events so far are turned
abbrev pub invariant-loop-e : goal.invariant-loop-e
invariant-loop-e l =
    record {
      room : length l.events ≤ l.status.spare + l.e-index;
      status : (f : Fluent) → has l.status.set f ≡ cond (list_any (λ o. same_fluent o.event.fluent f) (take l.e-index l.events)) (after l.x (has l.initial.status.set) f) (has l.initial.status.set f);
    }
