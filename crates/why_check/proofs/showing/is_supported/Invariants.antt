use Rattle.std.proofs.Common.{◌≡◌, List, [], drop}
use Rattle.gt_base.specs.Sets.{has}
use Rattle.gt_base.specs.declared.events.Event.{Event}
use Rattle.gt_base.specs.declared.events.Prioritised.{Prioritised}
use Rattle.gtrbac_model.specs.Instant.{stands, grounded_after}
use Rattle.why_check.specs.Standing.{stands_in}
use Rattle.why_check.proofs.showing.is_supported.Given as goal

-- the events so far have support, and what stands of them is kept
abbrev pub invariant-loop-e : goal.invariant-loop-e
invariant-loop-e l =
    record {
      earlier : List Prioritised;
      standing : (f : Event) → stands_in l.standing f ≡ stands l.x earlier f;
      rest : grounded_after l.rules l.base.set (has l.before.set) l.x [] l.order ≡ grounded_after l.rules l.base.set (has l.before.set) l.x earlier (drop l.e-index l.order);
    }
