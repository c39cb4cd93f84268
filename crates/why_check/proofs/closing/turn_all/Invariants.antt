use Rattle.std.proofs.Common.{◌≡◌, ◌≤◌, ◌+◌, cond, length, take}
use Rattle.std.specs.List.{list_any}
use Rattle.gt_base.specs.Sets.{has}
use Rattle.gt_base.specs.declared.events.Fluent.{Fluent}
use Rattle.gtrbac_model.specs.Conflict.{after}
use Rattle.gtrbac_model.specs.Same.{same_fluent}
use Rattle.gtrbac_model.specs.Status.{differ}
use Rattle.duration_limits.specs.Since.{since_in}
use Rattle.why_check.proofs.closing.turn_all.Given as goal

-- the fluents of the events so far are turned, and those that it changed have the instant
abbrev pub invariant-loop-e : goal.invariant-loop-e
invariant-loop-e l =
    record {
      room : length l.events ≤ l.ages.spare + l.e-index;
      spare : length l.events ≤ l.status.spare + l.e-index;
      birth : l.ages.birth ≡ l.initial.ages.birth;
      status : (f : Fluent) → has l.status.set f ≡ cond (list_any (λ o. same_fluent o.event.fluent f) (take l.e-index l.events)) (after l.x (has l.initial.status.set) f) (has l.initial.status.set f);
      since : (f : Fluent) → since_in l.ages f ≡ cond (differ (has l.status.set f) (has l.initial.status.set f)) l.at (since_in l.initial.ages f);
    }
