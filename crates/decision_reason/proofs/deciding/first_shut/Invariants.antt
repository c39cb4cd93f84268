use Rattle.std.proofs.Common.{◌≡◌, true, drop, IfSome}
use Rattle.gt_base.specs.declared.events.Fluent.TheVariants.{Enabled}
use Rattle.gt_base.specs.Sets.{has}
use Rattle.decision_reason.specs.Shut.{first_shut}
use Rattle.decision_reason.proofs.deciding.first_shut.Given as goal

abbrev pub invariant-loop-n : goal.invariant-loop-n
invariant-loop-n l =
    record {
      rest : first_shut (has l.status.set) l.edges l.walk ≡ first_shut (has l.status.set) l.edges (drop l.n-index l.walk);
      known : IfSome l.enabled (λ role. has l.status.set (Enabled role) ≡ true);
    }
