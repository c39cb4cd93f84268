use Rattle.std.proofs.Common.{◌≡◌, true, filter, take, IfSome}
use Rattle.gt_base.specs.Sets.{has}
use Rattle.gt_base.specs.declared.events.Fluent.TheVariants.{Enabled}
use Rattle.session_table.specs.Closings.{drops_at}
use Rattle.session_table.specs.Dropping.{AreBarred}
use Rattle.session_table.proofs.dropping.drop_each.Given as goal

abbrev pub invariant-loop-a : goal.invariant-loop-a
invariant-loop-a l =
    record {
      gone : l.gone.items ≡ filter (drops_at l.at) (take l.a-index l.active);
      known : AreBarred l.at.hierarchy.now (has l.at.status.now.set) l.known.entries;
      on : IfSome l.before (λ r. has l.at.status.now.set (Enabled r) ≡ true);
    }
