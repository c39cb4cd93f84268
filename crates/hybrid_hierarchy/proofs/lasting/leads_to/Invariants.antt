use Rattle.std.proofs.Common.{◌≡◌, drop, false}
use Rattle.gt_base.specs.Sets.{has}
use Rattle.gtrbac_model.specs.Hierarchy.{usable}
use Rattle.hybrid_hierarchy.specs.Lasting.{leads_to}
use Rattle.hybrid_hierarchy.proofs.lasting.leads_to.Given as goal

abbrev pub invariant-loop-n : goal.invariant-loop-n
invariant-loop-n l = leads_to (usable (has l.status.set) false) l.edges l.fn.start l.walk l.role ≡ leads_to (usable (has l.status.set) false) l.edges l.at (drop l.n-index l.walk) l.role
