use Rattle.std.proofs.Common.{sym, subst}
use Rattle.hybrid_hierarchy.specs.Nets.{IsHierarchy}
use Rattle.hybrid_hierarchy.proofs.PolicyEdges.{hierarchy_of}
use Rattle.why_check.proofs.closing.ask.Goals as goal

pub invariant_of-by : goal.invariant_of-by
invariant_of-by c = record { hierarchy = subst IsHierarchy (sym c.edges.ensures) (hierarchy_of c.args.policy.now.policy c.keeps.ensures.policy) }
