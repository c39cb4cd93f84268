-- From what the judge says of the numbered graph to the triggers.
use Rattle.std.proofs.Common.{◌≡◌, ℕ, List, ◌∙◌, subst}
use Rattle.gt_base.specs.Held.{TriggerView}
use Rattle.gtrbac_model.specs.Safety.{IsSafe}
use Rattle.gtrbac_model.proofs.Levels.{levels_are_safe}
use Rattle.least_walk.specs.Net.{Net}
use Rattle.dependency_graph.specs.Nets.{EventNet, IsGraphOf}
use Rattle.dependency_graph.specs.Carried.{level_in}
use Rattle.dependency_graph.proofs.Carrying.{cycles_carry_over, levels_carry_over}
use Rattle.safety_cycle.specs.declared.strata.Verdict.TheVariants.{Cycle}
use Rattle.policy_safety.specs.declared.levelling.NoLevels.TheVariants as NoLevels
use Rattle.safety_cycle.specs.Judged.{IsStratified, IsVerdict}
use Rattle.dependency_graph.specs.Levelled.{IsLevelled}
use Rattle.policy_safety.specs.Causes.{IsCause}

pub levelled : (triggers : List TriggerView) (g : EventNet) (net : Net) (levels : List ℕ) → IsGraphOf triggers g → net ≡ g.net → IsStratified net levels → IsLevelled triggers g levels
levelled triggers g net levels is q s =
    let t = subst (λ n. IsStratified n levels) q s in
    record { graph = is; size = t.size ∙ is.is_event_net.nodes; levelling = levels_carry_over triggers g is levels t.climbs }

pub safe : (triggers : List TriggerView) (g : EventNet) (levels : List ℕ) → IsLevelled triggers g levels → IsSafe triggers
safe triggers g levels l = levels_are_safe triggers (level_in g.events levels) l.levelling

pub cause : (triggers : List TriggerView) (g : EventNet) (net : Net) (edges : List ℕ) → IsGraphOf triggers g → net ≡ g.net → IsVerdict net (Cycle edges) → IsCause triggers (NoLevels.Cycle g edges)
cause triggers g net edges is q c = (is, cycles_carry_over triggers g is edges (subst (λ n. IsVerdict n (Cycle edges)) q c))
