use Rattle.std.proofs.Common.{◌≡◌, ℕ, ◌<◌, false, Some}
use Rattle.gtrbac_model.specs.Graph.{item_at}
use Rattle.hybrid_hierarchy.proofs.searching.first_goal.Given as goal

abbrev pub invariant-loop-role : goal.invariant-loop-role
invariant-loop-role g l = (j s : ℕ) → j < l.role-index → item_at l.from j ≡ Some s → g.Q.WalkQuestion.goals l.asked (record { 0 = s }) ≡ false
