use Rattle.std.proofs.Common.{◌≡◌, ℕ, ◌<◌, ◌∷◌, [], Bool, List, Some, slice_index_or, ◌∙◌, ap, subst, sym}
use Rattle.gt_base.specs.declared.events.RoleId.{RoleId}
use Rattle.gtrbac_model.specs.Same.{same_role, lists}
use Rattle.gtrbac_model.specs.Graph.{item_at}
use Rattle.hybrid_hierarchy.proofs.Listing.{listed_one, alone}
use Rattle.hybrid_hierarchy.proofs.Walking.{nodes_that, whole, starts_low}
use Rattle.hybrid_hierarchy.proofs.walks.least_from.Goals as goal

pub least-requires-in_default-clause-starts : goal.least-requires-in_default-clause-starts
least-requires-in_default-clause-starts g c =
    let from : RoleId → Bool = lists same_role c.args.roles.now in
    let starts : c.deref.result.now ≡ nodes_that from = c.deref.ensures.value ∙ c.in_ok-from-in_default.ensures in
    subst (λ ns. (i s : ℕ) → item_at ns i ≡ Some s → s < 1_000) (sym starts) (starts_low (λ n. from (record { 0 = n })))

pub returns-in-len1 : goal.returns-in-len1
returns-in-len1 g c =
    let role : RoleId = slice_index_or c.args.roles.now 0 (record { 0 = 0 }) in
    let starts : role.0 ∷ [] ≡ nodes_that (lists same_role c.args.roles.now) =
    listed_one role c.if-role-lt-MAX_ROLES.true ∙ ap (λ (rs : List RoleId). nodes_that (lists same_role rs)) (alone c.args.roles.now (record { 0 = 0 }) c.in-len1.len_at_least c.in-len1.len_below) in
    whole c.args.edges.now (g.Q.WalkQuestion.passes c.args.asked.now) (lists same_role c.args.roles.now) (g.Q.WalkQuestion.goals c.args.asked.now) (role.0 ∷ []) starts c.least.result c.least.ensures

pub returns-in_ok-from-in_default : goal.returns-in_ok-from-in_default
returns-in_ok-from-in_default g c =
    whole c.args.edges.now (g.Q.WalkQuestion.passes c.args.asked.now) (lists same_role c.args.roles.now) (g.Q.WalkQuestion.goals c.args.asked.now) c.deref.result.now (c.deref.ensures.value ∙ c.in_ok-from-in_default.ensures)
    c.least-in_default.result c.least-in_default.ensures
