-- Lists with the same roles give the same decision.
use Rattle.std.proofs.Common.{◌≡◌, Bool, true, false, ◌||◌, List, [], ◌∷◌, refl, sym, ap, ◌∙◌, arith}
use Rattle.std.specs.List.{list_any}
use Rattle.std.proofs.lemmas.Bool.{eq-eqb}
use Rattle.gt_base.specs.declared.events.RoleId.{RoleId}
use Rattle.gtrbac_model.specs.Same.{same_role, lists}
use Rattle.gtrbac_model.specs.Hierarchy.{least_role_walk, usable}
use Rattle.gt_base.specs.declared.events.Fluent.TheVariants.{Granted}
use Rattle.gt_base.specs.declared.requests.Decision.{Decision}
use Rattle.decision_reason.specs.Shut.{by_walks}
use Rattle.decision_reason.proofs.ByWalks.{some_active}
use Rattle.decision_reason.specs.SameRoles.{RolesDecide}

lists_head : (r : RoleId) (rs : List RoleId) → lists same_role (r ∷ rs) r ≡ true
lists_head r rs = ap (λ b. b || list_any (same_role r) rs) (eq-eqb r.0 r.0 refl)

pub roles_decide : RolesDecide
roles_decide edges s [] [] perm same = refl
roles_decide edges s [] (r ∷ rs) perm same = let e : false ≡ true = same r ∙ lists_head r rs in cc
roles_decide edges s (r ∷ rs) [] perm same = let e : true ≡ false = sym (lists_head r rs) ∙ same r in cc
roles_decide edges s (r ∷ rs) (q ∷ qs) perm same =
    let by : (RoleId → Bool) → Decision = λ listed. by_walks s edges
    (least_role_walk edges (usable s true) listed (λ x. s (Granted perm x)))
    (least_role_walk edges (λ n e. e.inherits) listed (λ x. s (Granted perm x))) in
    sym (some_active edges s (r ∷ rs) perm (omega arith)) ∙ ap by (λ i x. same x i) ∙ some_active edges s (q ∷ qs) perm (omega arith)
