use Rattle.std.proofs.Common.{ℕ, ◌+◌, [], ◌∷◌, ◌++◌, List, sym, ap, ◌∙◌, append_assoc, arith}
use Rattle.gt_base.specs.declared.events.RoleId.{RoleId}
use Rattle.hybrid_hierarchy.specs.Searches.{listed_from}
use Rattle.hybrid_hierarchy.proofs.Listing.{listed_all, ends}
use Rattle.hybrid_hierarchy.proofs.walks.listed_roles.Goals as goal

pub loop-role-smaller : goal.loop-role-smaller
loop-role-smaller c = omega (arith, c.in-Some.ensures.0, c.in-Some.ensures.1)

pub loop-role-preserved : goal.loop-role-preserved
loop-role-preserved c =
    let roles : List RoleId = c.args.roles.now in
    let r : ℕ = c.in-Some.role in
    record {
      low = omega (arith, c.in-Some.ensures.1);
      listed = ap (λ (xs : List ℕ). xs ++ listed_from roles (r + 1)) c.in_ok-push.ensures.items
          ∙ append_assoc c.loop-role.listed.items (r ∷ []) (listed_from roles (r + 1))
          ∙ ap (λ (xs : List ℕ). c.loop-role.listed.items ++ xs) (sym c.in-Some.ensures.2)
          ∙ c.loop-role.invariant.listed;
    }

pub returns : goal.returns
returns c =
    sym (ends c.loop-role.listed.items) ∙ ap (λ (xs : List ℕ). c.loop-role.listed.items ++ xs) (sym c.in_default.ensures) ∙ c.loop-role.invariant.listed
    ∙ listed_all c.args.roles.now
