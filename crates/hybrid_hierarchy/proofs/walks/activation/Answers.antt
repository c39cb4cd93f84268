use Rattle.std.proofs.Common.{◌≡◌, ℕ, ◌<◌, Bool, true, false, ◌&&◌, nat_lt, Option, Some, IfOk, ◌∙◌, subst, sym, refl}
use Rattle.std.proofs.lemmas.Bool.{lt-ltb}
use Rattle.gt_base.specs.declared.events.RoleId.{RoleId}
use Rattle.gt_base.specs.declared.events.Fluent.TheVariants.{Assigned}
use Rattle.gt_base.specs.declared.policies.HierEdge.{HierEdge}
use Rattle.gt_base.specs.Sets.{has}
use Rattle.gt_base.specs.Held.{RoleWalk}
use Rattle.gtrbac_model.specs.Same.{same_role}
use Rattle.gtrbac_model.specs.Graph.{item_at}
use Rattle.gtrbac_model.specs.Hierarchy.{usable}
use Rattle.hybrid_hierarchy.specs.Searches.{leads_on}
use Rattle.hybrid_hierarchy.proofs.Leaving.{leaving}
use Rattle.walk_laws.proofs.Roles.{is_same_role}
use Rattle.hybrid_hierarchy.proofs.Walking.{nodes_that, whole, starts_low}
use Rattle.hybrid_hierarchy.proofs.walks.activation.Goals as goal

pub least-requires-clause-starts : goal.least-requires-clause-starts
least-requires-clause-starts c =
    let from : RoleId → Bool = λ r. leads_on c.args.out.now.first.items r.0 && has c.args.status.now.set (Assigned c.args.user r) in
    let starts : c.deref.result.now ≡ nodes_that from = c.deref.ensures.value ∙ c.in_ok-from.ensures in
    subst (λ ns. (i s : ℕ) → item_at ns i ≡ Some s → s < 1_000) (sym starts) (starts_low (λ n. from (record { 0 = n })))

-- a role to which the user is assigned is another one
apart : (from : RoleId → Bool) (role a : RoleId) → (nat_lt role.0 1_000 && from role) ≡ false → a.0 < 1_000 → from a ≡ true → same_role role a ≡ false
apart from role a no_way low on = by (same_role role a) refl
  where
    clash : {b : Bool} → b ≡ true → b ≡ false → ⊥
    clash p q = let e : true ≡ false = sym p ∙ q in cc

    by : (b : Bool) → same_role role a ≡ b → b ≡ false
    by false e = refl
    by true e =
        let same : role ≡ a = is_same_role role a e in
        absurd (clash (subst (λ r. (nat_lt r.0 1_000 && from r) ≡ true) (sym same) (λ i. lt-ltb a.0 1_000 low i && on i)) no_way)

pub returns : goal.returns
returns c =
    let from : RoleId → Bool = λ r. has c.args.status.now.set (Assigned c.args.user r) in
    let some : RoleId → Bool = λ r. leads_on c.args.out.now.first.items r.0 && from r in
    let ok : ℕ → HierEdge → Bool = usable (has c.args.status.now.set) false in
    let goals : RoleId → Bool = same_role c.args.role in
    subst (λ (w : Option RoleWalk). IfOk c.least.result (λ o. o ≡ w))
    (leaving c.args.edges.now ok c.args.out.now.first.items c.args.out.now.next.items c.requires.hierarchy.few c.requires.outgoing from goals (λ a. apart from c.args.role a c.requires.elsewhere))
    (whole c.args.edges.now ok some goals c.deref.result.now (c.deref.ensures.value ∙ c.in_ok-from.ensures) c.least.result c.least.ensures)
