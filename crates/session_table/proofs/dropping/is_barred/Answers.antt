use Rattle.std.proofs.Common.{◌≡◌, Bool, true, false, cond, nat_eq, Option, Some, is_none, IfSome, refl, sym, ap, subst, ◌∙◌}
use Rattle.std.proofs.lemmas.Bool.{eqb-true}
use Rattle.gt_base.specs.declared.events.RoleId.{RoleId}
use Rattle.gt_base.specs.declared.events.UserId.{UserId}
use Rattle.gt_base.specs.declared.events.Fluent.TheVariants.{Assigned}
use Rattle.gt_base.specs.Sets.{has}
use Rattle.gtrbac_model.specs.Hierarchy.{usable, activation_walk}
use Rattle.gtrbac_model.proofs.Elements.{both_true}
use Rattle.hybrid_hierarchy.proofs.Standing.{standing_walk}
use Rattle.session_table.specs.Dropping.{asked_eq}
use Rattle.session_table.proofs.dropping.is_barred.Goals as goal

pub returns-then-is_assigned-clause-barred : goal.returns-then-is_assigned-clause-barred
returns-then-is_assigned-clause-barred c =
    ap is_none (sym (standing_walk c.args.hierarchy.now (usable (has c.args.status.now.set) false) (λ r. has c.args.status.now.set (Assigned c.args.user r)) c.args.role (sym c.is_assigned.ensures ∙ c.if-is_assigned.true)))

pub returns-then-has_stood-clause-barred : goal.returns-then-has_stood-clause-barred
returns-then-has_stood-clause-barred c = sym (c.has_stood.ensures c.if-has_stood.true)

told : (o old : Option Bool) (e v want : Bool) → o ≡ cond e (Some v) old → IfSome old (λ b. b ≡ want) → (e ≡ true → v ≡ want) → IfSome o (λ b. b ≡ want)
told o old true v want is h g = subst (λ x. IfSome x (λ b. b ≡ want)) (sym is) (g refl)
told o old false v want is h g = subst (λ x. IfSome x (λ b. b ≡ want)) (sym is) h

pub returns-clause-known : goal.returns-clause-known
returns-clause-known c = λ u r.
    let barred : UserId → RoleId → Bool = λ u r. is_none (activation_walk c.args.hierarchy.now (has c.args.status.now.set) u r) in
    told _ _ (asked_eq (record { user = c.args.user; role = c.args.role }) (record { user = u; role = r })) c.in_ok-barred.barred (barred u r)
    (c.in_ok-insert.ensures.updates.0 (record { user = u; role = r })) (c.requires u r)
    (λ e.
    let (p, q) = both_true (nat_eq c.args.user.0 u.0) (nat_eq c.args.role.0 r.0) e in
    let a = eqb-true c.args.user.0 u.0 p in
    let b = eqb-true c.args.role.0 r.0 q in
    c.in_ok-barred.ensures ∙ (λ i. barred (record { 0 = a i }) (record { 0 = b i })))
