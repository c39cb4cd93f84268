use Rattle.std.proofs.Common.{◌≡◌, ℕ, Bool, true, false, refl, sym, ◌∙◌, ap}
use Rattle.gt_base.specs.Sets.{has}
use Rattle.gt_base.specs.declared.events.Fluent.TheVariants.{Granted}
use Rattle.gt_base.specs.declared.events.RoleId.{RoleId as RoleView}
use Rattle.hybrid_hierarchy.proofs.questions.is_granted.Goals as goal

pub returns-in-Some : goal.returns-in-Some
returns-in-Some c =
    (c.requires (c.in-Some.known, c.in-Some.on) c.in-Some.is).0
    ∙ ap (λ (n : ℕ). has c.args.status.now.set (Granted c.args.perm (record { 0 = n }))) c.if-known-role.true

pub returns-in-Some-2 : goal.returns-in-Some-2
returns-in-Some-2 c = by (has c.args.status.now.set (Granted c.args.perm c.args.role)) refl
  where
    by : (b : Bool) → has c.args.status.now.set (Granted c.args.perm c.args.role) ≡ b → false ≡ has c.args.status.now.set (Granted c.args.perm c.args.role)
    by false e = sym e
    by true e = absurd (c.if-known-role.false (sym (ap (λ (r : RoleView). r.0) ((c.requires (c.in-Some.known, c.in-Some.on) c.in-Some.is).1 c.args.role e))))
