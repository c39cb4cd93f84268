use Rattle.std.proofs.Common.{◌≡◌, ◌-◌, Bool, true, false, not, ◌||◌, [], ◌∷◌, ◌++◌, cond, Option, Some, is_none, IfSome, refl, sym, ap, subst, ◌∙◌}
use Rattle.gt_base.specs.Sets.{has}
use Rattle.gt_base.specs.declared.events.Fluent.TheVariants.{Enabled}
use Rattle.gt_base.specs.declared.events.RoleId.{RoleId}
use Rattle.gtrbac_model.specs.Conflict.{Status}
use Rattle.gtrbac_model.specs.Hierarchy.{activation_walk}
use Rattle.gtrbac_model.specs.Sessions.{Activation, caps_of, reached}
use Rattle.session_table.specs.Dropping.{spent_by}
use Rattle.session_table.proofs.dropping.drop_one.Goals as goal

-- the role of what stays is on
stays_on : (s : Status) (before : Option RoleId) (r : RoleId) (b c d gone : Bool) → gone ≡ (not (s (Enabled r)) || b || c || d) → IfSome before (λ r. s (Enabled r) ≡ true)
    → IfSome (cond gone before (Some r)) (λ r. s (Enabled r) ≡ true)
stays_on s before r b c d true e h = h
stays_on s before r b c d false e h = on (s (Enabled r)) b c d e
  where
    on : (a b c d : Bool) → false ≡ (not a || b || c || d) → a ≡ true
    on true b c d e = refl
    on false b c d e = cc

pub returns-clause-known : goal.returns-clause-known
returns-clause-known c = c.in_ok-is_gone.ensures.known

pub returns-clause-gone : goal.returns-clause-gone
returns-clause-gone c = c.in_ok-push_if.ensures ∙ ap (λ b. c.args.gone.now.items ++ cond b (c.args.a.now ∷ []) []) c.in_ok-is_gone.ensures.dropped

pub returns-clause-on : goal.returns-clause-on
returns-clause-on c =
    let s : Status = has c.args.at.now.status.now.set in
    let a : Activation = c.args.a.now in
    subst (λ o. IfSome o (λ r. s (Enabled r) ≡ true)) (sym c.found_on.ensures)
    (stays_on s c.args.before a.role (is_none (activation_walk c.args.at.now.hierarchy.now s a.user a.role)) (reached (caps_of c.args.at.now.caps.now.items a.role).length (c.args.at.now.stretch.to - a.begun))
    (reached (caps_of c.args.at.now.caps.now.items a.role).day (spent_by c.args.at.now.stretch.charges.now.charged c.args.at.now.stretch.active.now.items c.args.at.now.stretch.after c.args.at.now.stretch.to a.user a.role)) c.in_ok-is_gone.is_gone c.in_ok-is_gone.ensures.dropped c.requires.before)

pub is_dropped-requires-clause-known : goal.is_dropped-requires-clause-known
is_dropped-requires-clause-known c = c.requires.known

pub is_dropped-requires-clause-before : goal.is_dropped-requires-clause-before
is_dropped-requires-clause-before c = c.requires.before
