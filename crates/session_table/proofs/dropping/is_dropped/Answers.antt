use Rattle.std.proofs.Common.{◌≡◌, ◌-◌, ◌||◌, false, not, is_none, sym, ap, ◌∙◌}
use Rattle.gt_base.specs.Sets.{has}
use Rattle.gt_base.specs.declared.events.Fluent.TheVariants.{Enabled}
use Rattle.gtrbac_model.specs.Conflict.{Status}
use Rattle.gtrbac_model.specs.Hierarchy.{activation_walk}
use Rattle.gtrbac_model.specs.Sessions.{Activation, caps_of, reached}
use Rattle.session_table.specs.Dropping.{spent_by}
use Rattle.session_table.proofs.Telling.{or_caps, barred_is}
use Rattle.session_table.proofs.dropping.is_dropped.Goals as goal

pub returns-then-is_capped-clause-dropped : goal.returns-then-is_capped-clause-dropped
returns-then-is_capped-clause-dropped c =
    let s : Status = has c.args.at.now.status.now.set in
    let a : Activation = c.args.a.now in
    let caps_is : c.caps_of-of_role.result ≡ caps_of c.args.at.now.caps.now.items a.role =
    c.caps_of-of_role.ensures ∙ ap (λ xs. caps_of xs c.a.inside.role) c.as_slice.ensures ∙ ap (λ (b : Activation). caps_of c.args.at.now.caps.now.items b.role) c.a.view_is in
    let capped : (reached (caps_of c.args.at.now.caps.now.items a.role).length (c.args.at.now.stretch.to - a.begun)
    || reached (caps_of c.args.at.now.caps.now.items a.role).day (spent_by c.args.at.now.stretch.charges.now.charged c.args.at.now.stretch.active.now.items c.args.at.now.stretch.after c.args.at.now.stretch.to a.user a.role)) ≡ c.is_capped.result =
    sym (c.is_capped.ensures
    ∙ ap (λ k. reached k.length (c.args.at.now.stretch.to - a.begun) || reached k.day (spent_by c.args.at.now.stretch.charges.now.charged c.args.at.now.stretch.active.now.items c.args.at.now.stretch.after c.args.at.now.stretch.to a.user a.role)) caps_is) in
    or_caps (not (s (Enabled a.role))) (is_none (activation_walk c.args.at.now.hierarchy.now s a.user a.role)) (reached (caps_of c.args.at.now.caps.now.items a.role).length (c.args.at.now.stretch.to - a.begun)) (reached (caps_of c.args.at.now.caps.now.items a.role).day (spent_by c.args.at.now.stretch.charges.now.charged c.args.at.now.stretch.active.now.items c.args.at.now.stretch.after c.args.at.now.stretch.to a.user a.role)) (capped ∙ c.if-is_capped.true)

pub returns : goal.returns
returns c =
    let s : Status = has c.args.at.now.status.now.set in
    let a : Activation = c.args.a.now in
    let caps_is : c.caps_of-of_role.result ≡ caps_of c.args.at.now.caps.now.items a.role =
    c.caps_of-of_role.ensures ∙ ap (λ xs. caps_of xs c.a.inside.role) c.as_slice.ensures ∙ ap (λ (b : Activation). caps_of c.args.at.now.caps.now.items b.role) c.a.view_is in
    let capped : (reached (caps_of c.args.at.now.caps.now.items a.role).length (c.args.at.now.stretch.to - a.begun)
    || reached (caps_of c.args.at.now.caps.now.items a.role).day (spent_by c.args.at.now.stretch.charges.now.charged c.args.at.now.stretch.active.now.items c.args.at.now.stretch.after c.args.at.now.stretch.to a.user a.role)) ≡ c.is_capped.result =
    sym (c.is_capped.ensures
    ∙ ap (λ k. reached k.length (c.args.at.now.stretch.to - a.begun) || reached k.day (spent_by c.args.at.now.stretch.charges.now.charged c.args.at.now.stretch.active.now.items c.args.at.now.stretch.after c.args.at.now.stretch.to a.user a.role)) caps_is) in
    let on : not (s (Enabled a.role)) ≡ false =
    ap (λ (b : Activation). not (s (Enabled b.role))) (sym c.a.view_is) ∙ ap not (sym c.is_on.ensures) ∙ ap not c.if-not-is_on.false in
    let told = ap (λ (b : Activation). is_none (activation_walk c.args.at.now.hierarchy.now s b.user b.role)) c.a.view_is in
    record { known = c.is_barred.ensures.known; dropped = barred_is c.is_barred.result (not (s (Enabled a.role))) (reached (caps_of c.args.at.now.caps.now.items a.role).length (c.args.at.now.stretch.to - a.begun)) (reached (caps_of c.args.at.now.caps.now.items a.role).day (spent_by c.args.at.now.stretch.charges.now.charged c.args.at.now.stretch.active.now.items c.args.at.now.stretch.after c.args.at.now.stretch.to a.user a.role)) (is_none (activation_walk c.args.at.now.hierarchy.now s a.user a.role)) (rw (← told) c.is_barred.ensures.barred) on (capped ∙ c.if-is_capped.false) }
