use Rattle.std.proofs.Common.{◌<◌, sym, ap, subst, ◌∙◌}
use Rattle.gt_base.specs.declared.requests.Actor.{Actor}
use Rattle.gt_base.specs.declared.requests.Request.TheVariants.{Raise}
use Rattle.gtrbac_model.specs.History.{IsNamedWish, ask}
use Rattle.gtrbac_model.specs.Reply.{is_admin}
use Rattle.policy_words.specs.Naming.{NamedPolicy}
use Rattle.core_machine.specs.Books.{point_in}
use Rattle.core_machine.specs.Coherent.{view_of}
use Rattle.core_machine.proofs.Asks.{is_replied, refused_still}
use Rattle.core_machine.proofs.Raising.{raise_unentitled}
use Rattle.core_machine.proofs.Stepping.{may_after, no_step, step_after}
use Rattle.core_machine.proofs.entering.raise.Goals as goal

pub returns-in_err-make_room : goal.returns-in_err-make_room
returns-in_err-make_room c = no_step c.args.s.now c.make_room.new.s c.args.who c.args.actor (Raise c.args.head c.args.delay) c.from_residual.result c.from_residual.ensures.0 c.in_err-make_room.ensures.same c.requires.ready.kept

pub is_admin-requires : goal.is_admin-requires
is_admin-requires c =
    λ u e. subst (λ (g : NamedPolicy). u.0 < g.policy.users) (sym c.policy.ensures)
    (subst (λ (a : Actor). IsNamedWish c.args.s.now.ground.policy (ask a (Raise c.args.head c.args.delay))) e c.requires.ready.named).0

pub queue-requires-clause-asks : goal.queue-requires-clause-asks
queue-requires-clause-asks c = may_after c.args.s.now c.make_room.new.s c.args.actor (Raise c.args.head c.args.delay) c.in_ok-make_room.ensures.same c.requires

pub queue-requires-clause-admin : goal.queue-requires-clause-admin
queue-requires-clause-admin c =
    ap (λ (g : NamedPolicy). is_admin g.policy c.args.actor) (c.in_ok-make_room.ensures.same.ground ∙ sym c.policy.ensures) ∙ sym c.is_admin.ensures ∙ c.if-is_admin.true

pub tell-requires-clause-told : goal.tell-requires-clause-told
tell-requires-clause-told c =
    let s = c.args.s.now in
    is_replied s.ground.policy (point_in (view_of s)) c.args.actor (Raise c.args.head c.args.delay) _ c.requires.somebody
    (raise_unentitled s.ground.policy (point_in (view_of s)) c.args.actor c.args.head c.args.delay
    (ap (λ (g : NamedPolicy). is_admin g.policy c.args.actor) (sym c.policy.ensures) ∙ sym c.is_admin.ensures ∙ c.if-is_admin.false))

pub tell-requires-clause-still : goal.tell-requires-clause-still
tell-requires-clause-still c = refused_still _ _ _

pub returns-in_ok-make_room : goal.returns-in_ok-make_room
returns-in_ok-make_room c = step_after c.args.s.now c.make_room.new.s c.queue.new.s c.args.who c.args.actor (Raise c.args.head c.args.delay) c.queue.result c.in_ok-make_room.ensures.same c.queue.ensures
