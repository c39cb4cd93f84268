use Rattle.std.proofs.Common.{sym, subst}
use Rattle.gt_base.specs.declared.requests.Actor.{Actor}
use Rattle.gt_base.specs.declared.requests.Actor.TheVariants.{User}
use Rattle.gt_base.specs.declared.requests.Request.TheVariants.{OpenSession}
use Rattle.core_machine.specs.Books.{point_in}
use Rattle.core_machine.specs.Coherent.{view_of}
use Rattle.core_machine.specs.Steps.{IsStep, MayAsk}
use Rattle.core_machine.proofs.Asks.{is_replied, refused_still}
use Rattle.core_machine.proofs.Raising.{open_for_none}
use Rattle.core_machine.proofs.Stepping.{may_after, no_step, step_after}
use Rattle.core_machine.proofs.sessions.open_session.Goals as goal

pub returns-in_err-make_room-in-User : goal.returns-in_err-make_room-in-User
returns-in_err-make_room-in-User c = no_step c.args.s.now c.make_room.new.s c.args.who c.args.actor OpenSession c.from_residual.result c.from_residual.ensures.0 c.in_err-make_room-in-User.ensures.same c.requires.ready.kept

pub begin-requires-clause-asks : goal.begin-requires-clause-asks
begin-requires-clause-asks c =
    may_after c.args.s.now c.make_room.new.s (User c.in-User.user) OpenSession c.in_ok-make_room-in-User.ensures.same (subst (λ (a : Actor). MayAsk c.args.s.now a OpenSession) c.in-User.is c.requires)

pub returns-in_ok-make_room-in-User : goal.returns-in_ok-make_room-in-User
returns-in_ok-make_room-in-User c =
    subst (λ (a : Actor). IsStep c.args.s.now c.begin.new.s c.args.who a OpenSession c.begin.result) (sym c.in-User.is)
    (step_after c.args.s.now c.make_room.new.s c.begin.new.s c.args.who (User c.in-User.user) OpenSession c.begin.result c.in_ok-make_room-in-User.ensures.same c.begin.ensures)

pub tell-requires-clause-told : goal.tell-requires-clause-told
tell-requires-clause-told c =
    let s = c.args.s.now in
    is_replied s.ground.policy (point_in (view_of s)) c.args.actor OpenSession _ c.requires.somebody
    (open_for_none s.ground.policy (point_in (view_of s)) c.args.actor c.in_default.not-User)

pub tell-requires-clause-still : goal.tell-requires-clause-still
tell-requires-clause-still c = refused_still _ _ _
