use Rattle.gt_base.specs.declared.requests.Request.TheVariants.{Deactivate}
use Rattle.core_machine.proofs.Stepping.{may_after, no_step, step_after}
use Rattle.core_machine.proofs.sessions.deactivate.Goals as goal

pub returns-in_err-make_room : goal.returns-in_err-make_room
returns-in_err-make_room c = no_step c.args.s.now c.make_room.new.s c.args.who c.args.actor (Deactivate c.args.session c.args.role) c.from_residual.result c.from_residual.ensures.0 c.in_err-make_room.ensures.same c.requires.ready.kept

pub end_role-requires-clause-asks : goal.end_role-requires-clause-asks
end_role-requires-clause-asks c = may_after c.args.s.now c.make_room.new.s c.args.actor (Deactivate c.args.session c.args.role) c.in_ok-make_room.ensures.same c.requires

pub returns : goal.returns
returns c = step_after c.args.s.now c.make_room.new.s c.end_role.new.s c.args.who c.args.actor (Deactivate c.args.session c.args.role) c.end_role.result c.in_ok-make_room.ensures.same c.end_role.ensures
