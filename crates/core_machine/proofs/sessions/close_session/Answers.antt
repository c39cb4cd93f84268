use Rattle.std.proofs.Common.{ap, arith, count_by}
use Rattle.gtrbac_model.specs.Sessions.{Table}
use Rattle.session_table.specs.Opened.{in_session}
use Rattle.gt_base.specs.declared.requests.Request.TheVariants.{CloseSession}
use Rattle.core_machine.proofs.Stepping.{may_after, no_step, step_after}
use Rattle.core_machine.proofs.sessions.close_session.Goals as goal

pub returns-in_err-make_room : goal.returns-in_err-make_room
returns-in_err-make_room c = no_step c.args.s.now c.make_room.new.s c.args.who c.args.actor (CloseSession c.args.session) c.from_residual.result c.from_residual.ensures.0 c.in_err-make_room.ensures.same c.requires.ready.kept

pub finish-requires-clause-asks : goal.finish-requires-clause-asks
finish-requires-clause-asks c = may_after c.args.s.now c.make_room.new.s c.args.actor (CloseSession c.args.session) c.in_ok-make_room.ensures.same c.requires

pub returns : goal.returns
returns c = step_after c.args.s.now c.make_room.new.s c.finish.new.s c.args.who c.args.actor (CloseSession c.args.session) c.finish.result c.in_ok-make_room.ensures.same c.finish.ensures

pub finish-requires-clause-spare : goal.finish-requires-clause-spare
finish-requires-clause-spare c =
    omega (arith, c.most_in-ending.ensures, c.in_ok-make_room.ensures.room.1, ap (λ (t : Table). count_by (in_session c.args.session) t.active) c.in_ok-make_room.ensures.same.table)
