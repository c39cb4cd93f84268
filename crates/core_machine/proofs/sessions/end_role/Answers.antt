use Rattle.std.proofs.Common.{[], ◌∷◌, refl, ap, arith}
use Rattle.gt_base.specs.declared.requests.Reply.TheVariants.{Done}
use Rattle.gt_base.specs.declared.requests.Request.TheVariants.{Deactivate}
use Rattle.gtrbac_model.specs.Sessions.{Table}
use Rattle.session_table.specs.Tables.{table_of}
use Rattle.core_machine.specs.Coherent.{point_of}
use Rattle.core_machine.proofs.Asks.{deactivate_adds, refused_still}
use Rattle.core_machine.proofs.Sames.{same_ready, same_table}
use Rattle.core_machine.proofs.Stepping.{changed_step, step_after, told_after}
use Rattle.core_machine.proofs.sessions.end_role.Goals as goal

pub returns-in-Ok : goal.returns-in-Ok
returns-in-Ok c =
    let s = c.args.s.now in
    changed_step s _ c.args.who c.args.actor (Deactivate c.args.session c.args.role) Done c.requires.asks c.keeps.ensures
    (c.in-Ok.ensures.answer s.ground.policy (point_of s.line.line (table_of s.table)))
    (record { ground = refl; birth = refl; entries = c.add_entry.ensures }) (c.in-Ok.signal ∷ [])
    (record {
      line = c.add_signals.ensures;
      charged_to = c.in-Ok.ensures.charged_to;
      queues = λ t. refl;
      adds = deactivate_adds s.line.line.now c.args.actor c.args.session c.args.role;
      table = c.in-Ok.ensures.table;
      begun = omega (arith, ap (λ (t : Table). t.begun) c.in-Ok.ensures.table, c.requires.asks.ready.kept.few);
    })

pub tell-requires-clause-ready : goal.tell-requires-clause-ready
tell-requires-clause-ready c = same_ready c.args.s.now _ c.args.actor (Deactivate c.args.session c.args.role) (same_table c.args.s.now c.deactivate.new.self c.in-Err-Refused.ensures.same c.in-Err-Refused.ensures.charged_to) c.requires.asks.ready

pub tell-requires-clause-told : goal.tell-requires-clause-told
tell-requires-clause-told c =
    let s = c.args.s.now in
    let refused = rw c.in-Err-Refused.field-0-is at c.in-Err-Refused.ensures.refused in
    told_after s _ c.args.actor (Deactivate c.args.session c.args.role) _ (same_table c.args.s.now c.deactivate.new.self c.in-Err-Refused.ensures.same c.in-Err-Refused.ensures.charged_to) c.requires.asks c.keeps.ensures
    (refused s.ground.policy (point_of s.line.line (table_of s.table)))

pub tell-requires-clause-still : goal.tell-requires-clause-still
tell-requires-clause-still c = refused_still _ _ _

pub returns-in-Err-Refused : goal.returns-in-Err-Refused
returns-in-Err-Refused c = step_after c.args.s.now _ c.tell.new.s c.args.who c.args.actor (Deactivate c.args.session c.args.role) c.tell.result (same_table c.args.s.now c.deactivate.new.self c.in-Err-Refused.ensures.same c.in-Err-Refused.ensures.charged_to) c.tell.ensures
