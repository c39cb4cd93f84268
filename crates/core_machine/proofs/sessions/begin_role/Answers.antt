use Rattle.std.proofs.Common.{[], ◌∷◌, refl, sym, ap, subst, arith}
use Rattle.std.specs.Prelude.{Ok}
use Rattle.gt_base.specs.Held.{RoleWalk}
use Rattle.gt_base.specs.declared.requests.Reply.TheVariants.{Active}
use Rattle.gt_base.specs.declared.requests.Request.TheVariants.{Activate}
use Rattle.gtrbac_model.specs.Sessions.{Table}
use Rattle.session_table.specs.Tables.{table_of}
use Rattle.core_machine.specs.Coherent.{point_of}
use Rattle.core_machine.specs.Steps.{IsStep}
use Rattle.core_machine.specs.declared.states.State.{State}
use Rattle.core_machine.proofs.Asks.{activate_adds, activate_begins, refused_still}
use Rattle.core_machine.proofs.Sames.{same_ready, same_table}
use Rattle.core_machine.proofs.Stepping.{changed_step, no_step, step_after, told_after}
use Rattle.core_machine.proofs.Walks.{walk_is_short}
use Rattle.core_machine.proofs.sessions.begin_role.Goals as goal

pub copy_into-answer-requires-clause-room : goal.copy_into-answer-requires-clause-room
copy_into-answer-requires-clause-room c =
    let s = c.args.s.now in
    omega (
      arith,
      c.requires.edges.1,
      walk_is_short s.ground.policy (point_of s.line.line (table_of s.table)) c.args.actor c.args.session c.args.role c.in-Ok.walk c.in-Ok.ensures.answer,
    )

pub returns-in-Ok : goal.returns-in-Ok
returns-in-Ok c =
    let s = c.args.s.now in
    let t : State = record s { line = c.add_signals.new.line; table = c.start.new.table; entries = c.add_entry.new.entries } in
    subst (λ (w : RoleWalk). IsStep s t c.args.who c.args.actor (Activate c.args.session c.args.role) (Ok (Active w))) (sym c.copy_into-answer.ensures)
    (changed_step s t c.args.who c.args.actor (Activate c.args.session c.args.role) (Active c.in-Ok.walk) c.requires.asks c.keeps.ensures
    c.in-Ok.ensures.answer
    (record { ground = refl; birth = refl; entries = c.add_entry.ensures }) (c.in-Ok.signal ∷ [])
    (record {
      line = c.add_signals.ensures;
      charged_to = c.in-Ok.ensures.charged_to;
      queues = λ t. refl;
      adds = activate_adds s.line.line.now c.args.actor c.args.session c.args.role c.in-Ok.walk;
      table = c.in-Ok.ensures.table;
      begun = omega (arith, ap (λ (t : Table). t.begun) c.in-Ok.ensures.table, activate_begins s.line.line.now c.args.actor c.args.session c.args.role c.in-Ok.walk (table_of s.table), c.requires.asks.ready.kept.few);
    }))

pub tell-requires-clause-ready : goal.tell-requires-clause-ready
tell-requires-clause-ready c = same_ready c.args.s.now _ c.args.actor (Activate c.args.session c.args.role) (same_table c.args.s.now c.start.new.table c.in-Err-Refused.ensures.same c.in-Err-Refused.ensures.charged_to) c.requires.asks.ready

pub tell-requires-clause-told : goal.tell-requires-clause-told
tell-requires-clause-told c =
    let s = c.args.s.now in
    let refused = rw c.in-Err-Refused.field-0-is at c.in-Err-Refused.ensures.refused in
    rw c.in-Err-Refused.field-0-is (told_after s _ c.args.actor (Activate c.args.session c.args.role) _ (same_table c.args.s.now c.start.new.table c.in-Err-Refused.ensures.same c.in-Err-Refused.ensures.charged_to) c.requires.asks c.keeps.ensures
    refused)

pub tell-requires-clause-still : goal.tell-requires-clause-still
tell-requires-clause-still c = refused_still _ _ _

pub returns-in-Err-Refused : goal.returns-in-Err-Refused
returns-in-Err-Refused c = step_after c.args.s.now _ c.tell.new.s c.args.who c.args.actor (Activate c.args.session c.args.role) c.tell.result (same_table c.args.s.now c.start.new.table c.in-Err-Refused.ensures.same c.in-Err-Refused.ensures.charged_to) c.tell.ensures

pub returns : goal.returns
returns c = no_step c.args.s.now _ c.args.who c.args.actor (Activate c.args.session c.args.role) _ refl (same_table c.args.s.now c.start.new.table c.in-Err-Memory.ensures.same c.in-Err-Memory.ensures.charged_to) c.requires.asks.ready.kept
