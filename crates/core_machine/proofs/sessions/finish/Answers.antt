use Rattle.std.proofs.Common.{◌≡◌, List, [], refl, sym, ap, ◌∙◌, arith}
use Rattle.gt_base.specs.declared.events.Signal.{Signal}
use Rattle.gt_base.specs.declared.requests.Reply.TheVariants.{Done}
use Rattle.gt_base.specs.declared.requests.Request.TheVariants.{CloseSession}
use Rattle.gtrbac_model.specs.Sessions.{Table, applied}
use Rattle.session_table.specs.Tables.{table_of}
use Rattle.core_machine.specs.Coherent.{point_of}
use Rattle.core_machine.proofs.Asks.{finish_adds, refused_still}
use Rattle.core_machine.proofs.Raising.{close_ends}
use Rattle.core_machine.proofs.Sames.{same_ready, same_table}
use Rattle.core_machine.proofs.Stepping.{changed_step, no_step, step_after, told_after}
use Rattle.core_machine.proofs.sessions.finish.Goals as goal
use Rattle.core_machine.proofs.sessions.finish.Goals.{After-as_slice}

change : (c : After-as_slice) → applied c.args.s.now.line.line.now c.args.actor (CloseSession c.args.session) Done (record (table_of c.args.s.now.table) { signals = [] }) ≡ record (table_of c.finish.new.self) { signals = c.as_slice.result.now }
change c = c.in-Ok.ensures.table ∙ ap (λ (xs : List Signal). record (table_of c.finish.new.self) { signals = xs }) (sym c.as_slice.ensures)

pub add_signals-requires : goal.add_signals-requires
add_signals-requires c =
    let s = c.args.s.now in
    omega (arith, close_ends s.line.line.now c.args.actor c.args.session (table_of s.table) (table_of c.finish.new.self) c.as_slice.result.now (change (goal.at.add_signals-requires c).After-as_slice), c.requires.spare)

pub returns-in-Ok : goal.returns-in-Ok
returns-in-Ok c =
    let s = c.args.s.now in
    changed_step s _ c.args.who c.args.actor (CloseSession c.args.session) Done c.requires.asks c.keeps.ensures
    (c.in-Ok.ensures.answer s.ground.policy (point_of s.line.line (table_of s.table)))
    (record { ground = refl; birth = refl; entries = c.add_entry.ensures }) c.as_slice.result.now
    (record {
      line = c.add_signals.ensures;
      charged_to = c.in-Ok.ensures.charged_to;
      queues = λ t. refl;
      adds = finish_adds s.line.line.now c.args.actor c.args.session;
      table = change (goal.at.returns-in-Ok c).After-as_slice;
      begun = omega (arith, ap (λ (t : Table). t.begun) c.in-Ok.ensures.table, c.requires.asks.ready.kept.few);
    })

pub tell-requires-clause-ready : goal.tell-requires-clause-ready
tell-requires-clause-ready c = same_ready c.args.s.now _ c.args.actor (CloseSession c.args.session) (same_table c.args.s.now c.finish.new.self c.in-Err-Refused.ensures.same c.in-Err-Refused.ensures.charged_to) c.requires.asks.ready

pub tell-requires-clause-told : goal.tell-requires-clause-told
tell-requires-clause-told c =
    let s = c.args.s.now in
    let refused = rw c.in-Err-Refused.field-0-is at c.in-Err-Refused.ensures.refused in
    told_after s _ c.args.actor (CloseSession c.args.session) _ (same_table c.args.s.now c.finish.new.self c.in-Err-Refused.ensures.same c.in-Err-Refused.ensures.charged_to) c.requires.asks c.keeps.ensures
    (refused s.ground.policy (point_of s.line.line (table_of s.table)))

pub tell-requires-clause-still : goal.tell-requires-clause-still
tell-requires-clause-still c = refused_still _ _ _

pub returns-in-Err-Refused : goal.returns-in-Err-Refused
returns-in-Err-Refused c = step_after c.args.s.now _ c.tell.new.s c.args.who c.args.actor (CloseSession c.args.session) c.tell.result (same_table c.args.s.now c.finish.new.self c.in-Err-Refused.ensures.same c.in-Err-Refused.ensures.charged_to) c.tell.ensures

pub returns-in-Err-Memory : goal.returns-in-Err-Memory
returns-in-Err-Memory c = no_step c.args.s.now _ c.args.who c.args.actor (CloseSession c.args.session) _ refl (same_table c.args.s.now c.finish.new.self c.in-Err-Memory.ensures.same c.in-Err-Memory.ensures.charged_to) c.requires.asks.ready.kept
