use Rattle.std.proofs.Common.{refl}
use Rattle.gt_base.specs.declared.requests.Refusal.TheVariants.{Beyond}
use Rattle.gt_base.specs.declared.requests.Reply.TheVariants.{Refused}
use Rattle.gt_base.specs.declared.requests.Request.TheVariants.{Raise}
use Rattle.session_table.specs.Tables.{table_of}
use Rattle.core_machine.specs.Coherent.{point_of}
use Rattle.core_machine.proofs.Asks.{refused_still}
use Rattle.core_machine.proofs.Raising.{raise_in_time, raise_beyond}
use Rattle.core_machine.proofs.Sames.{same_ready}
use Rattle.core_machine.proofs.Stepping.{no_step, raised_step, step_after, told_after}
use Rattle.core_machine.proofs.entering.queue.Goals as goal

pub returns-in-Ok : goal.returns-in-Ok
returns-in-Ok c =
    let s = c.args.s.now in
    raised_step s _ c.args.who c.args.actor c.args.head c.args.delay c.in-Ok.due c.requires.asks c.keeps.ensures
    (raise_in_time s.ground.policy (point_of s.line.line (table_of s.table)) c.args.actor c.args.head c.args.delay c.in-Ok.due c.requires.admin c.in-Ok.ensures.due c.in-Ok.ensures.within)
    (record { ground = refl; birth = refl; entries = c.add_entry.ensures }) c.in-Ok.ensures.line refl refl

pub tell-requires-clause-ready : goal.tell-requires-clause-ready
tell-requires-clause-ready c =
    same_ready c.args.s.now _ c.args.actor (Raise c.args.head c.args.delay) (record { ground = refl; birth = refl; line = c.in-Err-Beyond.ensures.err; table = refl; charged_to = refl; entries = refl }) c.requires.asks.ready

pub tell-requires-clause-told : goal.tell-requires-clause-told
tell-requires-clause-told c =
    let s = c.args.s.now in
    let is = rw c.in-Err-Beyond.field-0-is at c.in-Err-Beyond.ensures.beyond in
    told_after s (record s { line = c.request.new.self }) c.args.actor (Raise c.args.head c.args.delay) (Refused (Beyond c.in-Err-Beyond.due)) (record { ground = refl; birth = refl; line = c.in-Err-Beyond.ensures.err; table = refl; charged_to = refl; entries = refl }) c.requires.asks c.keeps.ensures
    (raise_beyond s.ground.policy (point_of s.line.line (table_of s.table)) c.args.actor c.args.head c.args.delay c.in-Err-Beyond.due c.requires.admin is.0 is.1)

pub tell-requires-clause-still : goal.tell-requires-clause-still
tell-requires-clause-still c = refused_still _ _ _

pub returns-in-Err-Beyond : goal.returns-in-Err-Beyond
returns-in-Err-Beyond c =
    step_after c.args.s.now _ _ c.args.who c.args.actor (Raise c.args.head c.args.delay) c.tell.result (record { ground = refl; birth = refl; line = c.in-Err-Beyond.ensures.err; table = refl; charged_to = refl; entries = refl }) c.tell.ensures

pub returns-in-Err-Memory : goal.returns-in-Err-Memory
returns-in-Err-Memory c =
    no_step c.args.s.now _ c.args.who c.args.actor (Raise c.args.head c.args.delay) _ refl (record { ground = refl; birth = refl; line = c.in-Err-Memory.ensures.err; table = refl; charged_to = refl; entries = refl }) c.requires.asks.ready.kept
