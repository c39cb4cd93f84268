use Rattle.time_engine.specs.Kept.{view_of}
use Rattle.time_engine.proofs.Bases.{due_next}
use Rattle.time_engine.proofs.dues.due_in_looks.Goals as goal

pub returns-clause-next : goal.returns-clause-next
returns-clause-next g c =
    let s = c.args.s.now in
    due_next c.args.policy.now.policy (view_of s) c.earlier.result
    (c.earlier.ensures _ _ s.present (c.earlier-later.ensures _ _ s.present c.next_raised-raised.ensures.next c.next_pending.ensures.next) c.next_signals.ensures.next)
