use Rattle.std.proofs.Common.{◌≡◌, ◌∙◌, refl, sym, subst, arith, Ok, Err}
use Rattle.connection_laws.specs.Services.{Service, service_at}
use Rattle.poll_front.specs.declared.ends.PollEnd.TheVariants.{Spent}
use Rattle.poll_front.specs.declared.states.LinkState.{LinkState}
use Rattle.poll_front.specs.Fronts.{FrontSpot, front_spot, LinkComesTo, CanServe, IsReplyWritten}
use Rattle.poll_front.proofs.Calls.{calls_twice, calls_end, live_kept}
use Rattle.poll_front.proofs.Going.{steps_then, steps_push, steps_front, steps_fill, steps_spent, can_next, can_fill, can_front}
use Rattle.poll_front.proofs.serve.serve_ready.Goals as goal

pub returns-in-Err : goal.returns-in-Err
returns-in-Err g c =
    let m = g.M.Machine in
    let h = g.P.Ports.harbour in
    let sv = c.args.server.now in
    let v : Service = service_at g.M.Keeps.list m.legal m.now_of sv.desk.now sv.policy.now in
    let p : FrontSpot g.row.M.Denot = front_spot c.args.pass.now (g.C.Clock.readings c.args.clock.now) c.args.counters.now in
    let w = c.in-Err.ensures in
    record {
      steps = subst (λ (z : LinkState). LinkComesTo v p p (h c.args.ports.now) (h c.write_out.new.ports) sv.conn c.args.state.now z (Err c.in-Err.why)) (sym w.same) (steps_push v p w.pushes);
      ready = ((c.requires.ready.asks.idle, refl), c.requires.ready.reached);
      calls = w.pushes.calls;
    }

pub loop-state-init : goal.loop-state-init
loop-state-init g c =
    let m = g.M.Machine in
    let h = g.P.Ports.harbour in
    let sv = c.args.server.now in
    let v : Service = service_at g.M.Keeps.list m.legal m.now_of sv.desk.now sv.policy.now in
    let s : LinkState = c.args.state.now in
    let p : FrontSpot g.row.M.Denot = front_spot c.args.pass.now (g.C.Clock.readings c.args.clock.now) c.args.counters.now in
    let b = h c.write_out.new.ports in
    let w = c.in_default.ensures in
    let can = c.requires.state in
    record {
      steps = subst (λ (z : LinkState). LinkComesTo v p p (h c.args.ports.now) b sv.conn s z (Ok tt)) (sym w.same) (steps_push v p w.pushes);
      ready = ((c.requires.ready.asks.idle, refl), c.requires.ready.reached);
      calls = w.pushes.calls;
      can = subst (λ (z : LinkState). CanServe sv.policy.now b sv.conn c.args.counters.now z) (sym w.same) (record { live = live_kept w.pushes.calls can.live; told = w.pushes.within.1; waits = can.waits; talk = can.talk });
      written = subst IsReplyWritten (sym w.same) w.pushes.pushed;
    }

pub returns-in-Err-take_next : goal.returns-in-Err-take_next
returns-in-Err-take_next g c =
    let m = g.M.Machine in
    let sv = c.args.server.now in
    let v : Service = service_at g.M.Keeps.list m.legal m.now_of sv.desk.now sv.policy.now in
    let p : FrontSpot g.row.M.Denot = front_spot c.loop-state.pass (g.C.Clock.readings c.loop-state.clock) c.loop-state.counters in
    let inv = c.loop-state.invariant in
    let steps = steps_then v inv.steps (steps_front v p (g.P.Ports.harbour c.loop-state.ports) sv.conn c.loop-state.state c.take_front.new.state c.take_front.ensures) in
    let e = c.in-Err-take_next.ensures in
    record { steps = steps_then v steps e.steps; ready = ((e.ready.0.0, e.ready.0.1 ∙ inv.ready.0.1), e.ready.1); calls = calls_twice inv.calls e.calls }

pub loop-state-preserved-in_default-take_next : goal.loop-state-preserved-in_default-take_next
loop-state-preserved-in_default-take_next g c =
    let m = g.M.Machine in
    let sv = c.args.server.now in
    let v : Service = service_at g.M.Keeps.list m.legal m.now_of sv.desk.now sv.policy.now in
    let p : FrontSpot g.row.M.Denot = front_spot c.loop-state.pass (g.C.Clock.readings c.loop-state.clock) c.loop-state.counters in
    let inv = c.loop-state.invariant in
    let steps = steps_then v inv.steps (steps_front v p (g.P.Ports.harbour c.loop-state.ports) sv.conn c.loop-state.state c.take_front.new.state c.take_front.ensures) in
    let e = c.in_default-take_next.ensures in
    record {
      steps = steps_then v steps e.steps;
      ready = ((e.ready.0.0, e.ready.0.1 ∙ inv.ready.0.1), e.ready.1);
      calls = calls_twice inv.calls e.calls;
      can = can_next (can_front inv.can c.take_front.ensures) e.calls c.if-state.true e.actor e.counts e.told e.one;
      written = e.told;
    }

pub loop-state-preserved : goal.loop-state-preserved
loop-state-preserved g c =
    let m = g.M.Machine in
    let h = g.P.Ports.harbour in
    let sv = c.args.server.now in
    let v : Service = service_at g.M.Keeps.list m.legal m.now_of sv.desk.now sv.policy.now in
    let p : FrontSpot g.row.M.Denot = front_spot c.loop-state.pass (g.C.Clock.readings c.loop-state.clock) c.loop-state.counters in
    let inv = c.loop-state.invariant in
    let s : LinkState = c.take_front.new.state in
    let steps = steps_then v inv.steps (steps_front v p (h c.loop-state.ports) sv.conn c.loop-state.state s c.take_front.ensures) in
    let can = can_front inv.can c.take_front.ensures in
    let written = subst IsReplyWritten (sym c.take_front.ensures.rest) inv.written in
    let e = c.in_default-fill.ensures in
    let waits = can.waits in
    let left = c.if-state-gt0.true in
    let past = c.if-state.false in
    let none : s.from ≡ s.upto = omega (arith, waits, past) in
    record {
      steps = steps_then v steps (steps_fill v p e.fills written none (omega (arith, left)) e.size);
      ready = inv.ready;
      calls = calls_twice inv.calls e.fills.calls;
      can = can_fill ((h c.fill.new.ports).port sv.conn) can e.fills.calls none e.fills.filled;
      written = subst IsReplyWritten (sym e.fills.filled.4) written;
    }

pub returns-in-Err-fill : goal.returns-in-Err-fill
returns-in-Err-fill g c =
    let m = g.M.Machine in
    let sv = c.args.server.now in
    let v : Service = service_at g.M.Keeps.list m.legal m.now_of sv.desk.now sv.policy.now in
    let p : FrontSpot g.row.M.Denot = front_spot c.loop-state.pass (g.C.Clock.readings c.loop-state.clock) c.loop-state.counters in
    let inv = c.loop-state.invariant in
    let steps = steps_then v inv.steps (steps_front v p (g.P.Ports.harbour c.loop-state.ports) sv.conn c.loop-state.state c.take_front.new.state c.take_front.ensures) in
    let e = c.in-Err-fill.ensures in
    let waits = (can_front inv.can c.take_front.ensures).waits in
    let left = c.if-state-gt0.true in
    let past = c.if-state.false in
    record { steps = steps_then v steps (steps_fill v p e.fills (subst IsReplyWritten (sym c.take_front.ensures.rest) inv.written) (omega (arith, waits, past)) (omega (arith, left)) e.size); ready = inv.ready; calls = calls_twice inv.calls e.fills.calls }

pub returns-else-state-gt0 : goal.returns-else-state-gt0
returns-else-state-gt0 g c =
    let m = g.M.Machine in
    let sv = c.args.server.now in
    let v : Service = service_at g.M.Keeps.list m.legal m.now_of sv.desk.now sv.policy.now in
    let p : FrontSpot g.row.M.Denot = front_spot c.loop-state.pass (g.C.Clock.readings c.loop-state.clock) c.loop-state.counters in
    let inv = c.loop-state.invariant in
    let s : LinkState = c.take_front.new.state in
    let a = g.P.Ports.harbour c.loop-state.ports in
    let steps = steps_then v inv.steps (steps_front v p a sv.conn c.loop-state.state s c.take_front.ensures) in
    let waits = (can_front inv.can c.take_front.ensures).waits in
    let left = c.if-state-gt0.false in
    let past = c.if-state.false in
    record {
      steps = steps_then v steps (steps_spent v p a sv.conn s inv.calls.live (subst IsReplyWritten (sym c.take_front.ensures.rest) inv.written) (omega (arith, waits, past)) (omega (arith, left)));
      ready = inv.ready;
      calls = calls_end Spent inv.calls;
    }
