use Rattle.std.proofs.Common.{◌∙◌, ap, sym, subst, Some, Err}
use Rattle.std.specs.Box.{with_value}
use Rattle.connection_laws.specs.Services.{Service, service_at}
use Rattle.poll_front.specs.declared.states.LinkState.{LinkState}
use Rattle.poll_front.specs.declared.states.Yield.TheVariants.{Later, End}
use Rattle.poll_front.specs.declared.seats.LinkRow.{LinkRow}
use Rattle.poll_front.specs.Fronts.{FrontSpot, front_spot, LinkComesTo, polled_as}
use Rattle.poll_front.specs.Tables.{SeatServed}
use Rattle.poll_front.proofs.SeatSteps.{seat_none, seat_later, seat_ended}
use Rattle.poll_front.proofs.front.serve_seat.Goals as goal

pub returns-in_default-clause-served : goal.returns-in_default-clause-served
returns-in_default-clause-served g c =
    let m = g.M.Machine in
    let sv = c.args.server.now in
    let p : FrontSpot g.row.M.Denot = front_spot c.args.pass.now (g.C.Clock.readings c.args.clock.now) c.args.counters.now in
    seat_none (service_at g.M.Keeps.list m.legal m.now_of sv.desk.now sv.policy.now) p sv.policy.now (g.P.Ports.harbour c.args.ports.now) sv.conn c.args.counters.now c.args.seat.now c.requires.seat c.in_default.not-Open

pub returns-in-Later-clause-served : goal.returns-in-Later-clause-served
returns-in-Later-clause-served g c =
    let m = g.M.Machine in
    let k = g.C.Clock in
    let h = g.P.Ports.harbour in
    let sv = c.args.server.now in
    let v : Service = service_at g.M.Keeps.list m.legal m.now_of sv.desk.now sv.policy.now in
    let p : FrontSpot g.row.M.Denot = front_spot c.args.pass.now (k.readings c.args.clock.now) c.args.counters.now in
    let p' : FrontSpot g.row.M.Denot = front_spot c.serve_ready.new.pass (k.readings c.serve_ready.new.clock) c.serve_ready.new.counters in
    let can = rw c.in-Open.is at c.requires.seat in
    let steps = subst (λ (z : LinkState). LinkComesTo v p p' (h c.args.ports.now) (h c.serve_ready.new.ports) sv.conn z c.serve_ready.new.state (Err Later)) c.deref_mut.ensures.value c.in-Later.ensures.steps in
    rw c.in-Open.is (seat_later v c.in-Open.state (with_value c.in-Open.state c.serve_ready.new.state) can.live c.in-Later.ensures.calls steps)

pub returns-in-Open-replace-clause-served : goal.returns-in-Open-replace-clause-served
returns-in-Open-replace-clause-served g c =
    let m = g.M.Machine in
    let k = g.C.Clock in
    let h = g.P.Ports.harbour in
    let sv = c.args.server.now in
    let v : Service = service_at g.M.Keeps.list m.legal m.now_of sv.desk.now sv.policy.now in
    let p : FrontSpot g.row.M.Denot = front_spot c.args.pass.now (k.readings c.args.clock.now) c.args.counters.now in
    let p' : FrontSpot g.row.M.Denot = front_spot c.serve_ready.new.pass (k.readings c.serve_ready.new.clock) c.serve_ready.new.counters in
    let can = rw c.in-Open.is at c.requires.seat in
    let steps = subst (λ (z : LinkState). LinkComesTo v p p' (h c.args.ports.now) (h c.serve_ready.new.ports) sv.conn z c.serve_ready.new.state (Err (End c.in-End.outcome))) c.deref_mut.ensures.value c.in-End.ensures.steps in
    subst (λ (z : LinkRow). SeatServed v p p' (h c.args.ports.now) (h c.finish.new.self) sv.conn c.args.seat.now z (Some c.in-End.outcome)) (sym c.replace.ensures.after)
    (rw c.in-Open.is (seat_ended v c.in-Open.state (with_value c.in-Open.state c.serve_ready.new.state) can.live (h c.finish.new.self) c.in-End.outcome c.polled-polled.result c.in-End.ensures.calls steps c.finish.ensures (c.polled-polled.ensures ∙ ap (λ (z : LinkState). polled_as z c.in-End.outcome) c.deref.ensures)))
