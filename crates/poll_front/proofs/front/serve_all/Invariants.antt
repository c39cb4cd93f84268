use Rattle.std.proofs.Common.{◌≤◌, ◌<◌, length, vec_capacity}
use Rattle.connection_laws.specs.Services.{service_at}
use Rattle.poll_front.specs.Fronts.{front_spot, StaysIdleFrom}
use Rattle.poll_front.specs.Tables.{first_spot}
use Rattle.poll_front.proofs.Looping.{Held}
use Rattle.poll_front.proofs.front.serve_all.Given as goal

abbrev pub invariant-loop : goal.invariant-loop
invariant-loop g l =
    let m = g.M.Machine in
    let k = g.C.Clock in
    let h = g.P.Ports.harbour in
    record {
      held : Held (service_at g.M.Keeps.list m.legal m.now_of l.server.desk.now l.server.policy.now) (first_spot l.fn.pass (k.readings l.fn.clock)) (front_spot l.pass (k.readings l.clock) l.counters) (h l.fn.ports) (h l.ports) l.seats.items l.busy;
      few : length l.seats.items < 100_000;
      ready : StaysIdleFrom m.legal m.now_of l.server.desk.now l.fn.pass l.pass l.counters.reached;
      room : 100_000 ≤ vec_capacity l.seats;
    }
