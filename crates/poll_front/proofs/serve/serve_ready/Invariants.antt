use Rattle.std.proofs.Common.{◌+◌, ◌-◌, ◌*◌, Ok}
use Rattle.connection_laws.specs.Services.{service_at}
use Rattle.poll_front.specs.Fronts.{front_spot, CallsOn, LinkComesTo, CanServe, StaysIdleFrom, IsReplyWritten}
use Rattle.poll_front.proofs.serve.serve_ready.Given as goal

abbrev pub invariant-loop-state : goal.invariant-loop-state
invariant-loop-state g l =
    let m = g.M.Machine in
    let k = g.C.Clock in
    let h = g.P.Ports.harbour in
    record {
      steps : LinkComesTo (service_at g.M.Keeps.list m.legal m.now_of l.server.desk.now l.server.policy.now) (front_spot l.fn.pass (k.readings l.fn.clock) l.fn.counters) (front_spot l.pass (k.readings l.clock) l.counters) (h l.fn.ports) (h l.ports) l.server.conn l.fn.state l.state (Ok tt);
      ready : StaysIdleFrom m.legal m.now_of l.server.desk.now l.fn.pass l.pass l.counters.reached;
      calls : CallsOn (h l.fn.ports) (h l.ports) l.server.conn (Ok tt);
      can : CanServe l.server.policy.now (h l.ports) l.server.conn l.counters l.state;
      written : IsReplyWritten l.state;
    }

abbrev pub decreases-loop-state : goal.decreases-loop-state
decreases-loop-state g l = 2 * l.state.left + (l.state.upto - l.state.from)
