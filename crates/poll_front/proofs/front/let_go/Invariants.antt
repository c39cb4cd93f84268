use Rattle.std.proofs.Common.{◌≤◌, ◌+◌, length}
use Rattle.poll_front.specs.Tables.{AreOpenSeats, LetsGo}
use Rattle.poll_front.proofs.front.let_go.Given as goal

abbrev pub invariant-loop-i : goal.invariant-loop-i
invariant-loop-i g l =
    let a = g.P.Ports.harbour l.fn.ports in
    let b = g.P.Ports.harbour l.ports in
    record {
      lets : LetsGo a b l.seats l.i l.ends.items;
      behind : AreOpenSeats b l.i l.seats;
      room : length l.seats ≤ l.ends.spare + l.i;
    }
