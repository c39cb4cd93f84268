use Rattle.std.proofs.Common.{◌≡◌, ◌≤◌, ◌-◌, ◌*◌, List, length}
use Rattle.gt_base.specs.declared.limits.TheConstants.{MAX_LINKS}
use Rattle.turn_lock.specs.Holders.{site_of}
use Rattle.connection_laws.specs.Turns.{IsIdle}
use Rattle.line_server.specs.Working.{Tale, WorkedSoFar, AllUnworn}
use Rattle.connection_laws.specs.Services.{service}
use Rattle.line_server.proofs.workers.work_on.Given as goal

abbrev pub invariant-loop-alloc : goal.invariant-loop-alloc
invariant-loop-alloc g l =
    let root = l.desk.root in
    let m = g.M.Machine in
    let k = g.C.Clock in
    let d = g.D.Door in
    record {
      tales : List (Tale g.row.D-L.Denot);
      worked : WorkedSoFar g.D.L.Link.traffic (service l.policy (g.M.Keeps.list root) (m.legal root) (m.now_of root)) l.fn.pass.number
          (record { pass = l.fn.pass; clock = k.readings l.fn.w.clock; door = d.doorway l.fn.w.door }) (record { pass = l.pass; clock = k.readings l.w.clock; door = d.doorway l.w.door }) l.w.served.items tales;
      unworn : AllUnworn l.w.served.items;
      idle : IsIdle (site_of l.desk) l.pass;
      number : l.pass.number ≡ l.fn.pass.number;
      calls : l.calls ≤ 67_108_864 * length l.w.served.items;
      few : length l.w.served.items ≤ MAX_LINKS;
      tally : (d.doorway l.w.door).tally ≡ (d.doorway l.fn.w.door).tally;
    }

abbrev pub decreases-loop-alloc : goal.decreases-loop-alloc
decreases-loop-alloc g l = MAX_LINKS - length l.w.served.items
