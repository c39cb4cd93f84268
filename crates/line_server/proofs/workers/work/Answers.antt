use Rattle.std.proofs.Common.{ap}
use Rattle.gt_io.specs.Links.{Doorway}
use Rattle.connection_laws.specs.Services.{service}
use Rattle.line_server.specs.Working.{WorkerSpot}
use Rattle.line_server.proofs.Links.{works_closed}
use Rattle.line_server.proofs.workers.work.Goals as goal

pub returns : goal.returns
returns g c =
    let m = g.M.Machine in
    let root = c.args.desk.now.root in
    let k = g.C.Clock in
    let d = g.D.Door in
    let o : WorkerSpot g.row.M.Denot g.row.D-L.Denot = record { pass = c.args.pass.now; clock = k.readings c.args.w.now.clock; door = d.doorway c.args.w.now.door } in
    let p : WorkerSpot g.row.M.Denot g.row.D-L.Denot = record { pass = c.work_on-w.new.pass; clock = k.readings c.work_on-w.new.w.clock; door = d.doorway c.work_on-w.new.w.door } in
    record {
      works = works_closed g.D.L.Link.traffic (service c.args.policy.now (g.M.Keeps.list root) (m.legal root) (m.now_of root)) c.args.pass.now.number o p (d.doorway c.close.new.self) c.work_on-w.new.w.served.items c.work_on-w.result c.close.ensures c.work_on-w.ensures.works;
      idle = c.work_on-w.ensures.pass.0;
      number_is = c.work_on-w.ensures.pass.1;
      closed = ap (λ (e : Doorway g.row.D-L.Denot). e.closed) c.close.ensures;
    }
