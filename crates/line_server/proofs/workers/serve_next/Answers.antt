use Rattle.std.proofs.Common.{◌+◌, List, sym, subst, arith}
use Rattle.connection_laws.specs.declared.ends.LinkEnd.{LinkEnd}
use Rattle.line_server.specs.declared.ended.Served.{Served}
use Rattle.connection_laws.specs.Attending.{EndsBy}
use Rattle.connection_laws.specs.Clerks.{WearsAt}
use Rattle.line_server.specs.Working.{WorkerSpot, WorkedSoFar}
use Rattle.line_server.proofs.Links.{link_done, ends_of}
use Rattle.connection_laws.specs.Services.{service}
use Rattle.line_server.proofs.workers.serve_next.Goals as goal

pub returns-in-Ok-Some-clause-works : goal.returns-in-Ok-Some-clause-works
returns-in-Ok-Some-clause-works g c =
    let m = g.M.Machine in
    let traffic = g.D.L.Link.traffic in
    let k = g.C.Clock in
    let root = c.args.desk.now.root in
    let door = rw c.in-Ok-Some.field-0-is at c.in-Ok-Some.ensures.links in
    let fresh = rw c.in-Ok-Some.field-0-is at c.in-Ok-Some.ensures.fresh in
    let tally = rw c.in-Ok-Some.field-0-is at c.in-Ok-Some.ensures.tally in
    let v = c.serve_link-report.ensures.serves in
    let count = c.len.ensures in
    let old = c.args.w.now.served.items in
    let p : WorkerSpot g.row.M.Denot g.row.D-L.Denot = record { pass = c.args.pass.now; clock = k.readings c.args.w.now.clock; door = g.D.Door.doorway c.args.w.now.door } in
    let p' : WorkerSpot g.row.M.Denot g.row.D-L.Denot = record { pass = c.serve_link-report.new.pass; clock = k.readings c.serve_link-report.new.clock; door = g.D.Door.doorway c.next.new.self } in
    let s : Served g.row.D-L.Denot = record { link = c.serve_link-report.new.link; report = c.serve_link-report.result } in
    λ o tales worked unworn.
    let d = link_done traffic c.args.policy.now (g.M.Keeps.list root) (m.legal root) (m.now_of root) c.args.pass.now.number o p p' old tales s c.in-Ok-Some.link (c.len.result + 1) c.args.calls.now c.serve_link-report.new.calls
    worked v (omega (arith, count)) door fresh in (
      d.0,
      subst (λ (items : List (Served g.row.D-L.Denot)). WorkedSoFar traffic (service c.args.policy.now (g.M.Keeps.list root) (m.legal root) (m.now_of root)) c.args.pass.now.number o p' items d.0) (sym c.push.ensures.items) d.1,
      ends_of p'.door.links p.door.tally p'.door.tally c.serve_link-report.new.pass.draws old c.push.new.self.items s c.worn_of.result tally c.push.ensures.items unworn
          (λ n is. let cause = subst (λ (e : LinkEnd). EndsBy (WearsAt c.serve_link-report.new.pass.draws) (traffic c.in-Ok-Some.link) (traffic c.serve_link-report.new.link) v.taken e) is v.cause in cause.0) c.worn_of.ensures,
    )
