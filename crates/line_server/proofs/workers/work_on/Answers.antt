use Rattle.std.proofs.Common.{None, ◌<◌, List, [], length, sym, ap, subst, ◌∙◌, refl, arith}
use Rattle.gt_base.specs.declared.limits.TheConstants.{MAX_LINKS}
use Rattle.line_server.specs.declared.ended.Served.{Served}
use Rattle.line_server.specs.declared.ended.WorkEnd.TheVariants.{Memory}
use Rattle.line_server.specs.Working.{WorkerSpot, AllUnworn, WorksThrough}
use Rattle.line_server.proofs.Links.{no_links, next_done, goes_on, at_rest}
use Rattle.connection_laws.specs.Services.{service}
use Rattle.gt_io.specs.Links.{Doorway}
use Rattle.line_server.proofs.workers.work_on.Goals as goal

pub loop-alloc-init : goal.loop-alloc-init
loop-alloc-init g c =
    let m = g.M.Machine in
    let root = c.args.desk.now.root in
    let empty = c.requires.empty in
    let none = ap (λ (ss : List (Served g.row.D-L.Denot)). length ss) empty in
    let o : WorkerSpot g.row.M.Denot g.row.D-L.Denot = record { pass = c.args.pass.now; clock = g.C.Clock.readings c.args.w.now.clock; door = g.D.Door.doorway c.args.w.now.door } in
    record {
      tales = [];
      worked = no_links g.D.L.Link.traffic c.args.policy.now (g.M.Keeps.list root) (m.legal root) (m.now_of root) c.args.pass.now.number o c.args.w.now.served.items empty;
      unworn = subst (λ (ss : List (Served g.row.D-L.Denot)). AllUnworn ss) (sym empty) tt;
      idle = c.requires.ready.idle;
      number = refl;
      calls = omega arith;
      few = omega (arith, none);
      tally = refl;
    }

pub returns-in-Some-clause-works : goal.returns-in-Some-clause-works
returns-in-Some-clause-works g c =
    let m = g.M.Machine in
    let root = c.args.desk.now.root in
    let inv = c.loop-alloc.invariant in
    let k = g.C.Clock in
    let d = g.D.Door in
    let traffic = g.D.L.Link.traffic in
    let v = service c.args.policy.now (g.M.Keeps.list root) (m.legal root) (m.now_of root) in
    let o : WorkerSpot g.row.M.Denot g.row.D-L.Denot = record { pass = c.args.pass.now; clock = k.readings c.args.w.now.clock; door = d.doorway c.args.w.now.door } in
    let p : WorkerSpot g.row.M.Denot g.row.D-L.Denot = record { pass = c.loop-alloc.pass; clock = k.readings c.loop-alloc.w.clock; door = d.doorway c.make_room.new.door } in
    let worked = at_rest traffic v c.args.pass.now.number o p (d.doorway c.loop-alloc.w.door) c.loop-alloc.w.served.items inv.tales c.make_room.ensures.door inv.worked in
    let p' : WorkerSpot g.row.M.Denot g.row.D-L.Denot = record { pass = c.serve_next.new.pass; clock = k.readings c.serve_next.new.w.clock; door = d.doorway c.serve_next.new.w.door } in
    next_done g.D.L.Link.traffic c.args.policy.now (g.M.Keeps.list root) (m.legal root) (m.now_of root) c.args.pass.now.number c.loop-alloc.pass.number o p p'
    c.loop-alloc.w.served.items c.make_room.new.list.items c.serve_next.new.w.served.items inv.tales c.in-Some.end
    inv.number c.make_room.ensures.items (ap (λ (e : Doorway g.row.D-L.Denot). e.tally) c.make_room.ensures.door ∙ inv.tally) worked inv.unworn c.in-Some.ensures.works

pub loop-alloc-preserved : goal.loop-alloc-preserved
loop-alloc-preserved g c =
    let m = g.M.Machine in
    let root = c.args.desk.now.root in
    let inv = c.loop-alloc.invariant in
    let k = g.C.Clock in
    let d = g.D.Door in
    let traffic = g.D.L.Link.traffic in
    let v = service c.args.policy.now (g.M.Keeps.list root) (m.legal root) (m.now_of root) in
    let o : WorkerSpot g.row.M.Denot g.row.D-L.Denot = record { pass = c.args.pass.now; clock = k.readings c.args.w.now.clock; door = d.doorway c.args.w.now.door } in
    let p : WorkerSpot g.row.M.Denot g.row.D-L.Denot = record { pass = c.loop-alloc.pass; clock = k.readings c.loop-alloc.w.clock; door = d.doorway c.make_room.new.door } in
    let worked = at_rest traffic v c.args.pass.now.number o p (d.doorway c.loop-alloc.w.door) c.loop-alloc.w.served.items inv.tales c.make_room.ensures.door inv.worked in
    let p' : WorkerSpot g.row.M.Denot g.row.D-L.Denot = record { pass = c.serve_next.new.pass; clock = k.readings c.serve_next.new.w.clock; door = d.doorway c.serve_next.new.w.door } in
    let y = goes_on g.D.L.Link.traffic c.args.policy.now (g.M.Keeps.list root) (m.legal root) (m.now_of root) c.args.pass.now.number c.loop-alloc.pass.number o p p'
    c.loop-alloc.w.served.items c.make_room.new.list.items c.serve_next.new.w.served.items inv.tales None
    inv.number c.make_room.ensures.items worked inv.unworn c.in_default.ensures.works in
    let one = c.in_default.ensures.one refl in
    let kept = ap (λ (ss : List (Served g.row.D-L.Denot)). length ss) c.make_room.ensures.items in
    let calls = inv.calls in
    let more = c.in_default.ensures.calls in
    let count = c.len.ensures in
    let low = c.loop-alloc-test.true in
    record {
      tales = y.0;
      worked = y.1;
      unworn = y.2.0;
      idle = c.in_default.ensures.pass.0;
      number = c.in_default.ensures.pass.1 ∙ inv.number;
      calls = omega (arith, one, kept, calls, more);
      few = omega (arith, one, kept, count, low);
      tally = y.2.1 ∙ (ap (λ (e : Doorway g.row.D-L.Denot). e.tally) c.make_room.ensures.door ∙ inv.tally);
    }

pub returns-then-is_err-clause-works : goal.returns-then-is_err-clause-works
returns-then-is_err-clause-works g c =
    let m = g.M.Machine in
    let root = c.args.desk.now.root in
    let inv = c.loop-alloc.invariant in
    let k = g.C.Clock in
    let d = g.D.Door in
    let traffic = g.D.L.Link.traffic in
    let v = service c.args.policy.now (g.M.Keeps.list root) (m.legal root) (m.now_of root) in
    let o : WorkerSpot g.row.M.Denot g.row.D-L.Denot = record { pass = c.args.pass.now; clock = k.readings c.args.w.now.clock; door = d.doorway c.args.w.now.door } in
    let p : WorkerSpot g.row.M.Denot g.row.D-L.Denot = record { pass = c.loop-alloc.pass; clock = k.readings c.loop-alloc.w.clock; door = d.doorway c.make_room.new.door } in
    let worked = at_rest traffic v c.args.pass.now.number o p (d.doorway c.loop-alloc.w.door) c.loop-alloc.w.served.items inv.tales c.make_room.ensures.door inv.worked in
    let few : length c.loop-alloc.w.served.items < MAX_LINKS = let len = c.len.ensures in let low = c.loop-alloc-test.true in omega (arith, len, low) in
    subst (λ (ss : List (Served g.row.D-L.Denot)). WorksThrough traffic v c.args.pass.now.number o p ss Memory) (sym c.make_room.ensures.items)
    (record { tales = inv.tales; worked = worked; cause = (inv.unworn, few, ap (λ (e : Doorway g.row.D-L.Denot). e.tally) c.make_room.ensures.door ∙ inv.tally) })
