use Rattle.snapshot_readers.specs.Crew.{ViewerSpot}
use Rattle.snapshot_readers.proofs.Linking.{works_closed}
use Rattle.snapshot_readers.proofs.viewers.view.Goals as goal

pub returns-clause-works : goal.returns-clause-works
returns-clause-works g c =
    let d = g.D.Door in
    let o : ViewerSpot g.row.D-L.Denot = record { seen = c.args.glass.now.seen; door = d.doorway c.args.viewer.now.door } in
    let p : ViewerSpot g.row.D-L.Denot = record { seen = c.view_on-viewer.new.glass.seen; door = d.doorway c.view_on-viewer.new.door } in
    works_closed g.D.L.Link.traffic c.args.policy.now c.args.glass.now.birth o p (d.doorway c.close.new.self) c.view_on-viewer.new.served.items c.view_on-viewer.result c.close.ensures c.view_on-viewer.ensures.works
