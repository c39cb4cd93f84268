use Rattle.std.proofs.Common.{◌≡◌, ◌≤◌, ◌-◌, ◌*◌, List, length}
use Rattle.gt_base.specs.declared.limits.TheConstants.{MAX_LINKS}
use Rattle.snapshot_readers.specs.Crew.{ViewTale, ViewedSoFar}
use Rattle.connection_laws.specs.Doors.{AddUp}
use Rattle.snapshot_readers.specs.Viewing.{SameGlassRoot}
use Rattle.snapshot_readers.proofs.viewers.view_on.Given as goal

abbrev pub invariant-loop-door : goal.invariant-loop-door
invariant-loop-door g l =
    let d = g.D.Door in
    record {
      tales : List (ViewTale g.row.D-L.Denot);
      worked : ViewedSoFar g.D.L.Link.traffic l.policy l.fn.glass.birth (record { seen = l.fn.glass.seen; door = d.doorway l.fn.door }) (record { seen = l.glass.seen; door = d.doorway l.door }) l.served.items tales;
      counted : AddUp (d.doorway l.fn.door).links (d.doorway l.door).links l.served.items;
      glass : SameGlassRoot l.fn.glass l.glass;
      calls : l.calls ≤ 67_108_864 * length l.served.items;
      few : length l.served.items ≤ MAX_LINKS;
      tally : (d.doorway l.door).tally ≡ (d.doorway l.fn.door).tally;
    }

abbrev pub decreases-loop-door : goal.decreases-loop-door
decreases-loop-door g l = MAX_LINKS - length l.served.items
