use Rattle.std.proofs.Common.{◌≡◌}
use Rattle.gt_io.proofs.link.make_room.Given as goal

abbrev pub invariant-loop : goal.invariant-loop
invariant-loop g l =
    record {
      door : g.D.Door.doorway l.door ≡ g.D.Door.doorway l.fn.door;
      items : l.list.items ≡ l.fn.list.items;
    }
