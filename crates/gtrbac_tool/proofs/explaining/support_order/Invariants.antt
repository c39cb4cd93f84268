use Rattle.std.proofs.Common.{◌+◌, ◌*◌, length}
use Rattle.gt_base.specs.Sets.{has}
use Rattle.gtrbac_tool.specs.Listing.{Tracks}
use Rattle.gtrbac_tool.proofs.ListingOrder.{IsOnWay, Waits, unlisted}
use Rattle.gtrbac_tool.proofs.explaining.support_order.Given as goal

-- the events so far are of the set and have support, the base is among them, and each trigger that
-- adds to them waits
abbrev pub invariant-loop-t : goal.invariant-loop-t
invariant-loop-t l =
    record {
      tracks : Tracks l.x l.order;
      on_way : IsOnWay l.rules l.base.set (has l.before.set) l.x l.order.events.items;
      waits : Waits l.rules l.base.set (has l.before.set) l.x l.order.events.items l.pending.items;
    }

-- the heads that are not listed, and the triggers that wait
abbrev pub decreases-loop-t : goal.decreases-loop-t
decreases-loop-t l = unlisted l.rules l.order.events.items * (length l.rules + 1) + length l.pending.items
