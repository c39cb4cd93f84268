use Rattle.std.proofs.Common.{◌≡◌, drop}
use Rattle.snapshot_readers.specs.Seats.{watchers}
use Rattle.gtrbac_daemon.specs.Views.{first_above, numbers_of}
use Rattle.gtrbac_daemon.proofs.views_status.first_of_viewers.Given as goal

abbrev pub invariant-loop-viewer : goal.invariant-loop-viewer
invariant-loop-viewer g l = first_above l.len (numbers_of (watchers g.D.Door.doorway l.viewers)) ≡ first_above l.len (numbers_of (watchers g.D.Door.doorway (drop l.viewer-index l.viewers)))
