use Rattle.std.proofs.Common.{take}
use Rattle.hybrid_hierarchy.proofs.Listing.{Nearest}
use Rattle.hybrid_hierarchy.proofs.walks.next_listed.Given as goal

abbrev pub invariant-loop-r : goal.invariant-loop-r
invariant-loop-r l = Nearest (take l.r-index l.roles) l.low l.next
