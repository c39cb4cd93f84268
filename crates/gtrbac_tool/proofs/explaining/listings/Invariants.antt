use Rattle.std.proofs.Common.{◌≡◌, List, ◌++◌, drop}
use Rattle.gt_base.specs.Sets.{has}
use Rattle.why_check.specs.Certificates.{Listed}
use Rattle.gtrbac_tool.specs.Listing.{AreListings, AreSettled, OnlyLastReaches}
use Rattle.gtrbac_tool.specs.Standing.{made_before}
use Rattle.gtrbac_tool.proofs.explaining.listings.Given as goal

-- what is left is settled, its listings after those so far are the listings of all, and what it makes
-- of the status so far is what all make of the first
abbrev pub invariant-loop-closed : goal.invariant-loop-closed
invariant-loop-closed l =
    record {
      settled : AreSettled l.rules (has l.before.set) (drop l.closed-index l.trace);
      so_far : (ls : List Listed) → AreListings l.rules (has l.before.set) (drop l.closed-index l.trace) ls → AreListings l.rules (has l.opening.set) l.trace (l.cert ++ ls);
      ends : OnlyLastReaches l.now (drop l.closed-index l.trace);
      made : made_before l.now (drop l.closed-index l.trace) (has l.before.set) ≡ made_before l.now l.trace (has l.opening.set);
    }
