use Rattle.std.proofs.Common.{◌≡◌, take}
use Rattle.instant_bases.proofs.watches.copied_watches.Given as goal

-- the periods so far
abbrev pub invariant-loop-w : goal.invariant-loop-w
invariant-loop-w l = l.copies.items ≡ take l.w-index l.watches
