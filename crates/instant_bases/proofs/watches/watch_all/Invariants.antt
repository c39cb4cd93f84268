use Rattle.std.proofs.Common.{◌≡◌, take}
use Rattle.instant_bases.proofs.watches.watch_all.Given as goal

-- the periods so far
abbrev pub invariant-loop-p : goal.invariant-loop-p
invariant-loop-p l = l.watches.items ≡ take l.p-index l.periods
