use Rattle.std.proofs.Common.{◌≡◌}
use Rattle.instant_bases.proofs.watches.pass_all.Given as goal

-- passing changes no period
abbrev pub invariant-loop-w : goal.invariant-loop-w
invariant-loop-w l = l.w-items ≡ l.initial.w-items
