use Rattle.std.proofs.Common.{◌≡◌}
use Rattle.instant_bases.proofs.watches.ask_limits.Given as goal

-- asking changes no period
abbrev pub invariant-loop-limit : goal.invariant-loop-limit
invariant-loop-limit l = l.watches ≡ l.initial.watches
