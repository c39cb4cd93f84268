use Rattle.std.proofs.Common.{◌≡◌}
use Rattle.instant_bases.proofs.watches.ask_entries.Given as goal

-- asking changes no period
abbrev pub invariant-loop-e : goal.invariant-loop-e
invariant-loop-e l = l.watches ≡ l.initial.watches
