use Rattle.walk_laws.proofs.Closing.{cycle_is, tells, safe_of, no_cycle_of}
use Rattle.walk_laws.proofs.laws.computed_cycle_is_least.Goals as goal

pub returns : goal.returns
returns c = record { least = cycle_is; tells = tells; safe = λ rules. (no_cycle_of rules, safe_of rules) }
