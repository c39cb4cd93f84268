use Rattle.history_laws.proofs.Quieting.{quiet_settles, empty_is_quiet, passed_are_quiet}
use Rattle.history_laws.proofs.policies.quiet_minutes.Goals as goal

pub returns : goal.returns
returns c = record { settles = quiet_settles; empty = empty_is_quiet; passed = passed_are_quiet }
