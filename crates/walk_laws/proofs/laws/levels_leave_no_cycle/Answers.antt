use Rattle.walk_laws.proofs.Levels as levels
use Rattle.walk_laws.proofs.laws.levels_leave_no_cycle.Goals as goal

pub returns : goal.returns
returns c = record { numbers = levels.levels_leave_no_cycle; events = levels.levels_leave_no_cycle }
