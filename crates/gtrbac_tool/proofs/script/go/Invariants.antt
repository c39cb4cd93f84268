use Rattle.std.proofs.Common.{◌-◌}
use Rattle.core_machine.specs.Books.{now_in}
use Rattle.gtrbac_tool.proofs.script.go.Given as goal
use Rattle.gtrbac_tool.proofs.Steps.{Ticked}

-- the ticks so far lead there
abbrev pub invariant-loop-minute : goal.invariant-loop-minute
invariant-loop-minute l = Ticked l.minute l.initial.book l.book

abbrev pub decreases-loop-minute : goal.decreases-loop-minute
decreases-loop-minute l = l.minute - now_in l.book
