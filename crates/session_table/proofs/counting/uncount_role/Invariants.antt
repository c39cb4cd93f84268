use Rattle.std.proofs.Common.{not}
use Rattle.gtrbac_model.specs.Sessions.{is_active_in}
use Rattle.session_table.specs.Counting.{AreCounted}
use Rattle.session_table.proofs.Counts.{rest}
use Rattle.session_table.proofs.counting.uncount_role.Given as goal

abbrev pub invariant-loop-a : goal.invariant-loop-a
invariant-loop-a l = AreCounted l.counts.entries (rest (λ a. not (is_active_in l.session l.role a)) l.active l.a-index)
