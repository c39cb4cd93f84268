use Rattle.session_table.specs.Counting.{AreCounted}
use Rattle.session_table.specs.Opened.{role_in}
use Rattle.session_table.proofs.Counts.{rest}
use Rattle.session_table.proofs.counting.uncount_unlisted.Given as goal

abbrev pub invariant-loop-a : goal.invariant-loop-a
invariant-loop-a l = AreCounted l.counts.entries (rest (λ a. role_in l.sessions a.session a.role) l.active l.a-index)
