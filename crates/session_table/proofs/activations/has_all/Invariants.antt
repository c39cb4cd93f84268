use Rattle.std.proofs.Common.{◌≤◌, count_by, take}
use Rattle.session_table.specs.Opened.{in_session}
use Rattle.session_table.proofs.activations.has_all.Given as goal

abbrev pub invariant-loop-a : goal.invariant-loop-a
invariant-loop-a l = l.found ≤ count_by (in_session l.session) (take l.a-index l.active)
