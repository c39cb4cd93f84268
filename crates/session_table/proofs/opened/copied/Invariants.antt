use Rattle.std.proofs.Common.{◌≡◌, take}
use Rattle.session_table.proofs.opened.copied.Given as goal

abbrev pub invariant-loop-session : goal.invariant-loop-session
invariant-loop-session l = l.copy.items ≡ take l.session-index l.sessions
