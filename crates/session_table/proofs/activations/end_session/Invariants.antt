use Rattle.std.proofs.Common.{◌+◌, ◌-◌, ◌≤◌, false, length, vec_len, vec_capacity}
use Rattle.gtrbac_model.specs.Sessions.{signal_of}
use Rattle.session_table.specs.Opened.{in_session}
use Rattle.session_table.proofs.Ending.{Ends}
use Rattle.session_table.proofs.activations.end_session.Given as goal

abbrev pub invariant-loop-at : goal.invariant-loop-at
invariant-loop-at l = record {
  ends : Ends (in_session l.session) (signal_of false) l.initial.active.items l.active.items l.initial.signals.items l.signals.items l.at l.left;
  room : vec_len l.signals + l.left ≤ vec_capacity l.signals;
}

abbrev pub decreases-loop-at : goal.decreases-loop-at
decreases-loop-at l = length l.active.items - l.at
