use Rattle.std.proofs.Common.{◌≡◌, drop, find}
use Rattle.gtrbac_model.specs.Sessions.{is_active_in}
use Rattle.session_table.proofs.activations.find_active.Given as goal

abbrev pub invariant-loop-a : goal.invariant-loop-a
invariant-loop-a l = find (is_active_in l.session l.role) l.active ≡ find (is_active_in l.session l.role) (drop l.a-index l.active)
