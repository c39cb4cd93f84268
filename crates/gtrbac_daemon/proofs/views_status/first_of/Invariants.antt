use Rattle.std.proofs.Common.{◌≡◌, drop}
use Rattle.gtrbac_daemon.specs.Views.{first_above}
use Rattle.gtrbac_daemon.proofs.views_status.first_of.Given as goal

abbrev pub invariant-loop-n : goal.invariant-loop-n
invariant-loop-n l = first_above l.len l.numbers ≡ first_above l.len (drop l.n-index l.numbers)
