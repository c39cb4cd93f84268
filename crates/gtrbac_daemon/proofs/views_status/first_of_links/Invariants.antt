use Rattle.std.proofs.Common.{◌≡◌, drop}
use Rattle.snapshot_readers.specs.Crew.{all_lens}
use Rattle.gtrbac_daemon.specs.Views.{first_above}
use Rattle.gtrbac_daemon.proofs.views_status.first_of_links.Given as goal

abbrev pub invariant-loop-link : goal.invariant-loop-link
invariant-loop-link g l = first_above l.len (all_lens l.served) ≡ first_above l.len (all_lens (drop l.link-index l.served))
