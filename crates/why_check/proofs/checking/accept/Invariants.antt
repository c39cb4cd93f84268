use Rattle.std.proofs.Common.{◌≤◌, length, take}
use Rattle.gtrbac_model.specs.History.{Legal}
use Rattle.gtrbac_model.specs.Status.{Model}
use Rattle.why_check.proofs.checking.accept.Given as goal
use Rattle.why_check.proofs.Replaying.{HasReached}

-- the front of the certificate is right up to the entries so far
abbrev pub invariant-loop-entry : goal.invariant-loop-entry
invariant-loop-entry l =
    record {
      within : l.place ≤ length l.cert;
      reached : (m : Model) → Legal l.policy.policy l.fn.birth l.entries.items m → HasReached l.policy.policy l.fn.birth l.entries.items m (take l.entry-index l.entries.items) (take l.place l.cert) l.replay;
    }
