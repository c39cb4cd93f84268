use Rattle.std.proofs.Common.{◌≡◌, ◌≤◌, ℕ, List, [], length}
use Rattle.std.specs.Io.KnownBytes.{Appends}
use Rattle.request_text.specs.Fitting.{FitPages}
use Rattle.gtrbac_daemon.specs.Pages.{text_from}
use Rattle.gtrbac_daemon.proofs.printing.write_pages.Given as goal

abbrev pub invariant-loop-left : goal.invariant-loop-left
invariant-loop-left g l =
    let sink = g.K.Sink in
    record {
      text : List ℕ;
      all : text_from l.policy l.fn.page.items l.entries ≡ text_from l.policy text l.left;
      written : Appends (sink.output l.fn.out).written (sink.output l.out).written text;
      fit : FitPages l.policy.policy l.left;
      empty : l.page.items ≡ [];
      room : 33_584 ≤ l.page.spare;
      kept : (sink.output l.out).faults ≡ (sink.output l.fn.out).faults;
    }

abbrev pub decreases-loop-left : goal.decreases-loop-left
decreases-loop-left g l = length l.left
